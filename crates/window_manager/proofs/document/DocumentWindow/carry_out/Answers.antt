use Rattle.std.proofs.Common.{sym, ap, ◌∙◌}
use Rattle.record_text.specs.declared.kind.Kind.{Kind}
use Rattle.window_manager.specs.Windows.{has_command}
use Rattle.window_manager.proofs.DocumentLaws.{has_no_other}
use Rattle.window_manager.proofs.document.DocumentWindow.carry_out.Goals as goal

pub unreachable-requires : goal.unreachable-requires
unreachable-requires c =
    has_no_other c.args.c c.in_default.not-File c.in_default.not-Remove c.in_default.not-Edit c.in_default.not-Load
    (ap (λ (k : Kind). has_command k c.args.c) (sym c.text_len.ensures.kind) ∙ c.requires.here)
