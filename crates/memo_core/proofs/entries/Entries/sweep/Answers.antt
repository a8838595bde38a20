use Rattle.std.proofs.Common.{rules, ap, ◌∙◌, filter, not}
use Rattle.std.proofs.lemmas.Fn.{filter_same}
use Rattle.memo_core.specs.declared.entries.CoreEntry.{CoreEntry}
use Rattle.memo_core.specs.Machine.{is_swept}
use Rattle.memo_core.proofs.entries.Entries.sweep.Goals as goal

pub returns : goal.returns
returns c = filter_same _ (λ (e : CoreEntry). not (is_swept c.args.horizon e)) _ (λ x b q call. search rules) _ _ c.retain.ensures.filtered ∙ ap (filter (λ (e : CoreEntry). not (is_swept c.args.horizon e))) c.self.view_is
