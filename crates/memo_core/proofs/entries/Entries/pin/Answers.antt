use Rattle.std.proofs.Common.{ap, sym, ◌∙◌}
use Rattle.memo_core.specs.declared.entries.CoreEntry.{CoreEntry}
use Rattle.memo_core.specs.Machine.{pinned}
use Rattle.memo_core.proofs.Walks.{edited-set, edited-same}
use Rattle.memo_core.proofs.entries.Entries.pin.Goals as goal
use Rattle.memo_core.proofs.entries.Entries.pin.Goals.{then-entry-id+in_ok-pin, else-entry-id}

pub entries-preserved : goal.entries-preserved
entries-preserved c =
    elim c.if-entry-id.branch [
      | then-entry-id+in_ok-pin w ↦ edited-set c.args.id (pinned c.args.caller c.args.run) c.deref_mut-entry-items.result.now c.entries.entry-items c.if-entry-id.entry-items c.entries.entry-index c.entry-item.result w.pin.new.self c.entries-test.true c.entries.invariant c.entry-item.is (ap (λ (x : CoreEntry). x.id) c.entry-item.is ∙ w.if-entry-id.true) (w.in_ok-pin.ensures ∙ ap (pinned c.args.caller c.args.run) (sym c.entry-item.is)) w.entry-items-is
      | else-entry-id w ↦ edited-same c.args.id (pinned c.args.caller c.args.run) c.deref_mut-entry-items.result.now c.entries.entry-items c.if-entry-id.entry-items c.entries.entry-index c.entry-item.result c.entries-test.true c.entries.invariant c.entry-item.is (λ same. w.if-entry-id.false (ap (λ (x : CoreEntry). x.id) (sym c.entry-item.is) ∙ same)) w.entry-items-is
    ]
