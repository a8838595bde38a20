use Rattle.std.proofs.Common.{ap, ◌∙◌}
use Rattle.memo_server.specs.Views.{update_at, pinned_view}
use Rattle.memo_server.proofs.Places.{set-update, set-same, on_ok, on_err}
use Rattle.memo_server.proofs.live_entries.LiveEntries.pin.Goals as goal

pub returns-clause-ok : goal.returns-clause-ok
returns-clause-ok g c = on_ok c.pin.result c.pin.ensures.ok (λ is. set-update c.self.inside.map.entries c.args.place _ _ _ (pinned_view c.args.caller c.args.run) c.pair_mut-entry.ensures.value is ∙ ap (update_at c.args.place (pinned_view c.args.caller c.args.run)) c.self.view_is)

pub returns-clause-err : goal.returns-clause-err
returns-clause-err g c = on_err c.pin.result c.pin.ensures.err (λ is. set-same c.self.inside.map.entries c.args.place _ _ _ c.pair_mut-entry.ensures.value is ∙ c.self.view_is)
