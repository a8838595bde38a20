use Rattle.std.proofs.Common.{ap, ◌∙◌}
use Rattle.memo_server.specs.Views.{update_at, released_view}
use Rattle.memo_server.proofs.Places.{set-update}
use Rattle.memo_server.proofs.live_entries.LiveEntries.release.Goals as goal

pub returns : goal.returns
returns g c = set-update c.self.inside.map.entries c.args.place _ _ _ (released_view c.args.caller) c.pair_mut-entry.ensures.value c.release.ensures ∙ ap (update_at c.args.place (released_view c.args.caller)) c.self.view_is
