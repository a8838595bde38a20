use Rattle.std.proofs.Common.{ap, ◌∙◌}
use Rattle.std.specs.List.{list_any}
use Rattle.memo_core.specs.Machine.{has_pin}
use Rattle.memo_server.specs.Views.{core_entries}
use Rattle.memo_server.specs.Shards.{ShardView}
use Rattle.memo_server.proofs.Entries.{core-has_pin}
use Rattle.memo_server.proofs.shard.Shard.has_pin.Goals as goal

pub returns : goal.returns
returns g c = c.has_pin.ensures ∙ core-has_pin c.args.caller c.args.id c.self.inside.live ∙ ap (λ (v : ShardView _ _). list_any (has_pin c.args.caller c.args.id) (core_entries v.live)) c.self.view_is
