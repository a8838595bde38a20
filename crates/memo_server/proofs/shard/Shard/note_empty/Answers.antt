use Rattle.std.proofs.Common.{◌∙◌, ap, arith}
use Rattle.memo_core.specs.Machine.{replayed}
use Rattle.memo_server.proofs.shard.Shard.note_empty.Goals as goal

pub invariant_of-self : goal.invariant_of-self
invariant_of-self g c = record {
  replays = ap replayed c.note_empty.ensures.0 ∙ c.self.invariant.replays;
  keys = c.self.invariant.keys;
  pins_are = c.self.invariant.pins_are;
  room = omega (arith, c.self.invariant.room, c.note_empty.ensures.2);
}
