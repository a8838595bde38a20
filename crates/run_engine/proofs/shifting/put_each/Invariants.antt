use Rattle.std.proofs.Common.{◌≡◌, drop, vec_len, vec_capacity}
use mathlib.Core.List.{reverse}
use Rattle.record_text.specs.Shifts.{put_at}
use Rattle.run_engine.proofs.shifting.put_each.Given as goal

abbrev pub invariant-places : goal.invariant-places
invariant-places g l = record {
  items : put_at (drop l.i l.places) (drop l.i l.fn.fresh.items) l.items.items ≡ put_at l.places l.fn.fresh.items l.initial.items.items;
  rest : l.fresh.items ≡ reverse (drop l.i l.fn.fresh.items);
  room : (vec_len l.items ≡ vec_len l.initial.items) × (vec_capacity l.items ≡ vec_capacity l.initial.items);
}
