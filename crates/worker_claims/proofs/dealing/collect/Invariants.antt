use Rattle.std.proofs.Common.{◌≡◌, ◌<◌, ◌≤◌, ℕ, false, map, take, get_or, vec_len, vec_capacity, Some}
use Rattle.std.specs.Slots.{slots_items, slots_filled, slots_len}
use Rattle.worker_claims.proofs.dealing.collect.Given as goal

abbrev pub invariant-loop-k : goal.invariant-loop-k
invariant-loop-k g l = record {
  items : slots_items l.closed.slots ≡ slots_items l.initial.closed.slots;
  long : slots_len l.closed.slots ≡ slots_len l.initial.closed.slots;
  row : map Some l.row.items ≡ take l.k (slots_items l.closed.slots);
  count : vec_len l.row ≡ l.k;
  room : vec_capacity l.row ≡ vec_capacity l.initial.row;
  gone : (j : ℕ) → j < l.k → get_or (slots_filled l.closed.slots) j false ≡ false;
  left : (j : ℕ) → l.k ≤ j → get_or (slots_filled l.closed.slots) j false ≡ get_or (slots_filled l.initial.closed.slots) j false;
}
