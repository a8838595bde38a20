-- What a clause sees of a lock and of a pass.
use Rattle.std.specs.Prelude.{ℕ, []}
use Rattle.atomic_table.specs.Seated.{TableId}
use Rattle.turn_lock.specs.declared.knowledge.Known.{Known}

-- A lock's name, which no other lock shares, its first ticket, and how many passes it was made with.
pub record LockView : Type 0 where
  pub id : TableId
  pub start : ℕ
  pub callers : ℕ

-- The lock of a pass, and what its holder knows.
pub record PassView (E : Type 0) : Type 0 where
  pub lock : TableId
  pub known : Known E

-- The pass with this number, before its first turn.
abbrev pub unplayed : {E : Type 0} → TableId → ℕ → PassView E
unplayed id n = record { lock = id; known = record { number = n; seen = []; mine = []; read = 0 } }
