-- What a clause says of a turn, and of the end of a lock.
use Rattle.std.specs.Prelude.{◌≡◌, ℕ, ◌^◌, ◌<◌, ◌≤◌, ◌⊎◌, List, [], ◌∷◌, ◌++◌, length, ◌+◌, Option, Some, None}
use mathlib.Core.Option.{some}
use lib.ListN.{get_elem?}
use Rattle.turn_lock.specs.Rule.{Begins}
use Rattle.turn_lock.specs.declared.knowledge.Known.{Known}
use Rattle.turn_lock.specs.declared.tokens.Turned.{Turned}
use Rattle.turn_lock.specs.declared.tokens.Turned.TheVariants.{Worn}
use Rattle.turn_lock.specs.Under.{under}

-- The call's check found the carried ticket, which is at the limit or above, and the pass has seen and done nothing
-- more.
pub record WornOut (ticket : ℕ) {E : Type 0} (v w : Known E) : Type 0 where
  pub limit : 2 ^ 62 ≤ ticket
  pub read : w.read ≡ ticket
  pub seen : w.seen ≡ v.seen
  pub mine : w.mine ≡ v.mine
  pub grows : v.read ≤ w.read

-- The refusal hands back what was asked.
abbrev pub WasWorn : {O E : Type 0} → O → Turned O → Known E → Known E → Type 0
WasWorn op (Worn ticket op') v w = (op' ≡ op) × WornOut ticket v w

module _ {E O R : Type 0} (whose : E → Option ℕ) (answers : E → O → R → Type 0) (legal : List E → Type 0) where
  -- The history that was seen goes on with entries that are not under this number, and then with this call's entry.
  pub record Played (op : O) (reply : R) (v w : Known E) : Type 0 where
    pub entry : E
    pub between : List E
    pub seen : w.seen ≡ (v.seen ++ between) ++ entry ∷ []
    pub others : under whose v.number between ≡ []
    pub answer : answers entry op reply
    pub stands : (whose entry ≡ Some v.number) ⊎ (whose entry ≡ None)
    pub mine : w.mine ≡ v.mine ++ under whose v.number (entry ∷ [])
    pub same : under whose v.number w.seen ≡ w.mine
    pub lawful : legal w.seen
    pub read : w.read < 2 ^ 62
    pub grows : v.read ≤ w.read

module _ {E : Type 0} (whose : E → Option ℕ) where
  -- The final history begins with what each pass has seen, and one pass has seen all of it; the entries under a pass's
  -- number are its own, and each number is that of a pass.
  pub record Closes (start : ℕ) (log : List E) (all : List (Known E)) : Type 0 where
    pub each : (i : ℕ) (x : Known E) → get_elem? all i ≡ some x → Begins log x.seen × (under whose x.number log ≡ x.mine) × (x.read ≤ start + length log)
    pub last : (i : ℕ) × (x : Known E) × (get_elem? all i ≡ some x) × (x.seen ≡ log)
    pub numbers : (n : ℕ) → ¬ (under whose n log ≡ []) → (i : ℕ) × (x : Known E) × (get_elem? all i ≡ some x) × (x.number ≡ n)
