-- What calls cost that merge these inputs, if an input that the caller knows is free.
use Rattle.std.specs.Prelude.{◌⊎◌, ℕ, ◌+◌, ◌*◌, ◌≤◌, List, Contains, length}
use Rattle.job_laws.specs.declared.meter.Counts.{Counts}
use Rattle.job_laws.specs.Counted.{RoseBy}
use Rattle.pin_table.specs.Views.{CallerView}
use Rattle.pin_table.specs.OwnEvents.{Met, IsKnown}

module _ {X : Type 0} where
  -- Each of these is known, or in the list.
  abbrev pub Covers : (X → Type 0) → List X → List X → Type 0
  Covers known list xs = (x : X) → Contains xs x → known x ⊎ Contains list x

  -- A list that lost at least as many as were counted, and that together with what is then known has all that it had.
  abbrev pub Leaves : (X → Type 0) → ℕ → (X → Type 0) → ℕ → List X → List X → Type 0
  Leaves known before known_then after list rest = (after + length rest ≤ before + length list) × ((x : X) → known x ⊎ Contains list x → known_then x ⊎ Contains rest x)

  -- Whatever list covers these pays for what was counted, and what it leaves still covers what it covered.
  abbrev pub Pays : (X → Type 0) → ℕ → (X → Type 0) → ℕ → List X → Type 0
  Pays known before known_then after xs = (list : List X) → Covers known list xs → (rest : List X) × Leaves known before known_then after list rest

  -- Whatever list covers these pays for what was counted.
  abbrev pub PaidBy : (X → Type 0) → ℕ → ℕ → List X → Type 0
  PaidBy known before after xs = (list : List X) → Covers known list xs → after ≤ before + length list

-- Calls that merged these inputs, each at most once, with at most `keys` joins each. If the caller met neither a clash
-- nor a worn lock, the inputs that it knew were free, and it now knows them all.
pub record Merged (keys : ℕ) (u v : CallerView) (x y : Counts) (ds : List (List ℕ)) : Type 0 where
  pub counted : RoseBy 0 (length ds) (length ds * keys) x y
  pub pays : (Met u v → ⊥) → Pays (λ d. IsKnown d u) x.merges (λ d. IsKnown d v) y.merges ds

-- The same if memory ran out on the way: at most some of these inputs were merged.
pub record MergedSome (keys : ℕ) (u v : CallerView) (x y : Counts) (ds : List (List ℕ)) : Type 0 where
  pub counted : RoseBy 0 (length ds) (length ds * keys) x y
  pub paid : (Met u v → ⊥) → PaidBy (λ d. IsKnown d u) x.merges y.merges ds
