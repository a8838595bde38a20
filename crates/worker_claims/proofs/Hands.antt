-- What a hand holds, by what it is doing.
use Rattle.std.proofs.Common.{◌≡◌, ℕ, Bool, false, List, [], refl}
use Rattle.std.specs.Prelude.{Option}
use Rattle.worker_claims.specs.declared.knowledge.Doing.{Doing}
use Rattle.worker_claims.specs.declared.knowledge.Doing.TheVariants.{Spent, Free, HasTask, Ended}
use Rattle.worker_claims.specs.Rule.{Carries}
use Rattle.worker_claims.specs.Hands.{HoldsNone}

module _ {T : Type 0} (tasks : List T) where
  pub free_of : (d : Doing) (ended : Bool) (slots : List (ℕ × Option T)) → ended ≡ false → HoldsNone d → Carries tasks d ended slots → (d ≡ Free) × (slots ≡ [])
  free_of Spent ended slots e h k = absurd k
  free_of Free ended slots e h k = (refl, k.1)
  free_of (HasTask n) ended slots e h k = absurd h
  free_of (Ended n) ended slots e h k = absurd (let a = k.0 in cc)
