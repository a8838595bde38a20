-- What a clause says of a board and of its hands.
use Rattle.std.specs.Prelude.{◌≡◌, ℕ, ◌<◌, ◌≤◌, ◌⊎◌, List, length, Option, Some, None}
use mathlib.Core.Option.{some}
use lib.ListN.{get_elem?}
use Rattle.worker_claims.specs.declared.knowledge.Doing.{Doing}
use Rattle.worker_claims.specs.declared.knowledge.Doing.TheVariants.{Free, HasTask, Ended}
use Rattle.worker_claims.specs.Views.{BoardView, HandView}
use Rattle.worker_claims.specs.Rule.{one_if}
use Rattle.shared_seats.specs.Seats.{total}

-- It has no task.
abbrev pub HoldsNone : Doing → Type 0
HoldsNone Free = Unit {0}
HoldsNone (Ended n) = Unit {0}
HoldsNone _ = ⊥

-- It got no task when it asked for one.
abbrev pub HasEnded : Doing → Type 0
HasEnded (Ended n) = Unit {0}
HasEnded _ = ⊥

module _ {T : Type 0} where
  abbrev pub IsHandOf : BoardView T → HandView T → Type 0
  IsHandOf b h = (h.board ≡ b.id) × (h.tasks ≡ b.tasks)

  -- What a claim returns: no task if the number found is no task's, or if the hand has ended before; otherwise the task
  -- of that number.
  abbrev pub IsClaim : List T → Doing → Doing → Option (ℕ × T) → Type 0
  IsClaim tasks old new None = (n : ℕ) × (new ≡ Ended n) × (length tasks ≤ n) × ((old ≡ Free) ⊎ (old ≡ Ended n))
  IsClaim tasks old new (Some c) = (old ≡ Free) × (new ≡ HasTask c.0) × (get_elem? tasks c.0 ≡ some c.1)

  -- Each task may be done.
  abbrev pub AllReady : (ℕ → T → Type 0) → List T → Type 0
  AllReady ready tasks = (k : ℕ) (x : T) → get_elem? tasks k ≡ some x → ready k x

  -- The gate was passed for the task of this number, and the task was done.
  abbrev pub gated : (ℕ → Type 0) → (ℕ → T → T → Type 0) → ℕ → T → T → Type 0
  gated passed works k x y = passed k × works k x y

  -- Each given task is the done task of its number.
  abbrev pub AllWorked : (ℕ → T → T → Type 0) → List T → List (ℕ × T) → Type 0
  AllWorked works tasks given = (i k : ℕ) (t : T) → get_elem? given i ≡ some (k, t) → (x : T) × (get_elem? tasks k ≡ some x) × works k x t

  -- Some hand gave this task with this number.
  abbrev pub Gave : List (HandView T) → ℕ → T → Type 0
  Gave hands k t = (j : ℕ) × (h : HandView T) × (i : ℕ) × (get_elem? hands j ≡ some h) × (get_elem? h.given i ≡ some (k, t))

  -- How often a number was given.
  abbrev pub times : ℕ → List (ℕ × T) → ℕ
  times k given = total (λ (g : ℕ × T). one_if k g.0) given

  -- How often a number was given by all hands.
  abbrev pub times_by : ℕ → List (HandView T) → ℕ
  times_by k hands = total (λ (h : HandView T). times k h.given) hands

  -- At each place is the task that a hand gave with its number, and each number was given once.
  pub record IsClosed (tasks : List T) (hands : List (HandView T)) (left : List T) : Type 0 where
    pub count : length left ≡ length tasks
    pub given : (k : ℕ) (t : T) → get_elem? left k ≡ some t → Gave hands k t
    pub once : (k : ℕ) → k < length tasks → times_by k hands ≡ 1

  -- At each place the old task and the new one are in the worker's relation.
  pub record IsWorked (works : ℕ → T → T → Type 0) (tasks done : List T) : Type 0 where
    pub count : length done ≡ length tasks
    pub each : (k : ℕ) (x y : T) → get_elem? tasks k ≡ some x → get_elem? done k ≡ some y → works k x y
