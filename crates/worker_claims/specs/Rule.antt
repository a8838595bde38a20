-- The rule of the board. Word 0 is the number that is claimed next, and each slot has a task.
use Rattle.std.specs.Prelude.{◌≡◌, ℕ, ◌+◌, ◌-◌, ◌^◌, ◌<◌, ◌≤◌, ◌⊎◌, Bool, true, false, cond, eqb, List, [], ◌∷◌, ◌++◌, length, Option, Some, None}
use mathlib.Core.Option.{some}
use mathlib.Core.Option as maybe
use lib.ListN.{get_elem?}
use Rattle.atomic_table.specs.Table.{State, Me, Step}
use Rattle.shared_seats.specs.Seats.{total}
use Rattle.worker_claims.specs.declared.knowledge.View.{View}
use Rattle.worker_claims.specs.declared.knowledge.Doing.{Doing}
use Rattle.worker_claims.specs.declared.knowledge.Doing.TheVariants.{Spent, Free, HasTask, Ended}

-- Not spent.
abbrev pub Live : Doing → Type 0
Live Spent = ⊥
Live _ = Unit {0}

-- 1 if the numbers are equal, else 0.
abbrev pub one_if : ℕ → ℕ → ℕ
one_if k n = cond (eqb k n) 1 0

-- How often the number is in hand.
abbrev pub in_hand : ℕ → Doing → ℕ
in_hand k (HasTask n) = one_if k n
in_hand k _ = 0

-- How many of the hands may still come for a task.
abbrev pub comers : ℕ → Doing → ℕ
comers n Spent = 0
comers n (Ended k) = 0
comers n _ = n

module _ {T : Type 0} where
  -- The slots that a hand holds, and its note that it has ended, fit what it is doing.
  abbrev pub Carries : List T → Doing → Bool → List (ℕ × Option T) → Type 0
  Carries tasks Spent ended slots = ⊥
  Carries tasks Free ended slots = (ended ≡ false) × (slots ≡ [])
  Carries tasks (HasTask k) ended slots = (ended ≡ false) × (slots ≡ (k, None) ∷ [])
  Carries tasks (Ended n) ended slots = (ended ≡ true) × (slots ≡ []) × (length tasks ≤ n)

  -- A view, by its parts.
  abbrev pub made : ℕ → List T → Doing → List (ℕ × T) → View T
  made parts tasks doing given = record { parts = parts; tasks = tasks; doing = doing; given = given }

  -- The first view, which represents all hands.
  abbrev pub newcomer : List T → ℕ → View T
  newcomer tasks hands = made hands tasks Free []

  -- What is left of a view that went into another.
  abbrev pub spent : View T
  spent = made 0 [] Spent []

  -- A view and a new one, when a hand is made.
  abbrev pub without_one : View T → View T
  without_one v = made (v.parts - 1) v.tasks v.doing v.given

  abbrev pub the_one : View T → View T
  the_one v = made 1 v.tasks Free []

  -- A view that another was joined into.
  abbrev pub with : View T → View T → View T
  with v w = made (v.parts + w.parts) v.tasks v.doing (v.given ++ w.given)

  -- The same view, doing something else.
  abbrev pub at_work : Doing → View T → View T
  at_work d v = made v.parts v.tasks d v.given

  -- The task of this number was given back.
  abbrev pub has_given : ℕ → T → View T → View T
  has_given k t v = made v.parts v.tasks Free (v.given ++ (k, t) ∷ [])

  -- How often the number is among what was given or is in hand.
  abbrev pub has : ℕ → View T → ℕ
  has k v = in_hand k v.doing + total (λ (g : ℕ × T). one_if k g.0) v.given

  abbrev pub parts : View T → ℕ
  parts v = v.parts

  abbrev pub rest_of : View T → ℕ
  rest_of v = comers v.parts v.doing

  -- A number in hand is a task's and was claimed; a hand has ended at a number that is no task's.
  abbrev pub InDoing : List T → ℕ → Doing → Type 0
  InDoing tasks word (Ended n) = (length tasks ≤ n) × (n < word)
  InDoing tasks word (HasTask k) = (k < length tasks) × (k < word)
  InDoing tasks word _ = Unit {0}

  -- One view fits the tasks and the next number.
  pub record SeatFits (tasks : List T) (word : ℕ) (v : View T) : Type 0 where
    pub tasks_are : v.tasks ≡ tasks
    pub some_part : 0 < v.parts
    pub doing : InDoing tasks word v.doing

  -- A number that was claimed is in hand, or was given.
  abbrev pub Claimed : List (View T) → List (maybe.Option (Option T)) → ℕ → Type 0
  Claimed views homes k =
      ((j : ℕ) × (v : View T) × (get_elem? views j ≡ some v) × (v.doing ≡ HasTask k))
      ⊎ ((j : ℕ) × (v : View T) × (i : ℕ) × (t : T) × (get_elem? views j ≡ some v) × Live v.doing × (get_elem? v.given i ≡ some (k, t)) × (get_elem? homes k ≡ some (some (Some t))))

  -- What holds between any two steps.
  pub record ClaimRule (tasks : List T) (hands : ℕ) (s : State (Option T) (View T)) : Type 0 where
    -- The number that is claimed next.
    pub word : ℕ
    pub words_are : s.words ≡ word ∷ []
    pub limit : (length tasks < 2 ^ 32) × (hands ≤ 16)
    pub slots : length s.homes ≡ length tasks
    pub seats : (j : ℕ) (v : View T) → get_elem? s.views j ≡ some v → Live v.doing → SeatFits tasks word v
    pub gone : (j : ℕ) (v : View T) → get_elem? s.views j ≡ some v → v.doing ≡ Spent → v ≡ spent
    -- So the word does not wrap.
    pub few : word + total rest_of s.views ≤ length tasks + hands
    -- The views represent all hands.
    pub shared : total parts s.views ≡ hands
    -- A task that is not claimed is home, as it was handed in.
    pub fresh : (k : ℕ) (x : T) → word ≤ k → get_elem? tasks k ≡ some x → get_elem? s.homes k ≡ some (some (Some x))
    pub done : (k : ℕ) → k < word → k < length tasks → Claimed s.views s.homes k
    -- No number is claimed twice, and none before its time.
    pub once : (k : ℕ) → total (has k) s.views ≤ 1
    pub unclaimed : (k : ℕ) → word ≤ k → total (has k) s.views ≡ 0

  -- The number is greater than each number that was given.
  abbrev pub IsAbove : List (ℕ × T) → ℕ → Type 0
  IsAbove given n = (i k : ℕ) (t : T) → get_elem? given i ≡ some (k, t) → k < n

  -- What the steps show: the seat before, the number found, the seat after.
  abbrev pub claimed : Step (Option T) → Me (Option T) (View T) → ℕ → Me (Option T) (View T) → Type 0
  claimed st m r n = (r < length m.0.tasks → (x : T) × (get_elem? m.0.tasks r ≡ some x) × (n ≡ (at_work (HasTask r) m.0, (r, Some x) ∷ m.1)))
      × (length m.0.tasks ≤ r → n ≡ (at_work (Ended r) m.0, m.1))
      × IsAbove m.0.given r

  abbrev pub gave : Step (Option T) → Me (Option T) (View T) → ℕ → Me (Option T) (View T) → Type 0
  gave st m r n = (k : ℕ) (t : T) → m.0.doing ≡ HasTask k → m.1 ≡ (k, Some t) ∷ [] → n ≡ (has_given k t m.0, [])
