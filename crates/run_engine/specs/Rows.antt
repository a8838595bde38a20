-- A row of tasks of one kind, each with its meter, and a last task of another kind.
use Rattle.std.specs.Prelude.{◌≡◌, ℕ, ◌≤◌, List, [], ◌∷◌, length, drop, slice_index_or}
use Rattle.worker_claims.specs.Hands.{IsWorked, AllReady}
use Rattle.run_engine.specs.declared.task.Task.{Task}
use Rattle.run_engine.specs.declared.task.Task.TheVariants.{Work, Sweep}

module _ {A M B : Type 0} where
  -- Each item with the meter at its place, then the last task. Meters after the items are in no task.
  abbrev pub row_of : List A → List M → B → List (Task A M B)
  row_of [] meters last = Sweep last ∷ []
  row_of (a ∷ items) [] last = Sweep last ∷ []
  row_of (a ∷ items) (m ∷ meters) last = Work a m ∷ row_of items meters last

  -- The tasks are a row of this kind.
  pub record IsRow (row : List (Task A M B)) : Type 0 where
    pub items : List A
    pub meters : List M
    pub last : B
    pub count : length meters ≡ length items
    pub is : row ≡ row_of items meters last

  -- Both are tasks of the row, or both the last task.
  abbrev pub SameKind : Task A M B → Task A M B → Type 0
  SameKind (Work a m) (Work b n) = Unit {0}
  SameKind (Work a m) (Sweep y) = ⊥
  SameKind (Sweep x) (Work b n) = ⊥
  SameKind (Sweep x) (Sweep y) = Unit {0}

  -- Each task of the row, and the last one, may be done.
  abbrev pub IsRowReady : List A → List M → B → (ℕ → Task A M B → Type 0) → Type 0
  IsRowReady items meters last ready = AllReady ready (row_of items meters last)

  -- At each place the old task and the new one are in the worker's relation, and no other meter changed.
  pub record IsRowWorked (items : List A) (meters : List M) (last : B) (items_now : List A) (meters_now : List M) (last_now : B) (works : ℕ → Task A M B → Task A M B → Type 0) : Type 0 where
    pub count : length items_now ≡ length items
    pub meters_count : length meters_now ≡ length meters
    pub others : drop (length items) meters_now ≡ drop (length items) meters
    pub worked : IsWorked works (row_of items meters last) (row_of items_now meters_now last_now)

-- The meters after the first are unchanged.
pub record OthersStay {M : Type 0} (first : ℕ) (old new : List M) : Type 0 where
  pub count : length new ≡ length old
  pub same : (k : ℕ) (d : M) → first ≤ k → slice_index_or new k d ≡ slice_index_or old k d
