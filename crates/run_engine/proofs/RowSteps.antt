-- Rows of tasks, item by item.
use Rattle.std.proofs.Common.{◌≡◌, ℕ, zero, suc, ◌+◌, ◌-◌, ◌<◌, ◌≤◌, List, [], ◌∷◌, ◌++◌, length, take, drop, refl, ap, sym, subst, append-nil, ◌∙◌, arith, append_assoc}
use Rattle.std.specs.Prelude.{slice_index_or}
use Rattle.std.specs.List.{remove}
use Rattle.std.proofs.lemmas.List.{nil_from_length, get_or-drop}
use mathlib.Core.Option.{some}
use lib.ListN.{get_elem?}
use Rattle.worker_claims.specs.Hands.{IsWorked}
use Rattle.run_engine.specs.declared.task.Task.{Task}
use Rattle.run_engine.specs.declared.task.Task.TheVariants.{Work, Sweep}
use Rattle.run_engine.specs.Rows.{row_of, IsRow, SameKind, IsRowWorked, OthersStay}

module _ {X : Type 0} where
  -- A list with a last item.
  pub record EndsWith (xs : List X) (n : ℕ) : Type 0 where
    pub init : List X
    pub last : X
    pub is : xs ≡ init ++ last ∷ []
    pub count : length init ≡ n

  pub ends-with : (xs : List X) (n : ℕ) → length xs ≡ n + 1 → EndsWith xs n
  ends-with [] n e = absurd (omega (arith, e))
  ends-with (x ∷ []) n e = record { init = []; last = x; is = refl; count = omega (arith, e) }
  ends-with (x ∷ y ∷ xs) zero e = absurd (omega (arith, e))
  ends-with (x ∷ y ∷ xs) (suc n) e =
      let r = ends-with (y ∷ xs) n (omega (arith, e)) in
      record { init = x ∷ r.init; last = r.last; is = ap (λ (l : List X). x ∷ l) r.is; count = ap suc r.count }

  -- The item in the middle, and the list without it.
  pub middle-removed : (init others : List X) (x : X) (n : ℕ) → length init ≡ n → remove ((init ++ x ∷ []) ++ others) n ≡ init ++ others
  middle-removed [] others x zero e = refl
  middle-removed [] others x (suc n) e = absurd (omega (arith, e))
  middle-removed (y ∷ init) others x zero e = absurd (omega (arith, e))
  middle-removed (y ∷ init) others x (suc n) e = ap (λ (l : List X). y ∷ l) (middle-removed init others x n (omega (arith, e)))

  pub middle-read : (init others : List X) (x d : X) (n : ℕ) → length init ≡ n → slice_index_or ((init ++ x ∷ []) ++ others) n d ≡ x
  middle-read [] others x d zero e = refl
  middle-read [] others x d (suc n) e = absurd (omega (arith, e))
  middle-read (y ∷ init) others x d zero e = absurd (omega (arith, e))
  middle-read (y ∷ init) others x d (suc n) e = middle-read init others x d n (omega (arith, e))

  -- One more was taken from the end of what is left.
  pub from-next : (init meters others : List X) (x : X) → (init ++ x ∷ []) ++ (meters ++ others) ≡ init ++ ((x ∷ meters) ++ others)
  from-next init meters others x = append_assoc init (x ∷ []) (meters ++ others)

module _ {A M B : Type 0} where
  abbrev pub works_of : List A → List M → List (Task A M B)
  works_of [] meters = []
  works_of (a ∷ items) [] = []
  works_of (a ∷ items) (m ∷ meters) = Work a m ∷ works_of items meters

  pub row-split : (items : List A) (meters : List M) (last : B) → length meters ≡ length items → row_of items meters last ≡ works_of items meters ++ Sweep last ∷ []
  row-split [] meters last e = refl
  row-split (a ∷ items) [] last e = absurd (omega (arith, e))
  row-split (a ∷ items) (m ∷ meters) last e = ap (λ (r : List (Task A M B)). Work a m ∷ r) (row-split items meters last (omega (arith, e)))

  -- Meters after the items are in no task.
  pub row-extra : (items : List A) (meters others : List M) (last : B) → length meters ≡ length items → row_of items (meters ++ others) last ≡ row_of items meters last
  row-extra [] meters others last e = refl
  row-extra (a ∷ items) [] others last e = absurd (omega (arith, e))
  row-extra (a ∷ items) (m ∷ meters) others last e = ap (λ (r : List (Task A M B)). Work a m ∷ r) (row-extra items meters others last (omega (arith, e)))

  pub row-take : (items : List A) (meters : List M) (last : B) → length items ≤ length meters → row_of items meters last ≡ row_of items (take (length items) meters) last
  row-take [] meters last e = refl
  row-take (a ∷ items) [] last e = absurd (omega (arith, e))
  row-take (a ∷ items) (m ∷ meters) last e = ap (λ (r : List (Task A M B)). Work a m ∷ r) (row-take items meters last (omega (arith, e)))

  -- A row that was done in its kinds is a row.
  pub worked-row : (works : ℕ → Task A M B → Task A M B → Type 0) → ((k : ℕ) (x y : Task A M B) → works k x y → SameKind x y)
      → (items : List A) (meters : List M) (last : B) → length meters ≡ length items → (done : List (Task A M B)) → IsWorked works (row_of items meters last) done
      → (now : IsRow done) × (length now.items ≡ length items)
  worked-row works kinds [] meters last e [] w = absurd (let c = w.count in omega (arith, c))
  worked-row works kinds [] meters last e (Sweep y ∷ []) w = (record { items = []; meters = []; last = y; count = refl; is = refl }, refl)
  worked-row works kinds [] meters last e (Sweep y ∷ z ∷ more) w = absurd (let c = w.count in omega (arith, c))
  worked-row works kinds [] meters last e (Work a m ∷ more) w = absurd (kinds 0 (Sweep last) (Work a m) (w.each 0 (Sweep last) (Work a m) refl refl))
  worked-row works kinds (a ∷ items) [] last e done w = absurd (omega (arith, e))
  worked-row works kinds (a ∷ items) (m ∷ meters) last e [] w = absurd (let c = w.count in omega (arith, c))
  worked-row works kinds (a ∷ items) (m ∷ meters) last e (Sweep y ∷ more) w = absurd (kinds 0 (Work a m) (Sweep y) (w.each 0 (Work a m) (Sweep y) refl refl))
  worked-row works kinds (a ∷ items) (m ∷ meters) last e (Work b n ∷ more) w =
      let rest = worked-row (λ k. works (suc k)) (λ k. kinds (suc k)) items meters last (omega (arith, e)) more (record { count = (let c = w.count in omega (arith, c)); each = λ k x y p q. w.each (suc k) x y p q }) in
      let now = rest.0 in
      (record { items = b ∷ now.items; meters = n ∷ now.meters; last = now.last; count = ap suc now.count; is = ap (λ (r : List (Task A M B)). Work b n ∷ r) now.is }, ap suc rest.1)

  -- The last task of a row.
  pub record EndsIn (items : List A) (meters : List M) (front : List (Task A M B)) (t : Task A M B) : Type 0 where
    pub items_now : List A
    pub meters_now : List M
    pub item : A
    pub meter : M
    pub items_are : items ≡ items_now ++ item ∷ []
    pub meters_are : meters ≡ meters_now ++ meter ∷ []
    pub task_is : t ≡ Work item meter
    pub front_is : front ≡ works_of items_now meters_now
    pub count : length meters_now ≡ length items_now

  pub ends-in : (items : List A) (meters : List M) (front : List (Task A M B)) (t : Task A M B) → length meters ≡ length items → works_of items meters ≡ front ++ t ∷ [] → EndsIn items meters front t
  ends-in [] meters [] t e is = absurd cc
  ends-in [] meters (f ∷ front) t e is = absurd cc
  ends-in (a ∷ items) [] front t e is = absurd (omega (arith, e))
  ends-in (a ∷ []) (m ∷ []) [] t e is = record { items_now = []; meters_now = []; item = a; meter = m; items_are = refl; meters_are = refl; task_is = cc; front_is = refl; count = refl }
  ends-in (a ∷ []) (m ∷ n ∷ meters) front t e is = absurd (omega (arith, e))
  ends-in (a ∷ b ∷ items) (m ∷ []) front t e is = absurd (omega (arith, e))
  ends-in (a ∷ b ∷ items) (m ∷ n ∷ meters) [] t e is = absurd cc
  ends-in (a ∷ []) (m ∷ []) (f ∷ []) t e is = absurd cc
  ends-in (a ∷ []) (m ∷ []) (f ∷ g ∷ front) t e is = absurd cc
  ends-in (a ∷ b ∷ items) (m ∷ n ∷ meters) (f ∷ front) t e is =
      let tail : works_of (b ∷ items) (n ∷ meters) ≡ front ++ t ∷ [] = cc in
      let head : f ≡ Work a m = cc in
      let r = ends-in (b ∷ items) (n ∷ meters) front t (omega (arith, e)) tail in
      record {
        items_now = a ∷ r.items_now;
        meters_now = m ∷ r.meters_now;
        item = r.item;
        meter = r.meter;
        items_are = ap (λ l. a ∷ l) r.items_are;
        meters_are = ap (λ l. m ∷ l) r.meters_are;
        task_is = r.task_is;
        front_is = ap (λ h. h ∷ front) head ∙ ap (λ l. Work a m ∷ l) r.front_is;
        count = ap suc r.count;
      }

  -- The row's last task is the sweep.
  pub last-is : (items : List A) (meters : List M) (last : B) (front : List (Task A M B)) (t : Task A M B) → length meters ≡ length items → row_of items meters last ≡ front ++ t ∷ [] → (t ≡ Sweep last) × (front ≡ works_of items meters)
  last-is items meters last front t e is = snoc-same front (works_of items meters) t (Sweep last) (sym is ∙ row-split items meters last e)
    where
      snoc-same : (xs ys : List (Task A M B)) (x y : Task A M B) → xs ++ x ∷ [] ≡ ys ++ y ∷ [] → (x ≡ y) × (xs ≡ ys)
      snoc-same [] [] x y e = (cc, refl)
      snoc-same [] (b ∷ []) x y e = absurd cc
      snoc-same [] (b ∷ c ∷ ys) x y e = absurd cc
      snoc-same (a ∷ []) [] x y e = absurd cc
      snoc-same (a ∷ b ∷ xs) [] x y e = absurd cc
      snoc-same (a ∷ xs) (b ∷ ys) x y e =
          let tail : xs ++ x ∷ [] ≡ ys ++ y ∷ [] = cc in
          let head : a ≡ b = cc in
          let r = snoc-same xs ys x y tail in
          (r.0, ap (λ h. h ∷ xs) head ∙ ap (λ l. b ∷ l) r.1)

  -- Nothing was taken out yet.
  pub whole-first : (items : List A) (meters others : List M) (last taken : B) (xs : List A) → length meters ≡ length items → xs ≡ [] → last ≡ taken → row_of items meters last ≡ row_of (items ++ xs) (meters ++ others) taken
  whole-first items meters others last taken xs n e same =
      ap (λ (b : B). row_of items meters b) same
      ∙ sym (row-extra items meters others taken n)
      ∙ ap (λ (x : List A). row_of x (meters ++ others) taken) (sym (append-nil items) ∙ ap (λ (x : List A). items ++ x) (sym e))

  -- One more was taken out.
  pub whole-next : (items items_now : List A) (item : A) (xs xs_now : List A) (meters meters_now : List M) (meter : M) (ys ys_now : List M) (last : B) → items ≡ items_now ++ item ∷ [] → meters ≡ meters_now ++ meter ∷ [] → xs_now ≡ item ∷ xs → ys_now ≡ meter ∷ ys
      → row_of (items ++ xs) (meters ++ ys) last ≡ row_of (items_now ++ xs_now) (meters_now ++ ys_now) last
  whole-next items items_now item xs xs_now meters meters_now meter ys ys_now last e f p q =
      ap (λ (x : List A). row_of x (meters ++ ys) last) (ap (λ (x : List A). x ++ xs) e ∙ append_assoc items_now (item ∷ []) xs ∙ ap (λ (x : List A). items_now ++ x) (sym p))
      ∙ ap (λ (x : List M). row_of (items_now ++ xs_now) x last) (ap (λ (x : List M). x ++ ys) f ∙ append_assoc meters_now (meter ∷ []) ys ∙ ap (λ (x : List M). meters_now ++ x) (sym q))

  -- An empty list of tasks has no items.
  pub works-none : (items : List A) (meters : List M) → length meters ≡ length items → works_of items meters ≡ [] → (items ≡ []) × (meters ≡ [])
  works-none [] meters e is = (refl, nil_from_length meters e)
  works-none (a ∷ items) [] e is = absurd (omega (arith, e))
  works-none (a ∷ items) (m ∷ meters) e is = absurd cc

  pub row-length : (items : List A) (meters : List M) (last : B) → length items ≤ length meters → length (row_of items meters last) ≡ length items + 1
  row-length [] meters last e = refl
  row-length (a ∷ items) [] last e = absurd (omega (arith, e))
  row-length (a ∷ items) (m ∷ meters) last e = let r = row-length items meters last (omega (arith, e)) in omega (arith, r)

  -- Rows with equal contents are equal.
  pub row-same : (items : List A) (meters : List M) (last : B) (items_now : List A) (meters_now : List M) (last_now : B) → length items ≤ length meters → length items_now ≤ length meters_now → drop (length items_now) meters_now ≡ drop (length items) meters
      → row_of items meters last ≡ row_of items_now meters_now last_now → (items_now ≡ items) × (meters_now ≡ meters) × (last_now ≡ last)
  row-same [] meters last [] meters_now last_now e f same is = (refl, same, let s = is in cc)
  row-same [] meters last (b ∷ ys) [] last_now e f same is = absurd (omega (arith, f))
  row-same [] meters last (b ∷ ys) (n ∷ ns) last_now e f same is = absurd cc
  row-same (a ∷ xs) [] last ys ns last_now e f same is = absurd (omega (arith, e))
  row-same (a ∷ xs) (m ∷ ms) last [] ns last_now e f same is = absurd cc
  row-same (a ∷ xs) (m ∷ ms) last (b ∷ ys) [] last_now e f same is = absurd (omega (arith, f))
  row-same (a ∷ xs) (m ∷ ms) last (b ∷ ys) (n ∷ ns) last_now e f same is =
      let rest : row_of xs ms last ≡ row_of ys ns last_now = cc in
      let one : b ≡ a = cc in
      let two : n ≡ m = cc in
      let r = row-same xs ms last ys ns last_now (omega (arith, e)) (omega (arith, f)) same rest in
      (ap (λ (x : A). x ∷ ys) one ∙ ap (λ (x : List A). a ∷ x) r.0, ap (λ (x : M). x ∷ ns) two ∙ ap (λ (x : List M). m ∷ x) r.1, r.2)

  pub at-row : (items : List A) (meters : List M) (last : B) (k : ℕ) (d : A) (e : M) → length items ≤ length meters → k < length items → get_elem? (row_of items meters last) k ≡ some (Work (slice_index_or items k d) (slice_index_or meters k e))
  at-row [] meters last k d e n lt = absurd (omega (arith, lt))
  at-row (a ∷ items) [] last k d e n lt = absurd (omega (arith, n))
  at-row (a ∷ items) (m ∷ meters) last zero d e n lt = refl
  at-row (a ∷ items) (m ∷ meters) last (suc k) d e n lt = at-row items meters last k d e (omega (arith, n)) (omega (arith, lt))

  pub at-last : (items : List A) (meters : List M) (last : B) → length items ≤ length meters → get_elem? (row_of items meters last) (length items) ≡ some (Sweep last)
  at-last [] meters last n = refl
  at-last (a ∷ items) [] last n = absurd (omega (arith, n))
  at-last (a ∷ items) (m ∷ meters) last n = at-last items meters last (omega (arith, n))

  -- All tasks may be done if each of the row, and the last one, may.
  pub row-ready : (items : List A) (meters : List M) (last : B) (ready : ℕ → Task A M B → Type 0) → ((k : ℕ) (d : A) (e : M) → k < length items → ready k (Work (slice_index_or items k d) (slice_index_or meters k e))) → ready (length items) (Sweep last) → length items ≤ length meters
      → (k : ℕ) (x : Task A M B) → get_elem? (row_of items meters last) k ≡ some x → ready k x
  row-ready [] meters last ready each end n zero x is = subst (ready 0) (let s = is in cc) end
  row-ready [] meters last ready each end n (suc k) x is = absurd cc
  row-ready (a ∷ items) [] last ready each end n k x is = absurd (omega (arith, n))
  row-ready (a ∷ items) (m ∷ meters) last ready each end n zero x is = subst (ready 0) (let s = is in cc) (each 0 a m (omega arith))
  row-ready (a ∷ items) (m ∷ meters) last ready each end n (suc k) x is = row-ready items meters last (λ i. ready (suc i)) (λ i d e lt. each (suc i) d e (omega (arith, lt))) end (omega (arith, n)) k x is

  -- Each task of the row was done, and the last one.
  pub each-work : (items : List A) (meters : List M) (last : B) (items_now : List A) (meters_now : List M) (last_now : B) (works : ℕ → Task A M B → Task A M B → Type 0) → length items ≤ length meters → IsRowWorked items meters last items_now meters_now last_now works
      → ((k : ℕ) (d f : A) (e g : M) → k < length items → works k (Work (slice_index_or items k d) (slice_index_or meters k e)) (Work (slice_index_or items_now k f) (slice_index_or meters_now k g))) × works (length items) (Sweep last) (Sweep last_now)
  each-work items meters last items_now meters_now last_now works n w =
      let p = w.count in let q = w.meters_count in
      let now : length items_now ≤ length meters_now = omega (arith, n, p, q) in (
        (λ k d f e g lt. w.worked.each k (Work (slice_index_or items k d) (slice_index_or meters k e)) (Work (slice_index_or items_now k f) (slice_index_or meters_now k g)) (at-row items meters last k d e n lt) (at-row items_now meters_now last_now k f g now (omega (arith, lt, p)))),
        w.worked.each (length items) (Sweep last) (Sweep last_now) (at-last items meters last n) (subst (λ (k : ℕ). get_elem? (row_of items_now meters_now last_now) k ≡ some (Sweep last_now)) p (at-last items_now meters_now last_now now)),
      )

-- Meters without an item are unchanged.
pub others-stay : {X : Type 0} (n : ℕ) (old new : List X) → length new ≡ length old → drop n new ≡ drop n old → OthersStay n old new
others-stay {X} n old new count same = record { count = count; same = λ k d le. at k d le }
  where
    at : (k : ℕ) (d : X) → n ≤ k → slice_index_or new k d ≡ slice_index_or old k d
    at k d le =
        let i : n + (k - n) ≡ k = omega (arith, le) in
        ap (λ (j : ℕ). slice_index_or new j d) (sym i) ∙ sym (get_or-drop n new (k - n) d) ∙ ap (λ (l : List X). slice_index_or l (k - n) d) same ∙ get_or-drop n old (k - n) d ∙ ap (λ (j : ℕ). slice_index_or old j d) i
