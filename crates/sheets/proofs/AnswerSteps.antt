-- Writing the union of tables entry by entry.
use Rattle.std.proofs.Common.{◌≡◌, ◌≢◌, ℕ, zero, suc, ◌<◌, ◌==◌, true, false, cond, List, [], ◌∷◌, ◌++◌, length, All, refl, sym, ap, subst, ◌∙◌, append-nil, append_assoc, is_some, Some, get_or-set_same, get_or-set_other, length-set, arith}
use Rattle.std.specs.Prelude.{slice_index_or, slice_set, drop}
use Rattle.std.specs.Ordering.{eq_by_cmp}
use Rattle.std.proofs.lemmas.List.Elements.{All-get_or, All-set}
use Rattle.std.proofs.lemmas.Bool.Decides.{nat_tests}
use Rattle.definitions.specs.Outside.{GainsPrefix}
use Rattle.definitions.specs.Tables.{key_cmp, IsRising, HasGoodValues, value_at}
use Rattle.definitions.specs.Answer.{lines_of}
use Rattle.definitions.proofs.TableLaws.{is_true, passes, second, same_tables}
use Rattle.sheets.specs.United.{end_to_end, united, Apart, IsNotAfter, IsLeast}
use Rattle.sheets.proofs.UnitedLaws.{value_at-united, IsRising-united, united-least}

module _ {V : Type 0} (text : List ℕ → V → List ℕ) where
  -- of all lines, those of the entries `u` are still to be written
  pub record Written (old new all : List ℕ) (u : List (List ℕ × V)) : Type 0 where
    pub gain : List ℕ
    pub is : new ≡ old ++ gain
    pub rest : gain ++ lines_of text u ≡ all

  pub written-start : (old : List ℕ) (u : List (List ℕ × V)) → Written old old (lines_of text u) u
  written-start old u = record { gain = []; is = sym (append-nil old); rest = refl }

  pub written-first : (old new newer all : List ℕ) (e : List ℕ × V) (u : List (List ℕ × V)) → Written old new all (e ∷ u) → newer ≡ new ++ text e.0 e.1 → Written old newer all u
  written-first old new newer all e u w more = record {
    gain = w.gain ++ text e.0 e.1;
    is = more ∙ ap (λ l. l ++ text e.0 e.1) w.is ∙ append_assoc old w.gain (text e.0 e.1);
    rest = append_assoc w.gain (text e.0 e.1) (lines_of text u) ∙ w.rest;
  }

  pub written-prefix : (old new all : List ℕ) (u : List (List ℕ × V)) → Written old new all u → GainsPrefix all old new
  written-prefix old new all u w = (w.gain, (lines_of text u, sym w.rest), w.is)

  pub written-cut : (old new newer all : List ℕ) (e : List ℕ × V) (u : List (List ℕ × V)) → Written old new all (e ∷ u) → GainsPrefix (text e.0 e.1) new newer → GainsPrefix all old newer
  written-cut old new newer all e u w cut = (
    w.gain ++ cut.0,
    (
      cut.1.0 ++ lines_of text u,
      sym w.rest ∙ ap (λ l. w.gain ++ (l ++ lines_of text u)) cut.1.1 ∙ ap (λ l. w.gain ++ l) (append_assoc cut.0 cut.1.0 (lines_of text u)) ∙ sym (append_assoc w.gain cut.0 (cut.1.0 ++ lines_of text u)),
    ),
    cut.2 ∙ ap (λ l. l ++ cut.0) w.is ∙ append_assoc old w.gain cut.0,
  )

  pub written-end : (old new all : List ℕ) → Written old new all [] → new ≡ old ++ all
  written-end old new all w = w.is ∙ ap (λ l. old ++ l) (sym (append-nil w.gain) ∙ w.rest)

module _ {V : Type 0} where
  -- without an entry in a table the union has none
  pub united-nothing : (ts : List (List (List ℕ × V))) → All (λ t. t ≡ []) ts → united ts ≡ []
  united-nothing ts none = same_tables (united ts) [] (IsRising-united ts) refl (λ q. value_at-united ts q ∙ ap (λ l. value_at l q) (ends ts none))
    where
      ends : (ts : List (List (List ℕ × V))) → All (λ t. t ≡ []) ts → end_to_end ts ≡ []
      ends [] none = refl
      ends (t ∷ ts) none = ap (λ l. l ++ end_to_end ts) (none 0 t (omega arith)) ∙ ends ts (λ k d h. none (suc k) d (omega (arith, h)))

  tail_rises : (e : List ℕ × V) (t : List (List ℕ × V)) → IsRising (e ∷ t) → IsRising t
  tail_rises e t r = is_true _ (second _ _ (passes _ r))

  -- what is left after the first entry of one table was taken
  pub record Left (good : V → Type 0) (ts : List (List (List ℕ × V))) (i : ℕ) (e : List ℕ × V) (t : List (List ℕ × V)) : Type 0 where
    pub union : united ts ≡ e ∷ united (slice_set ts i t)
    pub rising : All IsRising (slice_set ts i t)
    pub values : All (HasGoodValues good) (slice_set ts i t)
    pub apart : Apart (slice_set ts i t)
    pub value : good e.1

  taken : (good : V → Type 0) (ts : List (List (List ℕ × V))) (i : ℕ) (e : List ℕ × V) (t : List (List ℕ × V)) → All IsRising ts → All (HasGoodValues good) ts → Apart ts → IsLeast ts i → slice_index_or ts i [] ≡ e ∷ t → Left good ts i e t
  taken good ts i e t rising values apart least is =
      let rise = subst IsRising is (All-get_or IsRising ts i [] least.within rising) in
      let holds = subst (HasGoodValues good) is (All-get_or (HasGoodValues good) ts i [] least.within values) in
      record {
        union = united-least ts i e t rising apart least.within is (λ j h. subst (λ (k : List ℕ). IsNotAfter k (slice_index_or ts j [])) (ap (λ l. first_key l) (sym least.is ∙ is)) (least.least j h));
        rising = All-set IsRising ts i t (tail_rises e t rise) rising;
        values = All-set (HasGoodValues good) ts i t holds.1 values;
        apart = λ j k key hj hk sj sk. apart j k key (subst (λ n. j < n) (length-set ts i t) hj) (subst (λ n. k < n) (length-set ts i t) hk) (stood j key sj) (stood k key sk);
        value = holds.0;
      }
    where
      first_key : List (List ℕ × V) → List ℕ
      first_key [] = []
      first_key (f ∷ fs) = f.0

      later : (key : List ℕ) → is_some (value_at t key) ≡ true → is_some (value_at (e ∷ t) key) ≡ true
      later key s = elim (eq_by_cmp key_cmp key e.0) as (λ b. is_some (cond b (Some e.1) (value_at t key)) ≡ true) [ true ↦ refl | false ↦ s ]

      stood : (j : ℕ) (key : List ℕ) → is_some (value_at (slice_index_or (slice_set ts i t) j []) key) ≡ true → is_some (value_at (slice_index_or ts j []) key) ≡ true
      stood j key s =
          elim (j == i) as (λ b. j == i ≡ b → is_some (value_at (slice_index_or ts j []) key) ≡ true) [
            | true ↦ λ same.
                let at : j ≡ i = grind (arith, nat_tests) in
                let here : slice_index_or (slice_set ts i t) j [] ≡ t = ap (λ k. slice_index_or (slice_set ts i t) k []) at ∙ get_or-set_same ts i t [] least.within in
                ap (λ k. is_some (value_at (slice_index_or ts k []) key)) at ∙ ap (λ l. is_some (value_at l key)) is ∙ later key (ap (λ l. is_some (value_at l key)) (sym here) ∙ s)
            | false ↦ λ other.
                let differ : j ≢ i = grind (arith, nat_tests) in
                ap (λ l. is_some (value_at l key)) (sym (get_or-set_other ts i j t [] differ)) ∙ s
          ] refl

  -- what is at a place, whatever the default is
  pub at_place : (ts : List (List (List ℕ × V))) (i : ℕ) (t : List (List ℕ × V)) → i < length ts → t ≡ slice_index_or ts i t → slice_index_or ts i [] ≡ t
  at_place [] i t h is = absurd (omega arith)
  at_place (u ∷ ts) zero t h is = sym is
  at_place (u ∷ ts) (suc i) t h is = at_place ts i t (omega arith) is

  -- the first entry of the least table is taken
  pub first_taken : (good : V → Type 0) (ts view : List (List (List ℕ × V))) (i : ℕ) (t : List (List ℕ × V)) (e : List ℕ × V) → All IsRising ts → All (HasGoodValues good) ts → Apart ts → view ≡ ts → IsLeast view i → t ≡ slice_index_or ts i t → t ≡ e ∷ drop 1 t → Left good ts i e (drop 1 (slice_index_or ts i []))
  first_taken good ts view i t e rising values apart same least at first =
      let best = subst (λ (l : List (List (List ℕ × V))). IsLeast l i) same least in
      let here = at_place ts i t best.within at in
      taken good ts i e (drop 1 (slice_index_or ts i [])) rising values apart best (here ∙ first ∙ ap (λ (l : List (List ℕ × V)). e ∷ drop 1 l) (sym here))

  -- what is left of it
  pub rest_is : (ts view : List (List (List ℕ × V))) (i : ℕ) (t rest : List (List ℕ × V)) → view ≡ ts → IsLeast view i → t ≡ slice_index_or ts i t → rest ≡ drop 1 t → rest ≡ drop 1 (slice_index_or ts i [])
  rest_is ts view i t rest same least at is = is ∙ ap (drop 1) (sym (at_place ts i t (subst (λ (l : List (List (List ℕ × V))). IsLeast l i) same least).within at))
