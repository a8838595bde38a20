-- How the totals of a text change with the texts.
use Rattle.std.proofs.Common.{◌≡◌, ◌≢◌, ℕ, ◌+◌, ◌<◌, ◌≤◌, Bool, true, false, cond, List, [], ◌∷◌, refl, sym, ap, subst, ◌∙◌, arith}
use Rattle.std.specs.List.{All}
use Rattle.std.specs.List.Sorted.{IsPermutation}
use Rattle.std.proofs.lemmas.Cmp.{nat_list_eq_equiv, lists_equiv}
use Rattle.std.proofs.lemmas.Slice.Eq.{slice_eq-Decides, bytes_eq-Decides}
use Rattle.std.proofs.lemmas.List.Sums.{sum_by-cons, sum_by_push}
use Rattle.std.proofs.lemmas.List.Sorted.{sum_by-IsPermutation, All-permutation, IsPermutation-sym}
use Rattle.std.proofs.lemmas.List.Elements.{All-nil, All-cons, All-head, All-tail, All-append}
use Rattle.pin_table.specs.Covers.{count}
use Rattle.map_tasks.specs.Inputs.{InputView}
use Rattle.map_tasks.specs.Texts.{TextView, TextFits, IsQuiet, IsMappedSo, IsHeld, same_text, of_text, total_of, came_of, gone_of, Comes, Leaves, Settles, Reverts, Changes, with_came, with_gone, new_text, BringsText, StayPinned}
use Rattle.map_tasks.specs.Table.{FinishesAll}
use Rattle.map_tasks.specs.declared.held.Finish.TheVariants.{Settle, Revert}

-- A text is equal to itself.

pub same-itself : (t : List (List ℕ)) → same_text t t ≡ true
same-itself t = (lists_equiv nat_list_eq_equiv).refl t

pub same-is : (t u : List (List ℕ)) → same_text t u ≡ true → t ≡ u
same-is t u h = (slice_eq-Decides bytes_eq-Decides t u (same_text t u) refl).0 h

pub same-not : (t u : List (List ℕ)) → (t ≡ u → ⊥) → same_text t u ≡ false
same-not t u apart = test_case (same_text t u) refl
  where
    test_case : (b : Bool) → same_text t u ≡ b → same_text t u ≡ false
    test_case true is = absurd (apart (same-is t u is))
    test_case false is = is

-- A number counts fully for its own text.
pub own-text : (t : List (List ℕ)) (f : TextView → ℕ) (e : TextView) → e.input.text ≡ t → of_text t f e ≡ f e
own-text t f e is = ap (λ (b : Bool). cond {A = ℕ} b (f e) 0) (ap (same_text t) is ∙ same-itself t)

-- It counts as nothing for another text.
pub other-text : (t : List (List ℕ)) (f : TextView → ℕ) (e : TextView) → (e.input.text ≡ t → ⊥) → of_text t f e ≡ 0
other-text t f e apart = ap (λ (b : Bool). cond {A = ℕ} b (f e) 0) (same-not t e.input.text (λ is. apart (sym is)))

-- Totals in another order.
pub total-moved : (t : List (List ℕ)) (f : TextView → ℕ) (es fs : List TextView) → IsPermutation es fs → total_of t f fs ≡ total_of t f es
total-moved t f es fs moved = sum_by-IsPermutation (of_text t f) es fs moved

-- With one text more, in front.
pub total-front : (t : List (List ℕ)) (f : TextView → ℕ) (es rest : List TextView) (e : TextView) → IsPermutation es (e ∷ rest) → total_of t f es ≡ of_text t f e + total_of t f rest
total-front t f es rest e moved = sym (total-moved t f es (e ∷ rest) moved) ∙ sum_by-cons (of_text t f) e rest

-- A text that is at no place has no total.
pub total-absent : (t : List (List ℕ)) (f : TextView → ℕ) (es : List TextView) → All (λ e. e.input.text ≢ t) es → total_of t f es ≡ 0
total-absent t f [] h = refl
total-absent t f (e ∷ es) h =
    let a = sum_by-cons (of_text t f) e es in
    let b = other-text t f e (All-head (λ (x : TextView). x.input.text ≢ t) e es h) in
    let c = total-absent t f es (All-tail (λ (x : TextView). x.input.text ≢ t) e es h) in
    omega (arith, a, b, c)

pub absent-not-held : (t : List (List ℕ)) (es : List TextView) → All (λ e. e.input.text ≢ t) es → IsHeld t es → ⊥
absent-not-held t es absent held =
    let a = total-absent t (λ e. e.used) es absent in
    let b = total-absent t (λ e. e.came) es absent in
    omega (arith, a, b, held)

-- A text that is at no place has no total of any kind.
pub total-none : (t : List (List ℕ)) (f : TextView → ℕ) (es : List TextView) → total_of t (λ _. 1) es ≡ 0 → total_of t f es ≡ 0
total-none t f [] none = refl
total-none t f (e ∷ es) none =
    let a = sum_by-cons (of_text t (λ _. 1)) e es in
    let b = sum_by-cons (of_text t f) e es in
    let c = total-none t f es (omega (arith, a, none)) in
    let d = test_case (same_text t e.input.text) (omega (arith, a, none)) in
    omega (arith, b, c, d)
  where
    test_case : (b : Bool) → ◌≡◌ {A = ℕ} (cond b 1 0) 0 → ◌≡◌ {A = ℕ} (cond b (f e) 0) 0
    test_case true h = absurd (omega (arith, h))
    test_case false h = refl

-- The numbers of a text that is there once are its totals.
pub total-once : (t : List (List ℕ)) (f : TextView → ℕ) (es rest : List TextView) (e : TextView) → total_of t (λ _. 1) es ≤ 1 → IsPermutation es (e ∷ rest) → e.input.text ≡ t → total_of t f es ≡ f e
total-once t f es rest e once before is =
    let a = total-front t (λ _. 1) es rest e before in
    let b = own-text t (λ _. 1) e is in
    let c = total-front t f es rest e before in
    let d = own-text t f e is in
    let z = total-none t f rest (omega (arith, a, b, once)) in
    omega (arith, c, d, z)

-- A text that is there is held.
pub held-there : (t : List (List ℕ)) (es rest : List TextView) (e : TextView) → TextFits e → IsPermutation es (e ∷ rest) → e.input.text ≡ t → IsHeld t es
held-there t es rest e fits before is =
    let a = total-front t (λ x. x.used) es rest e before in
    let b = total-front t (λ x. x.came) es rest e before in
    let c = own-text t (λ x. x.used) e is in
    let d = own-text t (λ x. x.came) e is in
    let s = fits.some in
    omega (arith, a, b, c, d, s)

-- A change of one text.

module _ (t : List (List ℕ)) (how : TextView → TextView) (old new : List TextView) (changes : Changes t how old new) where
  -- A number that grew with the text grew only in the text's total.
  pub change-total : (f : TextView → ℕ) (more : ℕ) → f (how changes.text) ≡ f changes.text + more → (how changes.text).input ≡ changes.text.input → (u : List (List ℕ)) → total_of u f new ≡ total_of u f old + cond (same_text u t) more 0
  change-total f more grown same u =
      let a = total-front u f old changes.rest changes.text changes.before in
      let b = total-front u f new changes.rest (how changes.text) changes.after in
      let c : of_text u f (how changes.text) ≡ cond (same_text u changes.text.input.text) (f (how changes.text)) 0 = ap (λ (i : InputView). cond {A = ℕ} (same_text u i.text) (f (how changes.text)) 0) same in
      let d = test_case (same_text u changes.text.input.text) in
      let e : ◌≡◌ {A = ℕ} (cond (same_text u changes.text.input.text) more 0) (cond (same_text u t) more 0) = ap (λ (x : List (List ℕ)). cond {A = ℕ} (same_text u x) more 0) changes.is in
      omega (arith, a, b, c, d, e)
    where
      test_case : (b : Bool) → ◌≡◌ {A = ℕ} (cond b (f (how changes.text)) 0) (cond b (f changes.text) 0 + cond b more 0)
      test_case true = grown
      test_case false = omega arith

  pub change-same : (f : TextView → ℕ) → f (how changes.text) ≡ f changes.text → (how changes.text).input ≡ changes.text.input → (u : List (List ℕ)) → total_of u f new ≡ total_of u f old
  change-same f still same u =
      let a = change-total f 0 (omega (arith, still)) same u in
      let b = zero_case (same_text u t) in
      omega (arith, a, b)
    where
      zero_case : (b : Bool) → ◌≡◌ {A = ℕ} (cond b 0 0) 0
      zero_case true = refl
      zero_case false = refl

  -- Pins stay.
  pub change-pinned : (how changes.text).pins ≡ changes.text.pins → (how changes.text).input ≡ changes.text.input → StayPinned old new
  change-pinned pins same = λ u was is s id. change-same (λ e. count s id e.pins) (ap (count s id) pins) same u

  -- What holds of each input still does.
  pub change-mapped : (how changes.text).input ≡ changes.text.input → (parts setting : ℕ) → All (IsMappedSo parts setting) old → All (IsMappedSo parts setting) new
  change-mapped same parts setting all =
      let front : All (IsMappedSo parts setting) (changes.text ∷ changes.rest) = All-permutation (IsMappedSo parts setting) old (changes.text ∷ changes.rest) changes.before all in
      let head = All-head (IsMappedSo parts setting) changes.text changes.rest front in
      let now : IsMappedSo parts setting (how changes.text) = (ap (λ (i : InputView). i.parts) same ∙ head.0, ap (λ (i : InputView). i.setting) same ∙ head.1) in
      All-permutation (IsMappedSo parts setting) (how changes.text ∷ changes.rest) new (IsPermutation-sym new (how changes.text ∷ changes.rest) changes.after)
      (All-cons (IsMappedSo parts setting) (how changes.text) changes.rest now (All-tail (IsMappedSo parts setting) changes.text changes.rest front))

pub change-comes : (t : List (List ℕ)) (old new : List TextView) → Changes t with_came old new → Comes t old new
change-comes t old new c = record {
  used = change-same t with_came old new c (λ e. e.used) refl refl;
  came = change-total t with_came old new c (λ e. e.came) 1 refl refl;
  gone = change-same t with_came old new c (λ e. e.gone) refl refl;
}

pub change-leaves : (t : List (List ℕ)) (old new : List TextView) → Changes t with_gone old new → Leaves t old new
change-leaves t old new c = record {
  used = change-same t with_gone old new c (λ e. e.used) refl refl;
  came = change-same t with_gone old new c (λ e. e.came) refl refl;
  gone = change-total t with_gone old new c (λ e. e.gone) 1 refl refl;
}

-- A text of which a leaf came is held.
pub comes-held : (t : List (List ℕ)) (old new : List TextView) → Comes t old new → IsHeld t new
comes-held t old new comes =
    let a = comes.came t in
    let b : ◌≡◌ {A = ℕ} (cond (same_text t t) 1 0) 1 = ap (λ (b : Bool). cond {A = ℕ} b 1 0) (same-itself t) in
    omega (arith, a, b)

-- A text that came first.
module _ (input : InputView) (old new : List TextView) (brings : BringsText input old new) where
  brought-total : (f : TextView → ℕ) (u : List (List ℕ)) → total_of u f new ≡ total_of u f old + of_text u f (new_text input brings.pins)
  brought-total f u = ap (total_of u f) brings.texts ∙ sum_by_push (of_text u f) old (new_text input brings.pins)

  pub brings-comes : Comes input.text old new
  brings-comes = record {
    used = λ u. let a = brought-total (λ e. e.used) u in let z = zero_case (same_text u input.text) in omega (arith, a, z);
    came = λ u. brought-total (λ e. e.came) u;
    gone = λ u. let a = brought-total (λ e. e.gone) u in let z = zero_case (same_text u input.text) in omega (arith, a, z);
  }
    where
      zero_case : (b : Bool) → ◌≡◌ {A = ℕ} (cond b 0 0) 0
      zero_case true = refl
      zero_case false = refl

  pub brings-pinned : (IsHeld input.text old → ⊥) → StayPinned old new
  brings-pinned absent = λ u was is s id.
      let a = brought-total (λ e. count s id e.pins) u in
      let z = none u was s id (same_text u input.text) refl in
      omega (arith, a, z)
    where
      none : (u : List (List ℕ)) → IsHeld u old → (s id : ℕ) (b : Bool) → same_text u input.text ≡ b → of_text u (λ e. count s id e.pins) (new_text input brings.pins) ≡ 0
      none u was s id true is = absurd (absent (subst (λ (t : List (List ℕ)). IsHeld t old) (same-is u input.text is) was))
      none u was s id false is = ap (λ (b : Bool). cond {A = ℕ} b (count s id brings.pins) 0) is

  pub brings-mapped : All (IsMappedSo input.parts input.setting) old → All (IsMappedSo input.parts input.setting) new
  brings-mapped all = subst (All (IsMappedSo input.parts input.setting)) (sym brings.texts)
      (All-append (IsMappedSo input.parts input.setting) old (new_text input brings.pins ∷ []) all (All-cons (IsMappedSo input.parts input.setting) (new_text input brings.pins) [] (refl, refl) (All-nil (IsMappedSo input.parts input.setting))))

-- Final notes.

-- Calm texts have no notes.
pub quiet-none : (t : List (List ℕ)) (es : List TextView) → All IsQuiet es → (came_of t es ≡ 0) × (gone_of t es ≡ 0)
quiet-none t [] quiet = (refl, refl)
quiet-none t (e ∷ es) quiet =
    let a = sum_by-cons (of_text t (λ x. x.came)) e es in
    let b = sum_by-cons (of_text t (λ x. x.gone)) e es in
    let r = quiet-none t es (All-tail IsQuiet e es quiet) in
    let x = r.0 in
    let y = r.1 in
    let q = All-head IsQuiet e es quiet in
    let c = test_case (same_text t e.input.text) e.came q.0 in
    let d = test_case (same_text t e.input.text) e.gone q.1 in
    (omega (arith, a, x, c), omega (arith, b, y, d))
  where
    test_case : (b : Bool) (n : ℕ) → n ≡ 0 → ◌≡◌ {A = ℕ} (cond b n 0) 0
    test_case true n h = h
    test_case false n h = refl

-- Calm texts that fit are used.
quiet-used : (es : List TextView) → All TextFits es → All IsQuiet es → All (λ e. 0 < e.used) es
quiet-used [] fits quiet = All-nil (λ (x : TextView). 0 < x.used)
quiet-used (e ∷ es) fits quiet =
    let some = (All-head TextFits e es fits).some in
    let came = (All-head IsQuiet e es quiet).0 in
    All-cons (λ (x : TextView). 0 < x.used) e es (omega (arith, some, came)) (quiet-used es (All-tail TextFits e es fits) (All-tail IsQuiet e es quiet))

pub settled-texts : (old new : List TextView) → FinishesAll Settle old new → Settles old new
settled-texts old new done = record {
  used = λ u. let a = done.rest u in let q = quiet-none u new done.quiet in let b = q.0 in let c = q.1 in omega (arith, a, b, c);
  quiet = done.quiet;
  some = quiet-used new done.sound.fits done.quiet;
}

pub reverted-texts : (old new : List TextView) → FinishesAll Revert old new → Reverts old new
reverted-texts old new done = record {
  used = done.rest;
  quiet = done.quiet;
  some = quiet-used new done.sound.fits done.quiet;
}
