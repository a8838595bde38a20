-- What one text's final notes keep of the totals.
use Rattle.std.proofs.Common.{◌≡◌, ◌∙◌, ap, ℕ, ◌+◌, ◌-◌, Bool, true, false, cond, List, ◌∷◌, Option, Some, None, refl, sym, arith, ◌≤◌}
use Rattle.std.specs.List.Sorted.{IsPermutation}
use Rattle.std.proofs.lemmas.List.Sorted.{All-permutation, IsPermutation-sym}
use Rattle.std.proofs.lemmas.List.Elements.{All-cons, All-head, All-tail}
use Rattle.pin_table.specs.Covers.{count}
use Rattle.map_tasks.specs.declared.held.Finish.{Finish}
use Rattle.map_tasks.specs.declared.held.Finish.TheVariants.{Settle, Revert}
use Rattle.map_tasks.specs.Texts.{TextView, TextFits, IsMappedSo, same_text, rest_of, finished, of_text, total_of, IsHeld}
use Rattle.map_tasks.specs.Table.{TableView, texts_in, KeepsRest, FinishesNext, FinishesOne, KeepsPins}
use Rattle.map_tasks.proofs.Totals.{total-front, total-none}

-- A text stays, with its notes final.
rest-kept : (how : Finish) (es fs rest : List TextView) (e : TextView) → TextFits e → IsPermutation es (e ∷ rest) → IsPermutation fs (finished how e ∷ rest) → KeepsRest how es fs
rest-kept Settle es fs rest e fits before after = λ t.
    let a = total-front t (λ x. x.used) es rest e before in
    let b = total-front t (λ x. x.came) es rest e before in
    let c = total-front t (λ x. x.gone) es rest e before in
    let d = total-front t (λ x. x.used) fs rest (finished Settle e) after in
    let f = total-front t (λ x. x.came) fs rest (finished Settle e) after in
    let h = total-front t (λ x. x.gone) fs rest (finished Settle e) after in
    let s = test_case (same_text t e.input.text) in
    omega (arith, a, b, c, d, f, h, s)
  where
    test_case : (b : Bool) → ◌≡◌ {A = ℕ} ((cond b ((e.used + e.came) - e.gone) 0 + cond b 0 0) + cond b e.gone 0) ((cond b e.used 0 + cond b e.came 0) + cond b 0 0)
    test_case true = let w = fits.went in omega (arith, w)
    test_case false = refl
rest-kept Revert es fs rest e fits before after = λ t.
    let a = total-front t (λ x. x.used) es rest e before in
    let d = total-front t (λ x. x.used) fs rest (finished Revert e) after in
    omega (arith, a, d)

-- A text is removed, since no leaf uses it any more.
rest-taken : (how : Finish) (es fs : List TextView) (e : TextView) → TextFits e → rest_of how e ≡ 0 → IsPermutation es (e ∷ fs) → KeepsRest how es fs
rest-taken Settle es fs e fits none before = λ t.
    let a = total-front t (λ x. x.used) es fs e before in
    let b = total-front t (λ x. x.came) es fs e before in
    let c = total-front t (λ x. x.gone) es fs e before in
    let s = test_case (same_text t e.input.text) in
    omega (arith, a, b, c, s)
  where
    test_case : (b : Bool) → ◌≡◌ {A = ℕ} (cond b e.gone 0) (cond b e.used 0 + cond b e.came 0)
    test_case true = let w = fits.went in omega (arith, w, none)
    test_case false = refl
rest-taken Revert es fs e fits none before = λ t.
    let a = total-front t (λ x. x.used) es fs e before in
    let s = test_case (same_text t e.input.text) in
    omega (arith, a, s)
  where
    test_case : (b : Bool) → ◌≡◌ {A = ℕ} (cond b e.used 0) 0
    test_case true = none
    test_case false = refl

pub rest-then : (how : Finish) (es fs gs : List TextView) → KeepsRest how es fs → KeepsRest how fs gs → KeepsRest how es gs
rest-then Settle es fs gs a b = λ t. let x = a t in let y = b t in omega (arith, x, y)
rest-then Revert es fs gs a b = λ t. let x = a t in let y = b t in omega (arith, x, y)

pub rest-same : (how : Finish) (es : List TextView) → KeepsRest how es es
rest-same Settle es = λ t. refl
rest-same Revert es = λ t. refl

-- A text that stays has its pins, and the others have theirs.
pins-kept : (how : Finish) (es fs rest : List TextView) (e : TextView) → IsPermutation es (e ∷ rest) → IsPermutation fs (finished how e ∷ rest) → KeepsPins es fs
pins-kept how es fs rest e before after = record {
  held = λ t h.
      let a = total-front t (λ x. x.used) es rest e before in
      let b = total-front t (λ x. x.came) es rest e before in
      let c = total-front t (λ x. x.used) fs rest (finished how e) after in
      let d = total-front t (λ x. x.came) fs rest (finished how e) after in
      let f = less how (same_text t e.input.text) in
      omega (arith, a, b, c, d, f, h);
  pins = λ t h s id. total-front t (λ x. count s id x.pins) fs rest (finished how e) after ∙ sym (total-front t (λ x. count s id x.pins) es rest e before);
}
  where
    less : (how : Finish) (b : Bool) → ◌≤◌ (cond b (rest_of how e) 0 + cond b 0 0) (cond b e.used 0 + cond b e.came 0)
    less Settle true = omega arith
    less Settle false = omega arith
    less Revert true = omega arith
    less Revert false = omega arith

-- A removed text is no longer held, and the others have their pins.
pins-taken : (es fs : List TextView) (e : TextView) → IsPermutation es (e ∷ fs) → ((t : List (List ℕ)) → total_of t (λ _. 1) es ≤ 1) → KeepsPins es fs
pins-taken es fs e before once = record {
  held = λ t h.
      let a = total-front t (λ x. x.used) es fs e before in
      let b = total-front t (λ x. x.came) es fs e before in
      omega (arith, a, b, h);
  pins = λ t h s id.
      let a = total-front t (λ x. count s id x.pins) es fs e before in
      let z = none t h s id (same_text t e.input.text) refl in
      omega (arith, a, z);
}
  where
    none : (t : List (List ℕ)) → IsHeld t fs → (s id : ℕ) (b : Bool) → same_text t e.input.text ≡ b → of_text t (λ x. count s id x.pins) e ≡ 0
    none t h s id true is =
        let a = total-front t (λ _. 1) es fs e before in
        let b : of_text t (λ _. 1) e ≡ 1 = ap (λ (b : Bool). cond {A = ℕ} b 1 0) is in
        let l = once t in
        let gone : total_of t (λ _. 1) fs ≡ 0 = omega (arith, a, b, l) in
        let c = total-none t (λ x. x.used) fs gone in
        let d = total-none t (λ x. x.came) fs gone in
        absurd (omega (arith, c, d, h))
    none t h s id false is = ap (λ (b : Bool). cond {A = ℕ} b (count s id e.pins) 0) is

pub pins-then : (es fs gs : List TextView) → KeepsPins es fs → KeepsPins fs gs → KeepsPins es gs
pins-then es fs gs a b = record {
  held = λ t h. a.held t (b.held t h);
  pins = λ t h s id. b.pins t h s id ∙ a.pins t (b.held t h) s id;
}

pub pins-same : (es : List TextView) → KeepsPins es es
pins-same es = record { held = λ t h. h; pins = λ t h s id. refl }

-- Both cases: it stays, or it is removed.
pub finishes-one : (how : Finish) (old new : TableView) (gone : Option TextView) → FinishesNext how old new gone → FinishesOne how old new
finishes-one how old new None f =
    let e = f.0 in
    let rest = f.1 in
    record {
      rest = rest-kept how (texts_in old.rows) (texts_in new.rows) rest e f.2 f.4 f.5;
      mapped = λ parts setting all.
          let front = All-permutation (IsMappedSo parts setting) (texts_in old.rows) (e ∷ rest) f.4 all in
          All-permutation (IsMappedSo parts setting) (finished how e ∷ rest) (texts_in new.rows) (IsPermutation-sym (texts_in new.rows) (finished how e ∷ rest) f.5)
          (All-cons (IsMappedSo parts setting) (finished how e) rest (All-head (IsMappedSo parts setting) e rest front) (All-tail (IsMappedSo parts setting) e rest front));
      pins = pins-kept how (texts_in old.rows) (texts_in new.rows) rest e f.4 f.5;
      less = (let a = f.6 in let b = f.7 in omega (arith, a, b));
    }
finishes-one how old new (Some e) f = record {
  rest = rest-taken how (texts_in old.rows) (texts_in new.rows) e f.0 f.1 f.2;
  mapped = λ parts setting all. All-tail (IsMappedSo parts setting) e (texts_in new.rows) (All-permutation (IsMappedSo parts setting) (texts_in old.rows) (e ∷ texts_in new.rows) f.2 all);
  pins = pins-taken (texts_in old.rows) (texts_in new.rows) e f.2 f.5;
  less = (let a = f.3 in let b = f.4 in omega (arith, a, b));
}
