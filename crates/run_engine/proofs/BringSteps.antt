-- What a lane counts when it brings one leaf after the other.
use Rattle.std.proofs.Common.{◌≡◌, ℕ, ◌+◌, ◌<◌, ◌≤◌, Bool, true, false, cond, ◌||◌, nat_lt, List, [], ◌∷◌, ◌++◌, length, take, refl, ap, sym, subst, ◌∙◌, arith}
use Rattle.std.specs.Prelude.{slice_index_or}
use Rattle.std.proofs.lemmas.Bool.Decides.{nat_tests}
use Rattle.std.proofs.lemmas.List.{take_more, map_push, take-map}
use Rattle.std.proofs.lemmas.List.Sums.{sum_by_push, sum_by-take-le}
use Rattle.job_laws.specs.declared.meter.Counts.{Counts}
use Rattle.job_laws.specs.Counted.{RoseBy}
use Rattle.job_laws.proofs.CountLaws.{rose_none}
use Rattle.window_manager.specs.Windows.{Leaf}
use Rattle.map_tasks.specs.Inputs.{InputView}
use Rattle.map_tasks.specs.Texts.{TextView, Comes, IsHeld, same_text, used_of, came_of}
use Rattle.map_tasks.proofs.Totals.{same-itself, same-is}
use Rattle.run_engine.specs.NewTexts.{times}
use Rattle.run_engine.specs.Inputs.{texts_of}
use Rattle.run_engine.specs.LaneTasks.{is_held, new_weight}
use Rattle.run_engine.proofs.TextCounts.{with_text, weight, weight-seen, weight-new, weight-alike}

pub held-true : (t : Leaf) (es : List TextView) → is_held es t ≡ true → IsHeld t es
held-true t es is = grind (arith, nat_tests)

held-is : (t : Leaf) (es : List TextView) → IsHeld t es → is_held es t ≡ true
held-is t es held = grind (arith, nat_tests)

-- What is held after a leaf came.
held-now : (x : Leaf) (now new : List TextView) → Comes x now new → (u : Leaf) → is_held new u ≡ with_text x (is_held now) u
held-now x now new comes u = by (same_text u x) (comes.used u) (comes.came u)
  where
    by : (b : Bool) → used_of u new ≡ used_of u now → came_of u new ≡ came_of u now + cond b 1 0 → is_held new u ≡ (b || is_held now u)
    by true used came = let n : 0 < used_of u new + came_of u new = omega (arith, came) in held-is u new n
    by false used came = let n : used_of u new + came_of u new ≡ used_of u now + came_of u now = omega (arith, used, came) in ap (λ (m : ℕ). nat_lt 0 m) n

-- The leaves that are left to bring weigh less by the text that came, if that was not held.
pub weight-came : (w : Leaf → ℕ) (x : InputView) (rest : List InputView) (now new : List TextView) → Comes x.text now new → new_weight w now (x ∷ rest) ≡ cond (is_held now x.text) 0 (w x.text) + new_weight w new rest
weight-came w x rest now new comes = by (is_held now x.text) refl
  where
    same : is_held now x.text ≡ true → (u : Leaf) → is_held now u ≡ with_text x.text (is_held now) u
    same held u = at (same_text u x.text) refl
      where
        at : (b : Bool) → same_text u x.text ≡ b → is_held now u ≡ (b || is_held now u)
        at true is = ap (is_held now) (same-is u x.text is) ∙ held
        at false is = refl

    by : (b : Bool) → is_held now x.text ≡ b → new_weight w now (x ∷ rest) ≡ cond b 0 (w x.text) + new_weight w new rest
    by true is =
        let a = weight-seen w (is_held now) x.text (texts_of rest) is in
        let b = weight-alike w (is_held now) (with_text x.text (is_held now)) (texts_of rest) (same is) in
        let c = weight-alike w (is_held new) (with_text x.text (is_held now)) (texts_of rest) (held-now x.text now new comes) in
        let h : new_weight w now (x ∷ rest) ≡ new_weight w new rest = a ∙ b ∙ sym c in
        omega (arith, h)
    by false is =
        let a = weight-new w (is_held now) x.text (texts_of rest) is in
        let c = weight-alike w (is_held new) (with_text x.text (is_held now)) (texts_of rest) (held-now x.text now new comes) in
        a ∙ ap (λ (n : ℕ). w x.text + n) (sym c)

-- The cost of the next text, if it is not held, is among that of the leaves that are left.
pub weight-first : (w : Leaf → ℕ) (x : InputView) (rest : List InputView) (now : List TextView) → cond (is_held now x.text) 0 (w x.text) ≤ new_weight w now (x ∷ rest)
weight-first w x rest now = by (is_held now x.text) refl
  where
    by : (b : Bool) → is_held now x.text ≡ b → cond b 0 (w x.text) ≤ new_weight w now (x ∷ rest)
    by true is = omega arith
    by false is =
        let a : new_weight w now (x ∷ rest) ≡ w x.text + weight w (with_text x.text (is_held now)) (texts_of rest) = weight-new w (is_held now) x.text (texts_of rest) is in
        omega (arith, a)

-- A held text counts nothing, any other at most its mapping.
pub one-brought : (maps joins : ℕ) (x : Leaf) (now : List TextView) (a b : Counts) → (IsHeld x now → b ≡ a) → RoseBy maps 0 joins a b → RoseBy (cond (is_held now x) 0 maps) 0 (cond (is_held now x) 0 joins) a b
one-brought maps joins x now a b none rose = by (is_held now x) refl
  where
    by : (h : Bool) → is_held now x ≡ h → RoseBy (cond h 0 maps) 0 (cond h 0 joins) a b
    by true is = subst (λ (c : Counts). RoseBy 0 0 0 a c) (sym (none (held-true x now is))) (rose_none a)
    by false is = rose

-- The texts of one input more.
pub times-more : (t : Leaf) (inputs : List InputView) (i : ℕ) (x : InputView) → i < length inputs → x ≡ slice_index_or inputs i x → times t (texts_of (take (i + 1) inputs)) ≡ times t (texts_of (take i inputs)) + cond (same_text t x.text) 1 0
times-more t inputs i x lt read =
    ap (λ (l : List InputView). times t (texts_of l)) (take_more inputs i x lt ∙ ap (λ (y : InputView). take i inputs ++ y ∷ []) (sym read))
    ∙ ap (times t) (map_push (λ (j : InputView). j.text) (take i inputs) x)
    ∙ sum_by_push {X = Leaf} (λ u. cond {A = ℕ} (same_text t u) 1 0) (texts_of (take i inputs)) x.text

-- The inputs up to this one have its text no more often than all inputs.
pub times-within : (inputs : List InputView) (i : ℕ) (x : InputView) → i < length inputs → x ≡ slice_index_or inputs i x → times x.text (texts_of (take i inputs)) < times x.text (texts_of inputs)
times-within inputs i x lt read =
    let a = times-more x.text inputs i x lt read in
    let b : cond {A = ℕ} (same_text x.text x.text) 1 0 ≡ 1 = ap (λ (b : Bool). cond {A = ℕ} b 1 0) (same-itself x.text) in
    let c = ap (λ (l : List Leaf). times x.text l) (take-map (λ (j : InputView). j.text) (i + 1) inputs) in
    let d = sum_by-take-le {X = Leaf} (λ u. cond {A = ℕ} (same_text x.text u) 1 0) (texts_of inputs) (i + 1) in
    omega (arith, a, b, c, d)
