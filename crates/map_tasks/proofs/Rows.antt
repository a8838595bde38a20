-- How rows move and change, and what the table of texts keeps.
use Rattle.std.proofs.Common.{◌≡◌, ◌≢◌, ℕ, zero, suc, ◌+◌, ◌-◌, ◌^◌, ◌<◌, ◌≤◌, List, [], ◌∷◌, ◌++◌, length, take, min, Bool, true, false, ◌==◌, ◌&&◌, nat_eq, nat_lt, Option, Some, None, is_some, slice_get, cond, refl, sym, ap, subst, ◌∙◌, arith}
use lib.ListN.{get_or, set}
use Rattle.std.specs.List.{All, remove, swap, swap_remove}
use Rattle.std.specs.List.Sorted.{IsPermutation}
use Rattle.std.specs.Str.{bytes_eq}
use Rattle.std.proofs.lemmas.Option.{slice_get_within, slice_get-get_or}
use Rattle.std.proofs.lemmas.List.Sorted.{IsPermutation-remove, IsPermutation-swap_remove, IsPermutation-swap, IsPermutation-map, IsPermutation-sym, IsPermutation-trans, All-permutation, length_permutation}
use Rattle.std.proofs.lemmas.List.Elements.{All-nil, All-cons, All-head, All-set, All-tail, All-get_or, All-more, All-map, All-push}
use Rattle.std.proofs.lemmas.List.Edits.{length-swap, Swapped, swapped_from_swap}
use Rattle.std.proofs.lemmas.List.Sums.{sum_by-cons, sum_by_push}
use Rattle.std.proofs.lemmas.Bool.Decides.{nat_tests}
use Rattle.std.proofs.lemmas.Slice.Eq.{bytes_eq-Decides}
use Rattle.std.proofs.lemmas.List.{length-take, get_or-take, length-append, map-append, take-append-le}
use Rattle.std.specs.Map.{lookup}
use Rattle.indexmap.specs.IndexMap.{set_value_at}
use Rattle.indexmap.specs.Layout.{length-set_value_at}
use Rattle.memo_core.specs.History.{how_many}
use Rattle.pin_table.specs.Views.{PinView}
use Rattle.pin_table.specs.Covers.{PinName}
use Rattle.map_tasks.specs.declared.held.Finish.{Finish}
use Rattle.map_tasks.specs.declared.held.Finish.TheVariants.{Settle, Revert}
use Rattle.map_tasks.specs.Inputs.{InputView, input_digest}
use Rattle.map_tasks.specs.Texts.{TextView, TextFits, IsQuiet, AreSound, Changes, same_text, of_text, total_of, digest_of_input, rest_of, finished, pins_in, maybe_pins, with_came, with_gone, new_text}
use Rattle.map_tasks.specs.Table.{TableView, IsTable, IsKeyed, IsAt, is_key, FinishesNext, Touches, texts_in}
use Rattle.map_tasks.proofs.Totals.{same-is, total-moved, total-absent, total-once}
use Rattle.map_tasks.proofs.Pins.{many-in, many-moved}

same_some : {X : Type 0} (a b : X) → Some a ≡ Some b → a ≡ b
same_some a b h = cc

module _ {X : Type 0} where
  pub reads : (xs : List X) (i : ℕ) (x d : X) → slice_get xs i ≡ Some x → get_or xs i d ≡ x
  reads xs i x d h = same_some (get_or xs i d) x (sym (slice_get-get_or xs i d (slice_get_within xs i x h)) ∙ h)

  pub to-front : (xs : List X) (i : ℕ) (x : X) → slice_get xs i ≡ Some x → IsPermutation xs (x ∷ remove xs i)
  to-front xs i x h = IsPermutation-remove xs i x (slice_get_within xs i x h) (sym (reads xs i x x h))

  pub taken-front : (xs : List X) (i : ℕ) (x : X) → slice_get xs i ≡ Some x → IsPermutation xs (x ∷ swap_remove xs i x)
  taken-front xs i x h = IsPermutation-swap_remove xs i x (slice_get_within xs i x h) (sym (reads xs i x x h))

  -- Elements before a changed one.
  take-before : (xs : List X) (n i : ℕ) (y : X) → n ≤ i → take n (set xs i y) ≡ take n xs
  take-before [] zero i y h = refl
  take-before [] (suc n) i y h = refl
  take-before (x ∷ xs) zero i y h = refl
  take-before (x ∷ xs) (suc n) zero y h = absurd (omega arith)
  take-before (x ∷ xs) (suc n) (suc i) y h = ap (λ (l : List X). x ∷ l) (take-before xs n i y (omega arith))

  remove-set : (xs : List X) (i : ℕ) (y : X) → remove (set xs i y) i ≡ remove xs i
  remove-set [] zero y = refl
  remove-set [] (suc i) y = refl
  remove-set (x ∷ xs) zero y = refl
  remove-set (x ∷ xs) (suc i) y = ap (λ (l : List X). x ∷ l) (remove-set xs i y)

  get-set : (xs : List X) (i : ℕ) (y : X) → i < length xs → slice_get (set xs i y) i ≡ Some y
  get-set [] i y h = absurd (omega arith)
  get-set (x ∷ xs) zero y h = refl
  get-set (x ∷ xs) (suc i) y h = get-set xs i y (omega arith)

  take-taken : (xs : List X) (i n : ℕ) (y : X) → i ≤ n → take i (take n (set xs i y)) ≡ take i xs
  take-taken [] zero n y h = refl
  take-taken [] (suc i) zero y h = absurd (omega arith)
  take-taken [] (suc i) (suc n) y h = refl
  take-taken (x ∷ xs) zero n y h = refl
  take-taken (x ∷ xs) (suc i) zero y h = absurd (omega arith)
  take-taken (x ∷ xs) (suc i) (suc n) y h = ap (λ (l : List X). x ∷ l) (take-taken xs i n y (omega arith))

  -- The first elements, of which one was exchanged with the last of them.
  front-swapped : (P : X → Type 0) (xs : List X) (a b : ℕ) → a ≤ b → b < length xs → All P (take (b + 1) xs) → All P (take b (swap xs a b))
  front-swapped P xs a b below inside all = (λ k d h.
      let n : k < b = (let l = length-take b (swap xs a b) in omega (arith, l, h)) in
      let long = length-take (b + 1) xs in
      let s = swapped_from_swap xs (swap xs a b) a b d (omega arith) inside refl in
      subst P (sym (get_or-take b (swap xs a b) k d n)) (at_case k d n long s (k == a) refl))
    where
      at_case : (k : ℕ) (d : X) → k < b → length (take (b + 1) xs) ≡ min (b + 1) (length xs) → Swapped (λ i. get_or xs i d) (λ i. get_or (swap xs a b) i d) a b → (c : Bool) → (k == a) ≡ c → P (get_or (swap xs a b) k d)
      at_case k d n long s true is =
          let e : k ≡ a = grind (arith, nat_tests) in
          subst (λ (i : ℕ). P (get_or (swap xs a b) i d)) (sym e) (subst P (sym s.0) (subst P (get_or-take (b + 1) xs b d (omega arith)) (all b d (omega arith))))
      at_case k d n long s false is =
          subst P (sym (s.2 k (λ e. let yes : (k == a) ≡ true = grind (arith, nat_tests) in let both : true ≡ false = sym yes ∙ is in cc) (λ e. omega arith)))
          (subst P (get_or-take (b + 1) xs k d (omega arith)) (all k d (omega arith)))

module _ {K X : Type 0} where
  pub written-is : (es : List (K × X)) (i : ℕ) (k : K) (v w : X) → slice_get es i ≡ Some (k, v) → set_value_at es i w ≡ set es i (k, w)
  written-is [] i k v w h = cc
  written-is (e ∷ es) zero k v w h = ap (λ (q : K). (q, w) ∷ es) (ap (λ (p : K × X). p.0) (same_some e (k, v) h))
  written-is (e ∷ es) (suc i) k v w h = ap (λ (l : List (K × X)). e ∷ l) (written-is es i k v w h)

  pub written-front : (es : List (K × X)) (i : ℕ) (k : K) (v w : X) → slice_get es i ≡ Some (k, v) → IsPermutation (set_value_at es i w) ((k, w) ∷ remove es i)
  written-front es i k v w h =
      subst (λ (l : List (K × X)). IsPermutation l ((k, w) ∷ remove es i)) (sym (written-is es i k v w h))
      (subst (λ (l : List (K × X)). IsPermutation (set es i (k, w)) ((k, w) ∷ l)) (remove-set es i (k, w))
      (to-front (set es i (k, w)) i (k, w) (get-set es i (k, w) (slice_get_within es i (k, v) h))))

  -- Two reads of one place.
  pub same_value : (es : List (K × X)) (i : ℕ) (k q : K) (v w : X) → slice_get es i ≡ Some (k, v) → slice_get es i ≡ Some (q, w) → v ≡ w
  same_value es i k q v w a b = ap (λ (p : K × X). p.1) (same_some (k, v) (q, w) (sym a ∙ b))

-- Texts that stay sound.

pub sound-moved : (es fs : List TextView) → IsPermutation es fs → AreSound es → AreSound fs
sound-moved es fs moved s = record {
  fits = All-permutation TextFits es fs moved s.fits;
  once = λ t. let a = total-moved t (λ _. 1) es fs moved in let b = s.once t in omega (arith, a, b);
  pinned = λ d. let a = many-moved (λ p. bytes_eq d p.digest) es fs moved in let b = s.pinned d in omega (arith, a, b);
}

pub sound-tail : (e : TextView) (es : List TextView) → AreSound (e ∷ es) → AreSound es
sound-tail e es s = record {
  fits = All-tail TextFits e es s.fits;
  once = λ t. let a = sum_by-cons (of_text t (λ _. 1)) e es in let b = s.once t in omega (arith, a, b);
  pinned = λ d.
      let a = many-in (λ p. bytes_eq d p.digest) (e ∷ es) in
      let c = many-in (λ p. bytes_eq d p.digest) es in
      let x = sum_by-cons (λ (x : TextView). how_many (λ p. bytes_eq d p.digest) x.pins) e es in
      let b = s.pinned d in omega (arith, a, b, c, x);
}

-- The first one's numbers change.
pub sound-head : (e f : TextView) (es : List TextView) → f.input ≡ e.input → f.pins ≡ e.pins → TextFits f → AreSound (e ∷ es) → AreSound (f ∷ es)
sound-head e f es same pins fits s = record {
  fits = All-cons TextFits f es fits (All-tail TextFits e es s.fits);
  once = λ t.
      let a = sum_by-cons (of_text t (λ _. 1)) e es in
      let b = sum_by-cons (of_text t (λ _. 1)) f es in
      let c : of_text t (λ _. 1) f ≡ of_text t (λ _. 1) e = ap (λ (i : InputView). of_text t (λ _. 1) (record e { input = i })) same in
      let h = s.once t in omega (arith, a, b, c, h);
  pinned = λ d.
      let a : how_many (λ p. bytes_eq d p.digest) (pins_in (f ∷ es)) ≡ how_many (λ p. bytes_eq d p.digest) (pins_in (e ∷ es)) = ap (λ (ps : List PinName). how_many (λ p. bytes_eq d p.digest) (ps ++ pins_in es)) pins in
      let h = s.pinned d in omega (arith, a, h);
}

-- One text changes its numbers.
pub sound-changed : (es fs rest : List TextView) (e f : TextView) → f.input ≡ e.input → f.pins ≡ e.pins → TextFits f → IsPermutation es (e ∷ rest) → IsPermutation fs (f ∷ rest) → AreSound es → AreSound fs
sound-changed es fs rest e f same pins fits before after s =
    sound-moved (f ∷ rest) fs (IsPermutation-sym fs (f ∷ rest) after) (sound-head e f rest same pins fits (sound-moved es (e ∷ rest) before s))

-- One text is removed.
pub sound-less : (es fs : List TextView) (e : TextView) → IsPermutation es (e ∷ fs) → AreSound es → AreSound fs
sound-less es fs e before s = sound-tail e fs (sound-moved es (e ∷ fs) before s)

abbrev Row : Type 0
Row = (List ℕ × ℕ) × TextView

length-set-own : {X : Type 0} (xs : List X) (i : ℕ) (y : X) → length (set xs i y) ≡ length xs
length-set-own [] i y = refl
length-set-own (x ∷ xs) zero y = refl
length-set-own (x ∷ xs) (suc i) y = ap suc (length-set-own xs i y)

-- The table of texts.
module _ (calm next : ℕ) (rows : List Row) (table : IsTable calm next rows) where
  pub front-texts : (i : ℕ) (k : List ℕ × ℕ) (e : TextView) → slice_get rows i ≡ Some (k, e) → IsPermutation (texts_in rows) (e ∷ texts_in (remove rows i))
  front-texts i k e at = IsPermutation-map (λ (r : Row). r.1) rows ((k, e) ∷ remove rows i) (to-front rows i (k, e) at)

  -- The text at a place.
  pub text-at : (i : ℕ) (k : List ℕ × ℕ) (e : TextView) → slice_get rows i ≡ Some (k, e) → IsKeyed next (k, e) × TextFits e
  text-at i k e at = (
    subst (IsKeyed next) (reads rows i (k, e) (k, e) at) (All-get_or (IsKeyed next) rows i (k, e) (slice_get_within rows i (k, e) at) table.keyed),
    All-head TextFits e (texts_in (remove rows i)) (All-permutation TextFits (texts_in rows) (e ∷ texts_in (remove rows i)) (front-texts i k e at) table.sound.fits),
  )

  pub written-texts : (i : ℕ) (k : List ℕ × ℕ) (e w : TextView) → slice_get rows i ≡ Some (k, e) → IsPermutation (texts_in (set_value_at rows i w)) (w ∷ texts_in (remove rows i))
  written-texts i k e w at = IsPermutation-map (λ (r : Row). r.1) (set_value_at rows i w) ((k, w) ∷ remove rows i) (written-front rows i k e w at)

  keyed-written : (i : ℕ) (k : List ℕ × ℕ) (e w : TextView) → slice_get rows i ≡ Some (k, e) → w.input ≡ e.input → w.pins ≡ e.pins → All (IsKeyed next) (set_value_at rows i w)
  keyed-written i k e w at same pins =
      let was = (text-at i k e at).0 in
      subst (All (IsKeyed next)) (sym (written-is rows i k e w at)) (All-set (IsKeyed next) rows i (k, w) (was.0 ∙ ap digest_of_input (sym same), was.1, λ h. pins ∙ was.2 h) table.keyed)

  -- A text after the calm ones changes its numbers.
  pub table-changed : (i : ℕ) (k : List ℕ × ℕ) (e w : TextView) → slice_get rows i ≡ Some (k, e) → calm ≤ i → w.input ≡ e.input → w.pins ≡ e.pins → TextFits w → IsTable calm next (set_value_at rows i w)
  table-changed i k e w at behind same pins fits = record {
    within = subst (λ (n : ℕ). calm ≤ n) (sym (length-set_value_at rows i w)) table.within;
    some = table.some;
    keyed = keyed-written i k e w at same pins;
    quiet = subst (λ (l : List Row). All (λ (r : Row). IsQuiet r.1) (take calm l)) (sym (written-is rows i k e w at))
        (subst (All (λ (r : Row). IsQuiet r.1)) (sym (take-before rows calm i (k, w) behind)) table.quiet);
    sound = sound-changed (texts_in rows) (texts_in (set_value_at rows i w)) (texts_in (remove rows i)) e w same pins fits (front-texts i k e at) (written-texts i k e w at) table.sound;
  }

  -- The first text that is not calm becomes calm.
  pub table-finished : (k : List ℕ × ℕ) (e w : TextView) → slice_get rows calm ≡ Some (k, e) → w.input ≡ e.input → w.pins ≡ e.pins → TextFits w → IsQuiet w → IsTable (calm + 1) next (set_value_at rows calm w)
  table-finished k e w at same pins fits quiet =
      let inside = slice_get_within rows calm (k, e) at in
      let is = written-is rows calm k e w at in
      let long = length-set_value_at rows calm w in
      let set_long : length (set rows calm (k, w)) ≡ length rows = length-set-own rows calm (k, w) in
      record {
        within = omega (arith, long, inside);
        some = table.some;
        keyed = keyed-written calm k e w at same pins;
        quiet = subst (λ (l : List Row). All (λ (r : Row). IsQuiet r.1) (take (calm + 1) l)) (sym is)
            (All-more (λ (r : Row). IsQuiet r.1) (set rows calm (k, w)) calm (k, w) (omega (arith, set_long, inside))
            (subst (All (λ (r : Row). IsQuiet r.1)) (sym (take-before rows calm calm (k, w) (omega arith))) table.quiet)
            (subst (λ (r : Row). IsQuiet r.1) (sym (reads (set rows calm (k, w)) calm (k, w) (k, w) (get-set rows calm (k, w) inside))) quiet));
        sound = sound-changed (texts_in rows) (texts_in (set_value_at rows calm w)) (texts_in (remove rows calm)) e w same pins fits (front-texts calm k e at) (written-texts calm k e w at) table.sound;
      }

  -- The first text that is not calm is removed.
  pub table-taken : (k : List ℕ × ℕ) (e : TextView) → slice_get rows calm ≡ Some (k, e) → IsTable calm next (swap_remove rows calm (k, e))
  table-taken k e at =
      let inside = slice_get_within rows calm (k, e) at in
      let moved = taken-front rows calm (k, e) at in
      let long = length_permutation rows ((k, e) ∷ swap_remove rows calm (k, e)) moved in
      record {
        within = omega (arith, long, inside);
        some = table.some;
        keyed = All-tail (IsKeyed next) (k, e) (swap_remove rows calm (k, e)) (All-permutation (IsKeyed next) rows ((k, e) ∷ swap_remove rows calm (k, e)) moved table.keyed);
        quiet = subst (All (λ (r : Row). IsQuiet r.1)) (sym (take-taken rows calm (length rows - 1) (get_or rows (length rows - 1) (k, e)) (omega (arith, inside)))) table.quiet;
        sound = sound-less (texts_in rows) (texts_in (swap_remove rows calm (k, e))) e (IsPermutation-map (λ (r : Row). r.1) rows ((k, e) ∷ swap_remove rows calm (k, e)) moved) table.sound;
      }

  -- A calm text is exchanged with the last calm one, and is not calm any more.
  pub table-swapped : (place : ℕ) → place < calm → IsTable (calm - 1) next (swap rows place (calm - 1))
  table-swapped place below =
      let long = length-swap rows place (calm - 1) in
      let w = table.within in
      let moved = IsPermutation-swap rows (swap rows place (calm - 1)) place (calm - 1) (omega arith) (omega arith) refl in
      record {
        within = omega (arith, long, w, below);
        some = table.some;
        keyed = All-permutation (IsKeyed next) rows (swap rows place (calm - 1)) moved table.keyed;
        quiet = front-swapped (λ (r : Row). IsQuiet r.1) rows place (calm - 1) (omega arith) (omega arith) (subst (λ (n : ℕ). All (λ (r : Row). IsQuiet r.1) (take n rows)) (omega arith) table.quiet);
        sound = sound-moved (texts_in rows) (texts_in (swap rows place (calm - 1))) (IsPermutation-map (λ (r : Row). r.1) rows (swap rows place (calm - 1)) moved) table.sound;
      }

  pub finishes-kept : (how : Finish) (k : List ℕ × ℕ) (e : TextView) → slice_get rows calm ≡ Some (k, e) → TextFits e → 0 < rest_of how e
      → FinishesNext how (record { rows = rows; calm = calm; next = next }) (record { rows = set_value_at rows calm (finished how e); calm = calm + 1; next = next }) None
  finishes-kept how k e at fits some =
      (e, texts_in (remove rows calm), fits, some, front-texts calm k e at, written-texts calm k e (finished how e) at, refl, length-set_value_at rows calm (finished how e))

  pub finishes-taken : (how : Finish) (k : List ℕ × ℕ) (e : TextView) → slice_get rows calm ≡ Some (k, e) → TextFits e → rest_of how e ≡ 0
      → FinishesNext how (record { rows = rows; calm = calm; next = next }) (record { rows = swap_remove rows calm (k, e); calm = calm; next = next }) (Some e)
  finishes-taken how k e at fits none = (
    fits,
    none,
    IsPermutation-map (λ (r : Row). r.1) rows ((k, e) ∷ swap_remove rows calm (k, e)) (taken-front rows calm (k, e) at),
    refl,
    (let long = length_permutation rows ((k, e) ∷ swap_remove rows calm (k, e)) (taken-front rows calm (k, e) at) in omega (arith, long)),
    table.sound.once,
  )

  pub touches-swapped : (place : ℕ) (ys : List Row) → place < calm → ys ≡ swap rows place (calm - 1)
      → Touches place (calm - 1) (record { rows = rows; calm = calm; next = next }) (record { rows = ys; calm = calm - 1; next = next })
  touches-swapped place ys below is =
      let w = table.within in
      let long = length-swap rows place (calm - 1) in
      let inside : calm - 1 < length ys = subst (λ (l : List Row). calm - 1 < length l) (sym is) (omega (arith, long, w, below)) in
      record {
        same = subst (IsPermutation rows) (sym is) (IsPermutation-swap rows (swap rows place (calm - 1)) place (calm - 1) (omega arith) (omega arith) refl);
        within = (omega arith, inside);
        here = λ r at. slice_get-get_or ys (calm - 1) r inside ∙ ap (λ (x : Row). Some x) ((swapped_from_swap rows ys place (calm - 1) r (omega arith) (omega arith) is).1 ∙ reads rows place r r at);
        next = refl;
      }

-- If all texts are calm, none has notes.
pub quiet-all : (calm : ℕ) (rows : List Row) → calm ≤ length rows → (calm < length rows → ⊥) → All (λ r. IsQuiet r.1) (take calm rows) → All IsQuiet (texts_in rows)
quiet-all calm rows within none quiet =
    let whole : take calm rows ≡ rows = take-all calm rows (all_case within none) in
    All-map IsQuiet (λ (r : Row). r.1) rows (subst (All (λ (r : Row). IsQuiet r.1)) whole quiet)
  where
    take-all : (n : ℕ) (xs : List Row) → length xs ≤ n → take n xs ≡ xs
    take-all zero [] h = refl
    take-all zero (x ∷ xs) h = absurd (omega arith)
    take-all (suc n) [] h = refl
    take-all (suc n) (x ∷ xs) h = ap (λ (l : List Row). x ∷ l) (take-all n xs (omega arith))

    all_case : calm ≤ length rows → (calm < length rows → ⊥) → length rows ≤ calm
    all_case w n = by_case (nat_lt calm (length rows)) refl
      where
        by_case : (b : Bool) → nat_lt calm (length rows) ≡ b → length rows ≤ calm
        by_case true is = absurd (n (grind (arith, nat_tests)))
        by_case false is = grind (arith, nat_tests)

-- A text whose number became final fits.
pub finished-fits : (how : Finish) (e : TextView) → TextFits e → 0 < rest_of how e → TextFits (finished how e)
finished-fits how e fits some = record {
  went = omega arith;
  fits = how_case how;
  some = omega (arith, some);
  named = fits.named;
}
  where
    how_case : (h : Finish) → rest_of h e + 0 < 2 ^ 64
    how_case Settle = let a = fits.fits in omega (arith, a)
    how_case Revert = let a = fits.fits in omega (arith, a)

-- One more leaf of a text came, or left.
pub came-fits : (e : TextView) → TextFits e → e.used + e.came < 2 ^ 64 - 1 → TextFits (with_came e)
came-fits e fits room = record { went = fits.went; fits = omega (arith, room); some = omega arith; named = fits.named }

pub gone-fits : (e : TextView) → TextFits e → e.gone < e.used → TextFits (with_gone e)
gone-fits e fits less = record { went = omega (arith, less); fits = fits.fits; some = fits.some; named = fits.named }

-- A text that came first fits.
pub new-fits : (input : InputView) (pins : List PinName) → All (λ p. p.digest ≡ digest_of_input input) pins → TextFits (new_text input pins)
new-fits input pins named = record { went = omega arith; fits = omega arith; some = omega arith; named = named }

-- A text that comes.

-- The pins of texts at whose digest none is under 0.
pub none-pinned : (next : ℕ) (digest : List ℕ) (rows : List Row) → All (IsKeyed next) rows → All TextFits (texts_in rows) → lookup (is_key digest 0) rows ≡ None → how_many (λ p. bytes_eq digest p.digest) (pins_in (texts_in rows)) ≡ 0
none-pinned next digest [] keyed fits free = refl
none-pinned next digest (r ∷ rows) keyed fits free =
    let key = All-head (IsKeyed next) r rows keyed in
    let named = (All-head TextFits r.1 (texts_in rows) fits).named in
    let a = many-in (λ p. bytes_eq digest p.digest) (r.1 ∷ texts_in rows) in
    let b = many-in (λ p. bytes_eq digest p.digest) (texts_in rows) in
    let x = sum_by-cons (λ (e : TextView). how_many (λ p. bytes_eq digest p.digest) e.pins) r.1 (texts_in rows) in
    let both = free_case (is_key digest 0 r.0) refl free in
    let rest = none-pinned next digest rows (All-tail (IsKeyed next) r rows keyed) (All-tail TextFits r.1 (texts_in rows) fits) both.1 in
    let first = number_case r.0.1 refl key.2 both.0 key.0 named in
    omega (arith, a, b, x, rest, first)
  where
    free_case : (b : Bool) → is_key digest 0 r.0 ≡ b → cond b (Some r.1) (lookup (is_key digest 0) rows) ≡ None → (is_key digest 0 r.0 ≡ false) × (lookup (is_key digest 0) rows ≡ None)
    free_case true is none = cc
    free_case false is none = (is, none)

    apart : (ps : List PinName) → All (λ p. p.digest ≡ digest_of_input r.1.input) ps → bytes_eq digest (digest_of_input r.1.input) ≡ false → how_many (λ p. bytes_eq digest p.digest) ps ≡ 0
    apart [] all off = refl
    apart (p ∷ ps) all off =
        let one : bytes_eq digest p.digest ≡ false = ap (bytes_eq digest) (All-head (λ (q : PinName). q.digest ≡ digest_of_input r.1.input) p ps all) ∙ off in
        let a : ◌≡◌ {A = ℕ} (cond (bytes_eq digest p.digest) 1 0) 0 = ap (λ (b : Bool). cond {A = ℕ} b 1 0) one in
        let b = apart ps (All-tail (λ (q : PinName). q.digest ≡ digest_of_input r.1.input) p ps all) off in
        omega (arith, a, b)

    number_case : (n : ℕ) → r.0.1 ≡ n → (0 < r.0.1 → r.1.pins ≡ []) → is_key digest 0 r.0 ≡ false → r.0.0 ≡ digest_of_input r.1.input → All (λ p. p.digest ≡ digest_of_input r.1.input) r.1.pins → how_many (λ p. bytes_eq digest p.digest) r.1.pins ≡ 0
    number_case zero is none off key named =
        let zero_is : nat_eq 0 r.0.1 ≡ true = ap (nat_eq 0) is in
        apart r.1.pins named (ap (bytes_eq digest) (sym key) ∙ only_first (bytes_eq digest r.0.0) (nat_eq 0 r.0.1) off zero_is)
      where
        only_first : (a b : Bool) → (a && b) ≡ false → b ≡ true → a ≡ false
        only_first true b h k = absurd (let both : true ≡ false = sym k ∙ h in cc)
        only_first false b h k = refl
    number_case (suc n) is none off key named = ap (how_many (λ p. bytes_eq digest p.digest)) (none (omega (arith, is)))

-- A text that is at no other place comes.
sound-more : (es : List TextView) (e : TextView) → TextFits e → All (λ x. x.input.text ≢ e.input.text) es → ((d : List ℕ) → how_many (λ p. bytes_eq d p.digest) (pins_in es) + how_many (λ p. bytes_eq d p.digest) e.pins ≤ 1) → AreSound es → AreSound (es ++ e ∷ [])
sound-more es e fits absent few s = record {
  fits = All-push TextFits es e s.fits fits;
  once = λ t. let a = sum_by_push (of_text t (λ _. 1)) es e in let b = s.once t in same_case t (same_text t e.input.text) refl a b;
  pinned = λ d.
      let a = many-in (λ p. bytes_eq d p.digest) (es ++ e ∷ []) in
      let b = many-in (λ p. bytes_eq d p.digest) es in
      let x = sum_by_push (λ (x : TextView). how_many (λ p. bytes_eq d p.digest) x.pins) es e in
      let f = few d in omega (arith, a, b, x, f);
}
  where
    same_case : (t : List (List ℕ)) (b : Bool) → same_text t e.input.text ≡ b → total_of t (λ _. 1) (es ++ e ∷ []) ≡ total_of t (λ _. 1) es + cond (same_text t e.input.text) 1 0 → total_of t (λ _. 1) es ≤ 1 → total_of t (λ _. 1) (es ++ e ∷ []) ≤ 1
    same_case t true is a b =
        let same = same-is t e.input.text is in
        let z = total-absent t (λ _. 1) es (subst (λ (u : List (List ℕ)). All (λ (x : TextView). x.input.text ≢ u) es) (sym same) absent) in
        let one : ◌≡◌ {A = ℕ} (cond (same_text t e.input.text) 1 0) 1 = ap (λ (b : Bool). cond {A = ℕ} b 1 0) is in
        omega (arith, a, z, one)
    same_case t false is a b =
        let none : ◌≡◌ {A = ℕ} (cond (same_text t e.input.text) 1 0) 0 = ap (λ (b : Bool). cond {A = ℕ} b 1 0) is in
        omega (arith, a, b, none)

-- If all keys have numbers below one, none has that one.
pub next-free : (next : ℕ) (digest : List ℕ) (rows : List Row) → All (IsKeyed next) rows → lookup (is_key digest next) rows ≡ None
next-free next digest [] keyed = refl
next-free next digest (r ∷ rows) keyed =
    let below = (All-head (IsKeyed next) r rows keyed).1 in
    let off : nat_eq next r.0.1 ≡ false = grind (arith, nat_tests) in
    let none : is_key digest next r.0 ≡ false = both_case (bytes_eq digest r.0.0) (nat_eq next r.0.1) off in
    ap (λ (b : Bool). cond b (Some r.1) (lookup (is_key digest next) rows)) none ∙ next-free next digest rows (All-tail (IsKeyed next) r rows keyed)
  where
    both_case : (a b : Bool) → b ≡ false → (a && b) ≡ false
    both_case true b h = h
    both_case false b h = refl

module _ (calm next : ℕ) (rows : List Row) (table : IsTable calm next rows) where
  absent-texts : (t : List (List ℕ)) → All (λ r. r.1.input.text ≢ t) rows → All (λ e. e.input.text ≢ t) (texts_in rows)
  absent-texts t h = All-map (λ (e : TextView). e.input.text ≢ t) (λ (r : Row). r.1) rows h

  table-more : (more : ℕ) (k : List ℕ × ℕ) (e : TextView) → next ≤ more → IsKeyed more (k, e) → AreSound (texts_in (rows ++ (k, e) ∷ [])) → IsTable calm more (rows ++ (k, e) ∷ [])
  table-more more k e least key sound =
      let long = length-append rows ((k, e) ∷ []) in
      let w = table.within in
      record {
        within = omega (arith, long, w);
        some = (let a = table.some in omega (arith, a, least));
        keyed = All-push (IsKeyed more) rows (k, e) (λ i d h. let r = table.keyed i d h in (r.0, (let b = r.1 in omega (arith, b, least)), r.2)) key;
        quiet = subst (All (λ (r : Row). IsQuiet r.1)) (sym (take-append-le calm rows ((k, e) ∷ []) w)) table.quiet;
        sound = sound;
      }

  -- The first text of its digest is added.
  pub table-first : (digest : List ℕ) (input : InputView) (pins : List PinName) → digest ≡ digest_of_input input → lookup (is_key digest 0) rows ≡ None → All (λ r. r.1.input.text ≢ input.text) rows → All (λ p. p.digest ≡ digest_of_input input) pins → ((d : List ℕ) → how_many (λ p. bytes_eq d p.digest) pins ≤ 1)
      → IsTable calm next (rows ++ ((digest, 0), new_text input pins) ∷ [])
  table-first digest input pins is free absent named few =
      let e = new_text input pins in
      table-more next (digest, 0) e (omega arith) (is, table.some, λ h. absurd (omega (arith, h))) (subst AreSound (sym (map-append (λ (r : Row). r.1) rows (((digest, 0), e) ∷ []))) (sound-more (texts_in rows) e (new-fits input pins named) (absent-texts input.text absent) sum table.sound))
    where
      none : how_many (λ p. bytes_eq digest p.digest) (pins_in (texts_in rows)) ≡ 0
      none = none-pinned next digest rows table.keyed table.sound.fits free

      apart : (d : List ℕ) (ps : List PinName) → bytes_eq d digest ≡ false → All (λ p. p.digest ≡ digest_of_input input) ps → how_many (λ p. bytes_eq d p.digest) ps ≡ 0
      apart d [] off all = refl
      apart d (p ∷ ps) off all =
          let one : bytes_eq d p.digest ≡ false = ap (bytes_eq d) (All-head (λ (q : PinName). q.digest ≡ digest_of_input input) p ps all ∙ sym is) ∙ off in
          let a : ◌≡◌ {A = ℕ} (cond (bytes_eq d p.digest) 1 0) 0 = ap (λ (b : Bool). cond {A = ℕ} b 1 0) one in
          let b = apart d ps off (All-tail (λ (q : PinName). q.digest ≡ digest_of_input input) p ps all) in
          omega (arith, a, b)

      sum : (d : List ℕ) → how_many (λ p. bytes_eq d p.digest) (pins_in (texts_in rows)) + how_many (λ p. bytes_eq d p.digest) pins ≤ 1
      sum d = digest_case (bytes_eq d digest) refl
        where
          digest_case : (b : Bool) → bytes_eq d digest ≡ b → how_many (λ p. bytes_eq d p.digest) (pins_in (texts_in rows)) + how_many (λ p. bytes_eq d p.digest) pins ≤ 1
          digest_case true same =
              let e : d ≡ digest = (bytes_eq-Decides d digest).0 same in
              let z : how_many (λ p. bytes_eq d p.digest) (pins_in (texts_in rows)) ≡ 0 = ap (λ (x : List ℕ). how_many (λ p. bytes_eq x p.digest) (pins_in (texts_in rows))) e ∙ none in
              let f = few d in
              omega (arith, z, f)
          digest_case false off =
              let z = apart d pins off named in
              let f = table.sound.pinned d in
              omega (arith, z, f)

  -- Another text of its digest is added, without a pin.
  pub table-another : (digest : List ℕ) (input : InputView) → digest ≡ digest_of_input input → All (λ r. r.1.input.text ≢ input.text) rows → IsTable calm (next + 1) (rows ++ ((digest, next), new_text input []) ∷ [])
  table-another digest input is absent =
      let e = new_text input [] in
      table-more (next + 1) (digest, next) e (omega arith) (is, omega arith, λ h. refl)
      (subst AreSound (sym (map-append (λ (r : Row). r.1) rows (((digest, next), e) ∷ []))) (sound-more (texts_in rows) e (new-fits input [] (All-nil (λ (p : PinName). p.digest ≡ digest_of_input input))) (absent-texts input.text absent) (λ d. let f = table.sound.pinned d in omega (arith, f)) table.sound))

-- A text that was touched, and then changes its numbers.
module _ (old mid : TableView) (place to : ℕ) (touches : Touches place to old mid) (table : IsTable mid.calm mid.next mid.rows) (k : List ℕ × ℕ) (e : TextView) (at : slice_get mid.rows to ≡ Some (k, e)) where
  pub touched : (r : Row) → slice_get old.rows place ≡ Some r → r.1 ≡ e
  touched r was = ap (λ (x : Row). x.1) (same_some r (k, e) (sym (touches.here r was) ∙ at))

  pub touch-changes : (how : TextView → TextView) (r : Row) → slice_get old.rows place ≡ Some r → Changes r.1.input.text how (texts_in old.rows) (texts_in (set_value_at mid.rows to (how e)))
  touch-changes how r was = record {
    text = e;
    rest = texts_in (remove mid.rows to);
    is = ap (λ (x : TextView). x.input.text) (sym (touched r was));
    before = IsPermutation-trans (texts_in old.rows) (texts_in mid.rows) (e ∷ texts_in (remove mid.rows to)) (IsPermutation-map (λ (r : Row). r.1) old.rows mid.rows touches.same) (front-texts mid.calm mid.next mid.rows table to k e at);
    after = written-texts mid.calm mid.next mid.rows table to k e (how e) at;
  }

-- A text at a place has its totals.
pub finds-at : (calm next : ℕ) (rows : List Row) → IsTable calm next rows → (t : List (List ℕ)) (i : ℕ) (k : List ℕ × ℕ) (e : TextView) → slice_get rows i ≡ Some (k, e) → e.input.text ≡ t → IsAt t rows i
finds-at calm next rows table t i k e at is =
    let total : (f : TextView → ℕ) → total_of t f (texts_in rows) ≡ f e = (λ f. total-once t f (texts_in rows) (texts_in (remove rows i)) e (table.sound.once t) (front-texts calm next rows table i k e at) is) in
    record { row = (k, e); at = at; is = is; fits = (text-at calm next rows table i k e at).1; used = total (λ x. x.used); came = total (λ x. x.came); gone = total (λ x. x.gone) }

-- If no two texts have had one digest, a text whose digest is not there is not there.
pub absent-digest : (next : ℕ) (t : List (List ℕ)) (rows : List Row) → All (IsKeyed next) rows → next ≡ 1 → lookup (is_key (input_digest t) 0) rows ≡ None → All (λ r. r.1.input.text ≢ t) rows
absent-digest next t [] keyed one none = All-nil (λ (r : Row). r.1.input.text ≢ t)
absent-digest next t (r ∷ rows) keyed one none = key_case (is_key (input_digest t) 0 r.0) refl none (absent-digest next t rows (All-tail (IsKeyed next) r rows keyed) one)
  where
    key_case : (b : Bool) → is_key (input_digest t) 0 r.0 ≡ b → cond b (Some r.1) (lookup (is_key (input_digest t) 0) rows) ≡ None → (lookup (is_key (input_digest t) 0) rows ≡ None → All (λ r. r.1.input.text ≢ t) rows) → All (λ r. r.1.input.text ≢ t) (r ∷ rows)
    key_case true is none more = absurd (let both : Some r.1 ≡ None = none in cc)
    key_case false is none more =
        let key = All-head (IsKeyed next) r rows keyed in
        let zero_is : nat_eq 0 r.0.1 ≡ true = (let low = key.1 in grind (arith, nat_tests)) in
        All-cons (λ (x : Row). x.1.input.text ≢ t) r rows
        (λ same.
        let digest : bytes_eq (input_digest t) r.0.0 ≡ true = (bytes_eq-Decides (input_digest t) r.0.0).1 (sym (key.0 ∙ ap input_digest same)) in
        let yes : is_key (input_digest t) 0 r.0 ≡ true = rw (digest, zero_is) refl in
        let both : true ≡ false = sym yes ∙ is in cc)
        (more none)

-- No key passes.
pub none-there : {X : Type 0} (o : Option X) → is_some o ≡ false → o ≡ None
none-there None h = refl
none-there (Some x) h = cc

-- What holds of all texts holds of one.
pub one-of-all : (P : TextView → Type 0) (rows : List Row) (i : ℕ) (r : Row) → All P (texts_in rows) → slice_get rows i ≡ Some r → P r.1
one-of-all P [] i r all at = absurd (let h = slice_get_within [] i r at in omega (arith, h))
one-of-all P (x ∷ rows) zero r all at = subst (λ (y : Row). P y.1) (same_some x r at) (All-head P x.1 (texts_in rows) all)
one-of-all P (x ∷ rows) (suc i) r all at = one-of-all P rows i r (All-tail P x.1 (texts_in rows) all) at

-- There is a row at each place.
pub some-row : (rows : List Row) (i : ℕ) → i < length rows → (r : Row) × (slice_get rows i ≡ Some r)
some-row [] i h = absurd (omega arith)
some-row (x ∷ rows) zero h = (x, refl)
some-row (x ∷ rows) (suc i) h = some-row rows i (omega arith)

pub texts-push : (rows : List Row) (k : List ℕ × ℕ) (e : TextView) → texts_in (rows ++ (k, e) ∷ []) ≡ texts_in rows ++ e ∷ []
texts-push rows k e = map-append (λ (r : Row). r.1) rows ((k, e) ∷ [])

-- An optional pin is at most one.
pub few-pins : {O : Type 0} (pin : Option (PinView InputView O)) (d : List ℕ) → how_many (λ p. bytes_eq d p.digest) (maybe_pins pin) ≤ 1
few-pins None d = omega arith
few-pins (Some p) d = test_case (bytes_eq d (digest_of_input p.input))
  where
    test_case : (b : Bool) → ◌≤◌ (cond b 1 0 + 0) 1
    test_case true = omega arith
    test_case false = omega arith

-- A text that is at no row is none of the texts.
pub absent-rows : (t : List (List ℕ)) (rows : List Row) → All (λ r. r.1.input.text ≢ t) rows → All (λ e. e.input.text ≢ t) (texts_in rows)
absent-rows t rows h = All-map (λ (e : TextView). e.input.text ≢ t) (λ (r : Row). r.1) rows h
