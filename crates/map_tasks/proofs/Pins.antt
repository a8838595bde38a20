-- How the pins of texts are counted.
use Rattle.std.proofs.Common.{◌≡◌, ℕ, ◌+◌, Bool, List, [], ◌∷◌, ◌++◌, refl, sym, ap, ◌∙◌, arith, append-nil}
use Rattle.std.specs.List.{sum_by, All}
use Rattle.std.specs.List.Sorted.{IsPermutation}
use Rattle.std.proofs.lemmas.List.Sums.{sum_by-cons}
use Rattle.std.proofs.lemmas.Grind.{flat_map-append}
use Rattle.std.proofs.lemmas.List.Sorted.{sum_by-IsPermutation, All-permutation}
use Rattle.std.proofs.lemmas.List.Elements.{All-nil, All-cons, All-head, All-tail}
use Rattle.memo_core.specs.History.{how_many}
use Rattle.pin_table.specs.Views.{CallerView}
use Rattle.pin_table.specs.Covers.{PinName, is_on, count, AreGiven}
use Rattle.pin_table.proofs.Covering.{given-append, given-left, given-right}
use Rattle.map_tasks.specs.Texts.{TextView, pins_in}

-- The pins of texts, as a sum over the texts.
pub many-in : (test : PinName → Bool) (es : List TextView) → how_many test (pins_in es) ≡ sum_by (λ e. how_many test e.pins) es
many-in test [] = refl
many-in test (e ∷ es) =
    let a = many-append e.pins (pins_in es) in
    let b = sum_by-cons (λ (x : TextView). how_many test x.pins) e es in
    let c = many-in test es in
    omega (arith, a, b, c)
  where
    many-append : (ps qs : List PinName) → how_many test (ps ++ qs) ≡ how_many test ps + how_many test qs
    many-append [] qs = omega arith
    many-append (p ∷ ps) qs = let h = many-append ps qs in omega (arith, h)

-- Texts in another order have the same pins.
pub many-moved : (test : PinName → Bool) (es fs : List TextView) → IsPermutation es fs → how_many test (pins_in es) ≡ how_many test (pins_in fs)
many-moved test es fs moved = many-in test es ∙ (sym (sum_by-IsPermutation (λ (e : TextView). how_many test e.pins) es fs moved) ∙ sym (many-in test fs))

pub count-moved : (s id : ℕ) (es fs : List TextView) → IsPermutation es fs → count s id (pins_in es) ≡ count s id (pins_in fs)
count-moved s id es fs moved = many-moved (is_on s id) es fs moved

pub given-in : (c : CallerView) (es : List TextView) → All (λ e. AreGiven c e.pins) es → AreGiven c (pins_in es)
given-in c [] h = tt
given-in c (e ∷ es) h = given-append c e.pins (pins_in es) (All-head (λ (x : TextView). AreGiven c x.pins) e es h) (given-in c es (All-tail (λ (x : TextView). AreGiven c x.pins) e es h))

pub in-given : (c : CallerView) (es : List TextView) → AreGiven c (pins_in es) → All (λ e. AreGiven c e.pins) es
in-given c [] h = All-nil (λ (x : TextView). AreGiven c x.pins)
in-given c (e ∷ es) h = All-cons (λ (x : TextView). AreGiven c x.pins) e es (given-left c e.pins (pins_in es) h) (in-given c es (given-right c e.pins (pins_in es) h))

pub given-moved : (c : CallerView) (es fs : List TextView) → IsPermutation es fs → AreGiven c (pins_in es) → AreGiven c (pins_in fs)
given-moved c es fs moved h = given-in c fs (All-permutation (λ (e : TextView). AreGiven c e.pins) es fs moved (in-given c es h))

-- A text that is added at the front, with its own pins in addition to those that were left.
pub pins-brought : (es fs : List TextView) (e : TextView) → fs ≡ es ++ e ∷ [] → pins_in fs ≡ pins_in es ++ e.pins
pins-brought es fs e is = ap pins_in is ∙ (flat_map-append (λ (x : TextView). x.pins) es (e ∷ []) ∙ ap (λ (ps : List PinName). pins_in es ++ ps) (append-nil e.pins))
