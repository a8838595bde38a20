-- What a shift brings and takes away, as the lists that are made piece by piece.
use Rattle.std.proofs.Common.{◌≡◌, ℕ, ◌+◌, ◌-◌, ◌≤◌, List, [], ◌∷◌, ◌++◌, length, map, take, drop, refl, ap, sym, ◌∙◌, arith}
use Rattle.std.specs.Prelude.{slice_index_or}
use Rattle.std.proofs.lemmas.List.{take_all, take-map, drop-map, map-append, length-drop}
use Rattle.record_text.specs.Shifts.{brought, left}
use Rattle.record_text.specs.declared.shift.Shift.TheVariants.{Slide, Splice}
use Rattle.window_manager.specs.Windows.{Leaf}
use Rattle.map_tasks.specs.Inputs.{InputView}
use Rattle.run_engine.specs.Inputs.{texts_of, input_for}

module _ (parts setting : ℕ) (leaves : List Leaf) where
  at-places : (places : List ℕ) → map (λ p. input_for parts setting (slice_index_or leaves p [])) places ≡ map (input_for parts setting) (map (λ p. slice_index_or leaves p []) places)
  at-places [] = refl
  at-places (p ∷ ps) = ap (λ (l : List InputView). input_for parts setting (slice_index_or leaves p []) ∷ l) (at-places ps)

  -- The leaves at the places, and then the last ones.
  pub slid-inputs : (first gone : ℕ) (places : List ℕ) (fresh count : ℕ) (a b : List InputView) → count ≡ length leaves → fresh ≤ count → a ≡ [] ++ map (λ p. input_for parts setting (slice_index_or leaves p [])) places → b ≡ a ++ map (input_for parts setting) (take (count - (count - fresh)) (drop (count - fresh) leaves))
      → b ≡ map (input_for parts setting) (brought [] (Slide first gone places fresh) leaves)
  slid-inputs first gone places fresh count a b many within front back =
      let n = length-drop (count - fresh) leaves in
      let whole : take (count - (count - fresh)) (drop (count - fresh) leaves) ≡ drop (count - fresh) leaves = take_all (count - (count - fresh)) (drop (count - fresh) leaves) (omega (arith, n, many)) in
      back
      ∙ ap (λ (l : List InputView). l ++ map (input_for parts setting) (take (count - (count - fresh)) (drop (count - fresh) leaves))) (front ∙ at-places places)
      ∙ ap (λ (l : List Leaf). map (input_for parts setting) (map (λ p. slice_index_or leaves p []) places) ++ map (input_for parts setting) l) whole
      ∙ sym (map-append (input_for parts setting) (map (λ p. slice_index_or leaves p []) places) (drop (count - fresh) leaves))
      ∙ ap (λ (k : ℕ). map (input_for parts setting) (map (λ p. slice_index_or leaves p []) places ++ drop (k - fresh) leaves)) many

  -- The leaves of the span.
  pub spliced-inputs : (first gone fresh : ℕ) (a : List InputView) → a ≡ [] ++ map (input_for parts setting) (take ((first + fresh) - first) (drop first leaves)) → a ≡ map (input_for parts setting) (brought [] (Splice first gone fresh) leaves)
  spliced-inputs first gone fresh a is =
      let n : (first + fresh) - first ≡ fresh = omega arith in
      is ∙ ap (λ (k : ℕ). map (input_for parts setting) (take k (drop first leaves))) n

module _ (leaves : List InputView) where
  -- The oldest leaves, and then those at the places.
  pub slid-left : (first gone : ℕ) (places : List ℕ) (fresh : ℕ) (a b : List InputView) → a ≡ [] ++ take (gone - 0) (drop 0 leaves) → texts_of b ≡ texts_of a ++ map (λ p. slice_index_or (texts_of leaves) (gone + p) []) places
      → texts_of b ≡ left [] (Slide first gone places fresh) (texts_of leaves)
  slid-left first gone places fresh a b front back =
      let n : gone - 0 ≡ gone = omega arith in
      back ∙ ap (λ (l : List Leaf). l ++ map (λ p. slice_index_or (texts_of leaves) (gone + p) []) places) (ap texts_of (front ∙ ap (λ (k : ℕ). take k leaves) n) ∙ sym (take-map (λ (i : InputView). i.text) gone leaves))

  -- The span of leaves.
  pub spliced-left : (first gone fresh : ℕ) (a : List InputView) → a ≡ [] ++ take ((first + gone) - first) (drop first leaves) → texts_of a ≡ left [] (Splice first gone fresh) (texts_of leaves)
  spliced-left first gone fresh a is =
      let n : (first + gone) - first ≡ gone = omega arith in
      ap texts_of (is ∙ ap (λ (k : ℕ). take k (drop first leaves)) n)
      ∙ sym (take-map (λ (i : InputView). i.text) gone (drop first leaves))
      ∙ ap (take gone) (sym (drop-map (λ (i : InputView). i.text) first leaves))
