-- Runs of a list, item by item.
use Rattle.std.proofs.Common.{◌≡◌, ℕ, ◌+◌, ◌-◌, ◌<◌, ◌≤◌, List, [], ◌∷◌, ◌++◌, length, map, take, drop, ap, sym, ◌∙◌, arith, append_assoc}
use Rattle.std.specs.Prelude.{slice_index_or}
use Rattle.std.proofs.lemmas.List.{take_more, get_or-drop, length-drop, map_push}

module _ {X : Type 0} where
  -- One item more of a run.
  pub span-more : (xs : List X) (from i : ℕ) (d : X) → from ≤ i → i < length xs → take ((i + 1) - from) (drop from xs) ≡ take (i - from) (drop from xs) ++ slice_index_or xs i d ∷ []
  span-more xs from i d le lt =
      let n = length-drop from xs in
      let at : ((i + 1) - from) ≡ (i - from) + 1 = omega (arith, le) in
      let back : from + (i - from) ≡ i = omega (arith, le) in
      ap (λ (k : ℕ). take k (drop from xs)) at
      ∙ take_more (drop from xs) (i - from) d (omega (arith, n, le, lt))
      ∙ ap (λ (x : X). take (i - from) (drop from xs) ++ x ∷ []) (get_or-drop from xs (i - from) d ∙ ap (λ (k : ℕ). slice_index_or xs k d) back)

  -- One item more after items made of a list.
  pub pushed-more : {Y : Type 0} (f : X → Y) (begun : List Y) (xs : List X) (now new : List Y) (x : X) (y : Y) → now ≡ begun ++ map f xs → new ≡ now ++ y ∷ [] → y ≡ f x → new ≡ begun ++ map f (xs ++ x ∷ [])
  pushed-more f begun xs now new x y was is made =
      is ∙ ap (λ (l : List _). l ++ y ∷ []) was ∙ append_assoc begun (map f xs) (y ∷ [])
      ∙ ap (λ (l : List _). begun ++ l) (ap (λ (z : _). map f xs ++ z ∷ []) made ∙ sym (map_push f xs x))
