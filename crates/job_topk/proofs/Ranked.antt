-- Ranked lists during a merge, by which first member moves to the merged list.
use Rattle.std.proofs.Common.{◌≡◌, ℕ, suc, ◌-◌, ◌≤◌, ◌<◌, true, false, List, [], ◌∷◌, ◌++◌, length, get_or, take, drop, sym, ap, ◌∙◌, arith, append_assoc}
use Rattle.std.proofs.lemmas.List.{take_rest}
use Rattle.std.specs.Ordering.{is_gt}
use Rattle.job_topk.specs.Merging.{in_order}
use Rattle.job_topk.specs.TopK.{member_cmp}
use Rattle.job_topk.specs.Laws.{behind, ahead, none_right}

module _ (merged : List (ℕ × List ℕ)) (n k : ℕ) (more : n ≡ suc k) (total : List (ℕ × List ℕ)) where
  -- the first of what is left moves to the merged list
  moved : (all : List (ℕ × List ℕ)) (x : ℕ × List ℕ) (rest next : List (ℕ × List ℕ)) → all ≡ x ∷ rest → next ≡ rest → merged ++ take n all ≡ total → (merged ++ x ∷ []) ++ take k next ≡ total
  moved all x rest next is same h =
      append_assoc merged (x ∷ []) (take k next)
      ∙ ap (λ (l : List (ℕ × List ℕ)). merged ++ (x ∷ take k l)) same
      ∙ ap (λ (l : List (ℕ × List ℕ)). merged ++ l) (sym (ap (λ (j : ℕ). take j all) more ∙ ap (take (suc k)) is))
      ∙ h

  -- only the left list has members
  pub left_alone : (t u : List (ℕ × List ℕ)) (x : ℕ × List ℕ) → 1 ≤ length t → length u < 1 → x ≡ get_or t 0 x → merged ++ take n (in_order member_cmp t u) ≡ total → (merged ++ x ∷ []) ++ take k (in_order member_cmp (take (length t - 1) (drop 1 t)) u) ≡ total
  left_alone [] u x lt lu is h = absurd (omega arith)
  left_alone (a ∷ t) (b ∷ u) x lt lu is h = absurd (omega arith)
  left_alone (a ∷ t) [] x lt lu is h =
      moved (in_order member_cmp (a ∷ t) []) x t (in_order member_cmp (take (length (a ∷ t) - 1) (drop 1 (a ∷ t))) [])
      (none_right member_cmp (a ∷ t) ∙ ap (λ (m : ℕ × List ℕ). m ∷ t) (sym is)) (none_right member_cmp (take (length (a ∷ t) - 1) (drop 1 (a ∷ t))) ∙ take_rest (a ∷ t) 1) h

  -- only the right list has members
  pub right_alone : (t u : List (ℕ × List ℕ)) (y : ℕ × List ℕ) → length t < 1 → 1 ≤ length u → y ≡ get_or u 0 y → merged ++ take n (in_order member_cmp t u) ≡ total → (merged ++ y ∷ []) ++ take k (in_order member_cmp t (take (length u - 1) (drop 1 u))) ≡ total
  right_alone (a ∷ t) u y lt lu is h = absurd (omega arith)
  right_alone [] [] y lt lu is h = absurd (omega arith)
  right_alone [] (b ∷ u) y lt lu is h = moved (b ∷ u) y u (take (length (b ∷ u) - 1) (drop 1 (b ∷ u))) (ap (λ (m : ℕ × List ℕ). m ∷ u) (sym is)) (take_rest (b ∷ u) 1) h

  -- the left list's first comes after no other
  pub left_first : (t u : List (ℕ × List ℕ)) (x y : ℕ × List ℕ) → 1 ≤ length t → 1 ≤ length u → x ≡ get_or t 0 x → y ≡ get_or u 0 y → is_gt (member_cmp x y) ≡ false → merged ++ take n (in_order member_cmp t u) ≡ total → (merged ++ x ∷ []) ++ take k (in_order member_cmp (take (length t - 1) (drop 1 t)) u) ≡ total
  left_first [] u x y lt lu ist isu order h = absurd (omega arith)
  left_first (a ∷ t) [] x y lt lu ist isu order h = absurd (omega arith)
  left_first (a ∷ t) (b ∷ u) x y lt lu ist isu order h =
      let first : is_gt (member_cmp a b) ≡ false = (λ i. is_gt (member_cmp (sym ist i) (sym isu i))) ∙ order in
      moved (in_order member_cmp (a ∷ t) (b ∷ u)) x (in_order member_cmp t (b ∷ u)) (in_order member_cmp (take (length (a ∷ t) - 1) (drop 1 (a ∷ t))) (b ∷ u))
      (ahead member_cmp a t b u first ∙ ap (λ (m : ℕ × List ℕ). m ∷ in_order member_cmp t (b ∷ u)) (sym ist)) (ap (λ (l : List (ℕ × List ℕ)). in_order member_cmp l (b ∷ u)) (take_rest (a ∷ t) 1)) h

  -- the left list's first comes after the right one's
  pub right_first : (t u : List (ℕ × List ℕ)) (x y : ℕ × List ℕ) → 1 ≤ length t → 1 ≤ length u → x ≡ get_or t 0 x → y ≡ get_or u 0 y → is_gt (member_cmp x y) ≡ true → merged ++ take n (in_order member_cmp t u) ≡ total → (merged ++ y ∷ []) ++ take k (in_order member_cmp t (take (length u - 1) (drop 1 u))) ≡ total
  right_first [] u x y lt lu ist isu order h = absurd (omega arith)
  right_first (a ∷ t) [] x y lt lu ist isu order h = absurd (omega arith)
  right_first (a ∷ t) (b ∷ u) x y lt lu ist isu order h =
      let first : is_gt (member_cmp a b) ≡ true = (λ i. is_gt (member_cmp (sym ist i) (sym isu i))) ∙ order in
      moved (in_order member_cmp (a ∷ t) (b ∷ u)) y (in_order member_cmp (a ∷ t) u) (in_order member_cmp (a ∷ t) (take (length (b ∷ u) - 1) (drop 1 (b ∷ u))))
      (behind member_cmp a t b u first ∙ ap (λ (m : ℕ × List ℕ). m ∷ in_order member_cmp (a ∷ t) u) (sym isu)) (ap (λ (l : List (ℕ × List ℕ)). in_order member_cmp (a ∷ t) l) (take_rest (b ∷ u) 1)) h
