-- The root of a circle is the merge of its leaves in the window's order.
use Rattle.std.proofs.Common.{◌≡◌, ℕ, ◌≤◌, sym, ap, ◌∙◌, List, [], ◌∷◌, ◌++◌, refl, subst, Option, Some, None, take, drop, fold, append-nil}
use Rattle.std.proofs.lemmas.List.{map-append, take-append-drop, take-take}
use Rattle.definitions.specs.Tables.{IsGoodJoin, merged}
use Rattle.definitions.proofs.TableLaws.{merged_comm}
use Rattle.sheets.specs.Sheets.{SheetOf}
use Rattle.sheets.specs.United.{tables_of}
use Rattle.tree_laws.specs.Trees.{IsLeaf, IsMergeOver, merged_all}
use Rattle.tree_laws.proofs.MergedAll.{AllGoodTables, good-fold, merged_all-append}
use Rattle.rotating_tree.specs.declared.part.Part.{Part}
use Rattle.rotating_tree.specs.declared.part.Part.TheVariants.{Void, Shared, Merged}
use Rattle.rotating_tree.specs.declared.node.Node.{Node, Leaf, Fork'}
use Rattle.rotating_tree.specs.Nodes.{AllSome, IsJoined, IsSound, part_sheet, places, now_of}
use Rattle.rotating_tree.specs.Circles.{slots, voids, found}
use Rattle.rotating_tree.proofs.FoundLaws.{all-left, all-right, found-append, found-voids}

module _ {V : Type 0} (good : ℕ → V → Type 0) (joined : ℕ → V → V → V) (setting : ℕ) (laws : IsGoodJoin (good setting) (joined setting)) where
  -- The tables of leaves have good values.
  pub good-tables : (os : List (Option (SheetOf V))) → AllSome (IsLeaf good setting) os → AllGoodTables (joined setting) (good setting) laws (tables_of (found os))
  good-tables [] a = tt
  good-tables (None ∷ os) a = good-tables os a.1
  good-tables (Some s ∷ os) a = (a.0.values, good-tables os a.1)

  -- What a node over halves has is the merge over the leaves of both.
  halves-merge : {J M : Type 0} (ts us : List (List (List ℕ × V))) (a b : Option (SheetOf V)) (part : Part J V M) → IsJoined joined a b part → IsMergeOver joined setting ts a → IsMergeOver joined setting us b → AllGoodTables (joined setting) (good setting) laws ts → AllGoodTables (joined setting) (good setting) laws us → IsMergeOver joined setting (ts ++ us) (part_sheet part)
  halves-merge ts us None None Void h x y gt gu = ap (λ (z : List (List (List ℕ × V))). z ++ us) x ∙ y
  halves-merge ts us None None (Shared s) h x y gt gu = absurd h
  halves-merge ts us None None (Merged g) h x y gt gu = absurd h
  halves-merge ts us None (Some b) Void h x y gt gu = absurd h
  halves-merge ts us None (Some b) (Shared s) h x y gt gu = subst (λ (z : List (List (List ℕ × V))). IsMergeOver joined setting (z ++ us) (Some s)) (sym x) (subst (λ (z : SheetOf V). IsMergeOver joined setting us (Some z)) (sym h) y)
  halves-merge ts us None (Some b) (Merged g) h x y gt gu = absurd h
  halves-merge ts us (Some a) None Void h x y gt gu = absurd h
  halves-merge ts us (Some a) None (Shared s) h x y gt gu = subst (λ (z : List (List (List ℕ × V))). IsMergeOver joined setting z (Some s)) (sym (ap (λ (z : List (List (List ℕ × V))). ts ++ z) y ∙ append-nil ts)) (subst (λ (z : SheetOf V). IsMergeOver joined setting ts (Some z)) (sym h) x)
  halves-merge ts us (Some a) None (Merged g) h x y gt gu = absurd h
  halves-merge ts us (Some a) (Some b) Void h x y gt gu = absurd h
  halves-merge ts us (Some a) (Some b) (Shared s) h x y gt gu = absurd h
  halves-merge ts us (Some a) (Some b) (Merged g) h x y gt gu = subst (λ (z : SheetOf V). IsMergeOver joined setting (ts ++ us) (Some z)) (sym h)
      (x.0, merged_all-append (joined setting) (good setting) laws ts us a.entries b.entries gt gu x.1 y.1 ∙ ap (λ (k : ℕ). Some (merged (joined k) a.entries b.entries)) (sym x.0))

  -- In the order of the places.
  pub sound-merge : {J M : Type 0} (n : Node J V M) → IsSound joined n → AllSome (IsLeaf good setting) (places n) → IsMergeOver joined setting (tables_of (found (places n))) (now_of n)
  sound-merge (Leaf Void draft) s a = refl
  sound-merge (Leaf (Shared x) draft) s a = (a.0.setting_is, refl)
  sound-merge (Leaf (Merged g) draft) s a = absurd s
  sound-merge (Fork' p l q r now draft) s a =
      let left = all-left (IsLeaf good setting) (places l) (places r) a in
      let right = all-right (IsLeaf good setting) (places l) (places r) a in
      let split : tables_of (found (places l ++ places r)) ≡ tables_of (found (places l)) ++ tables_of (found (places r)) = ap tables_of (found-append (places l) (places r)) ∙ map-append (λ (x : SheetOf V). x.entries) (found (places l)) (found (places r)) in
      subst (λ (z : List (List (List ℕ × V))). IsMergeOver joined setting z (part_sheet now)) (sym split)
      (halves-merge (tables_of (found (places l))) (tables_of (found (places r))) (now_of l) (now_of r) now s.2 (sound-merge l s.0 left) (sound-merge r s.1 right) (good-tables (places l) left) (good-tables (places r) right))

  module _ (comm : (a b : V) → good setting a → good setting b → joined setting a b ≡ joined setting b a) where
    -- Two lists of tables may be merged in either order.
    swap-merge : (ts us : List (List (List ℕ × V))) → AllGoodTables (joined setting) (good setting) laws ts → AllGoodTables (joined setting) (good setting) laws us → merged_all (joined setting) (ts ++ us) ≡ merged_all (joined setting) (us ++ ts)
    swap-merge [] us x y = ap (merged_all (joined setting)) (sym (append-nil us))
    swap-merge (t ∷ ts) [] x y = ap (merged_all (joined setting)) (append-nil (t ∷ ts))
    swap-merge (t ∷ ts) (u ∷ us) x y =
        let a = fold (merged (joined setting)) t ts in
        let b = fold (merged (joined setting)) u us in
        merged_all-append (joined setting) (good setting) laws (t ∷ ts) (u ∷ us) a b x y refl refl
        ∙ ap (λ (z : List (List ℕ × V)). Some z) (merged_comm laws comm a b (good-fold (joined setting) (good setting) laws t ts x.0 x.1) (good-fold (joined setting) (good setting) laws u us y.0 y.1))
        ∙ sym (merged_all-append (joined setting) (good setting) laws (u ∷ us) (t ∷ ts) b a y x refl refl)

    swap-none : (ts us : List (List (List ℕ × V))) → ts ++ us ≡ [] → us ++ ts ≡ []
    swap-none [] us e = append-nil us ∙ e
    swap-none (t ∷ ts) us e = absurd (let no : t ∷ (ts ++ us) ≡ [] = e in cc)

    swap-over : (ts us : List (List (List ℕ × V))) (root : Option (SheetOf V)) → AllGoodTables (joined setting) (good setting) laws ts → AllGoodTables (joined setting) (good setting) laws us → IsMergeOver joined setting (ts ++ us) root → IsMergeOver joined setting (us ++ ts) root
    swap-over ts us None x y m = swap-none ts us m
    swap-over ts us (Some s) x y m = (m.0, sym (swap-merge ts us x y) ∙ m.1)

    -- In the order of the window.
    pub circle-merge : {J M : Type 0} (n start k : ℕ) (node : Node J V M) → start ≤ n → drop n (places node) ≡ voids k → IsSound joined node → AllSome (IsLeaf good setting) (places node) → IsMergeOver joined setting (tables_of (found (slots n start (places node)))) (now_of node)
    circle-merge n start k node le rest s all =
        let xs = places node in
        let a = drop start (take n xs) in
        let b = take start (take n xs) in
        let entries : SheetOf V → List (List ℕ × V) = λ x. x.entries in
        let in_places : tables_of (found xs) ≡ tables_of (found b) ++ tables_of (found a) =
        ap (λ ys. tables_of (found ys)) (sym (take-append-drop n xs))
        ∙ ap tables_of (found-append (take n xs) (drop n xs) ∙ ap (λ ys. found (take n xs) ++ ys) (ap found rest ∙ found-voids (SheetOf V) k) ∙ append-nil (found (take n xs)))
        ∙ ap (λ ys. tables_of (found ys)) (sym (take-append-drop start (take n xs)))
        ∙ ap tables_of (found-append b a) ∙ map-append entries (found b) (found a) in
        let in_window : tables_of (found (slots n start xs)) ≡ tables_of (found a) ++ tables_of (found b) =
        ap (λ ys. tables_of (found (a ++ ys))) (sym (take-take start n xs le)) ∙ ap tables_of (found-append a b) ∙ map-append entries (found a) (found b) in
        let front : AllSome (IsLeaf good setting) (b ++ a) = subst (AllSome (IsLeaf good setting)) (sym (take-append-drop start (take n xs))) (all-left (IsLeaf good setting) (take n xs) (drop n xs) (subst (AllSome (IsLeaf good setting)) (sym (take-append-drop n xs)) all)) in
        subst (λ (z : List (List (List ℕ × V))). IsMergeOver joined setting z (now_of node)) (sym in_window)
        (swap-over (tables_of (found b)) (tables_of (found a)) (now_of node) (good-tables b (all-left (IsLeaf good setting) b a front)) (good-tables a (all-right (IsLeaf good setting) b a front))
        (subst (λ (z : List (List (List ℕ × V))). IsMergeOver joined setting z (now_of node)) in_places (sound-merge node s all)))
