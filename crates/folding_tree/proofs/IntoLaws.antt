-- Nodes that are made one after the other.
use Rattle.std.proofs.Common.{◌≡◌, inl, inr, ℕ, ◌+◌, ◌*◌, ◌<◌, ◌≤◌, arith, sym, ap, ◌∙◌, subst, List, [], ◌∷◌, ◌++◌, length, take, drop, get_or, Some, true, false}
use Rattle.std.specs.List.{AllZip}
use Rattle.std.proofs.lemmas.Bool.{or_cases}
use Rattle.std.proofs.lemmas.List.{take_more, take-append-drop}
use Rattle.job_laws.specs.declared.meter.Counts.{Counts}
use Rattle.job_laws.specs.Counted.{RoseBy}
use Rattle.pin_table.specs.Views.{CallerView}
use Rattle.pin_table.specs.Covers.{PinName, AreGiven, Got, IsLater}
use Rattle.pin_table.specs.OwnEvents.{Met}
use Rattle.pin_table.proofs.Covering.{got-then, given-append, all-given-later}
use Rattle.pin_table.proofs.OwnEvents.{any-met-later, any-met-before}
use Rattle.tree_laws.specs.Pairs.{PairOf}
use Rattle.tree_laws.proofs.LeafLaws.{merged-within, rose-more}
use Rattle.folding_tree.specs.declared.part.Part.{Part}
use Rattle.folding_tree.specs.Levels.{Row, sheet_at, IsMade, AreMade, merges_by, merges_over, part_pins, parts_pins, part_loose, parts_loose}
use Rattle.folding_tree.proofs.PartLaws.{pins-push, loose-append}
use Rattle.folding_tree.proofs.BoundLaws.{merges-append}
use Rattle.folding_tree.proofs.FlowLaws.{zip-more}

module _ {J V M : Type 0} (digest_of : PairOf V → List ℕ) (u v w : CallerView) (made now : List (Part J V M)) (part : Part J V M) (is : now ≡ made ++ part ∷ []) where
  pub into-got : Got u (parts_pins digest_of made) v → Got v (part_pins digest_of part) w → Got u (parts_pins digest_of now) w
  into-got a b = subst (λ (ps : List PinName). Got u ps w) (sym (ap (parts_pins digest_of) is ∙ pins-push digest_of made part)) (got-then u v w (parts_pins digest_of made) (part_pins digest_of part) a b)

  pub into-given : IsLater v w → AreGiven v (parts_pins digest_of made) → AreGiven w (part_pins digest_of part) → AreGiven w (parts_pins digest_of now)
  into-given later a b = subst (AreGiven w) (sym (ap (parts_pins digest_of) is ∙ pins-push digest_of made part)) (given-append w (parts_pins digest_of made) (part_pins digest_of part) (all-given-later v w (parts_pins digest_of made) later a) b)

module _ {J V M : Type 0} (u v w : CallerView) (made now : List (Part J V M)) (part : Part J V M) (is : now ≡ made ++ part ∷ []) where
  pub into-loose : IsLater u v → IsLater v w → (parts_loose made ≡ true → Met u v) → (part_loose part ≡ true → Met v w) → parts_loose now ≡ true → Met u w
  into-loose a b f g h = elim (loose-append made (part ∷ []) (sym (ap parts_loose is) ∙ h)) [
    | inl old ↦ any-met-later u v w b (f old)
    | inr new ↦ elim (or_cases (part_loose part) false new) [
      | inl own ↦ any-met-before u v w a b (g own)
      | inr never ↦ absurd (let e : false ≡ true = never in cc)
    ]
  ]

module _ {J V M : Type 0} (row : Row J V M) (places : List ℕ) (i : ℕ) (lt : i < length places) where
  abbrev here : ℕ
  here = get_or places i 0

  abbrev one : ℕ
  one = merges_by (sheet_at row (2 * here)) (sheet_at row (2 * here + 1))

  pub merges-more : merges_over row (take (i + 1) places) ≡ merges_over row (take i places) + one
  merges-more = ap (merges_over row) (take_more places i 0 lt) ∙ merges-append row (take i places) (here ∷ []) ∙ omega arith

  merges-part : merges_over row (take (i + 1) places) ≤ merges_over row places
  merges-part =
      let e = ap (merges_over row) (take-append-drop (i + 1) places) in
      let s = merges-append row (take (i + 1) places) (drop (i + 1) places) in
      omega (arith, e, s)

  pub into-counted : (k : ℕ) (x y z : Counts) → RoseBy 0 (merges_over row (take i places)) (merges_over row (take i places) * k) x y → RoseBy 0 one (one * k) y z → RoseBy 0 (merges_over row (take (i + 1) places)) (merges_over row (take (i + 1) places) * k) x z
  into-counted k x y z a b = subst (λ (n : ℕ). RoseBy 0 n (n * k) x z) (sym merges-more) (rose-more (merges_over row (take i places)) one k x y z a b)

  pub into-stopped : (k : ℕ) (x y z : Counts) → RoseBy 0 (merges_over row (take i places)) (merges_over row (take i places) * k) x y → RoseBy 0 one (one * k) y z → RoseBy 0 (merges_over row places) (merges_over row places * k) x z
  into-stopped k x y z a b = merged-within (merges_over row (take (i + 1) places)) (merges_over row places) k x z merges-part (into-counted k x y z a b)

  pub into-made : (joined : ℕ → V → V → V) (made now : List (Part J V M)) (part : Part J V M) → now ≡ made ++ part ∷ [] → AreMade joined row (take i places) made → IsMade joined (sheet_at row (2 * here)) (sheet_at row (2 * here + 1)) (Some part) → AreMade joined row (take (i + 1) places) now
  into-made joined made now part is a b =
      let R : ℕ → Part J V M → Type 0 = λ place p. IsMade joined (sheet_at row (2 * place)) (sheet_at row (2 * place + 1)) (Some p) in
      subst (λ (ps : List (Part J V M)). AllZip R (take (i + 1) places) ps) (sym is) (zip-more R places made i part lt a b)
