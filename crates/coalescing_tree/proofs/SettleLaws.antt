-- What settling and reverting make of a tree, and what they leave of the pins.
use Rattle.std.proofs.Common.{◌≡◌, ℕ, true, false, ◌-◌, ◌<◌, ◌≤◌, List, [], ◌++◌, length, take, ◌↔◌, IsSome, Option, Some, None, sym, ap, subst, ◌∙◌, arith, append-nil, length-take}
use Rattle.std.specs.List.{All}
use Rattle.std.specs.Option.{option_to_list}
use Rattle.std.proofs.lemmas.List.{length-map, take_all, take-take, nil_from_length}
use Rattle.std.proofs.lemmas.List.Elements.{All-take}
use Rattle.sheets.specs.Sheets.{SheetOf}
use Rattle.sheets.specs.United.{tables_of}
use Rattle.pin_table.specs.Views.{CallerView}
use Rattle.pin_table.specs.Covers.{PinName, Covered, Balanced}
use Rattle.pin_table.proofs.Covering.{count-append, balanced-then, balanced-from, covered-then, covered-left, covered-right, given-left, given-right, given-append, all-given-later, less-balanced, less-covered}
use Rattle.tree_laws.specs.Pairs.{PairOf}
use Rattle.tree_laws.specs.Holds.{some_pins, all_pins}
use Rattle.tree_laws.specs.Trees.{Leaves, Seen, settled, settled_by, reverted, IsLeaf, IsRoot, IsMergeOver}
use Rattle.tree_laws.specs.declared.hold.Hold.{Hold}
use Rattle.tree_laws.specs.declared.hold.Hold.TheVariants.{Pinned, Loose}
use Rattle.tree_laws.proofs.HoldLaws.{all_pins-push}
use Rattle.coalescing_tree.specs.Growing.{seen_of, leaves_of, draft_of, draft_pins, last_of, IsTop, IsSound, IsSoundDraft}
use Rattle.coalescing_tree.specs.declared.draft.Draft.{Draft}
use Rattle.coalescing_tree.proofs.TopLaws.{last-push}

-- Pins before the last ones are given up.
module _ (u v : CallerView) (old rest top : List PinName) (gone : (ps : List PinName) → Balanced u (rest ++ ps) v ps) where
  pub middle-balanced : Balanced u (old ++ (rest ++ top)) v (old ++ top)
  middle-balanced = balanced-from u v (old ++ (rest ++ top)) (rest ++ (old ++ top)) (old ++ top) (λ s id.
      let a = count-append s id old (rest ++ top) in
      let b = count-append s id rest top in
      let c = count-append s id rest (old ++ top) in
      let d = count-append s id old top in
      omega (arith, a, b, c, d)) (gone (old ++ top))

  pub middle-covered : Covered u (old ++ (rest ++ top)) → Covered v (old ++ top)
  middle-covered covered =
      covered-then u v (old ++ (rest ++ top)) (old ++ top) covered middle-balanced
      (all-given-later u v (old ++ top) middle-balanced.later
      (given-append u old top (given-left u old (rest ++ top) covered.given) (given-right u rest top (given-right u old (rest ++ top) covered.given))))

-- Pins before all others are given up.
module _ (v w : CallerView) (old top : List PinName) (gone : (ps : List PinName) → Balanced v (old ++ ps) w ps) where
  pub first-covered : Covered v (old ++ top) → Covered w top
  first-covered covered = covered-then v w (old ++ top) top covered (gone top) (all-given-later v w top (gone top).later (given-right v old top covered.given))

module _ {J V M : Type 0} where
  -- The last hold of a list that was popped.
  pub pop-last : (hs rest : List (Hold J V M)) (o : Option (Hold J V M)) (n : ℕ) → n ≡ length hs → hs ≡ rest ++ option_to_list o → IsSome o ↔ (0 < n) → o ≡ last_of hs
  pop-last hs rest None n len is some = sym (ap last_of (nil_from_length hs (let no : 0 < n → ⊥ = (λ lt. let f : false ≡ true = some.1 lt in cc) in omega (arith, len, no))))
  pop-last hs rest (Some h) n len is some = sym (ap last_of is ∙ last-push rest h)

module _ {J V M : Type 0} (digest_of : PairOf V → List ℕ) where
  pub all_pins-pop : (hs rest : List (Hold J V M)) (o : Option (Hold J V M)) → hs ≡ rest ++ option_to_list o → all_pins digest_of hs ≡ all_pins digest_of rest ++ some_pins digest_of o
  all_pins-pop hs rest None is = ap (all_pins digest_of) (is ∙ append-nil rest) ∙ sym (append-nil (all_pins digest_of rest))
  all_pins-pop hs rest (Some h) is = ap (all_pins digest_of) is ∙ all_pins-push digest_of rest h

  -- A tree without a draft has the top's pins alone.
  pub no-draft-pins : (top : Option (Hold J V M)) (draft : Option (Draft J V M)) → draft ≡ None → some_pins digest_of top ++ draft_pins digest_of draft ≡ some_pins digest_of top
  no-draft-pins top draft none = ap (λ (o : Option (Draft J V M)). some_pins digest_of top ++ draft_pins digest_of o) none ∙ append-nil (some_pins digest_of top)

  -- A top has a pin only over two or more leaves.
  pub few-pins : (joined : ℕ → V → V → V) (setting : ℕ) (sheets : List (SheetOf V)) (top : Option (Hold J V M)) → IsTop joined setting sheets top → length (some_pins digest_of top) ≤ length (tables_of sheets) - 1
  few-pins joined setting sheets None is = omega arith
  few-pins joined setting sheets (Some (Pinned p)) is = let m = length-map sheets (λ (s : SheetOf V). s.entries) in let n = is.0 in omega (arith, m, n)
  few-pins joined setting sheets (Some (Loose s)) is = omega arith

-- A tree of these parts.
module _ {J V M : Type 0} (good : ℕ → V → Type 0) (joined : ℕ → V → V → V) (digest_of : PairOf V → List ℕ) (setting places : ℕ) (sheets : List (SheetOf V)) (standing : ℕ) (top : Option (Hold J V M)) (draft : Option (Draft J V M)) (sound : IsSound good joined setting sheets standing top draft) where
  pub few-undrafted : draft ≡ None → length (some_pins digest_of top ++ draft_pins digest_of draft) ≤ length (tables_of (take standing sheets)) - 1
  few-undrafted none = subst (λ (ps : List PinName). length ps ≤ length (tables_of (take standing sheets)) - 1) (sym (no-draft-pins digest_of top draft none)) (few-pins digest_of joined setting (take standing sheets) top sound.top_is)

  -- Its root, as it is read from the leaves and the top.
  pub root-read : (seen : Seen V) (all : List (SheetOf V)) (o : Option (Hold J V M)) (root : Option (SheetOf V)) → seen_of digest_of setting places sheets standing top draft ≡ seen → all ≡ sheets → o ≡ top
      → ((s : ℕ) → All (IsLeaf good s) (take standing all) → IsTop joined s (take standing all) o → IsMergeOver joined s (tables_of (take standing all)) root) → IsRoot joined seen.tree root
  root-read seen all o root is whole same over =
      subst (λ (t : Seen V). IsRoot joined t.tree root) is
      (subst (λ (ss : List (SheetOf V)). IsMergeOver joined setting (tables_of (take standing ss)) root) whole
      (over setting
      (subst (λ (ss : List (SheetOf V)). All (IsLeaf good setting) (take standing ss)) (sym whole) (All-take (IsLeaf good setting) standing sheets sound.leaves_are))
      (subst (λ (ss : List (SheetOf V)). IsTop joined setting (take standing ss) o) (sym whole) (subst (λ (p : Option (Hold J V M)). IsTop joined setting (take standing sheets) p) (sym same) sound.top_is))))

  -- Its draft of merges becomes the leaves: it is over all sheets, with the draft's last merge as its top.
  module _ (made : List (Hold J V M)) (over : IsTop joined setting sheets (last_of made)) (shows : draft_of sheets top draft ≡ Some (leaves_of sheets (last_of made)))
      (all : ℕ) (new : Option (Hold J V M)) (after : Option (Draft J V M)) (counted : all ≡ length sheets) (last : new ≡ last_of made) (none : after ≡ None) where
    whole-sheets : take all sheets ≡ sheets
    whole-sheets = take_all all sheets (omega (arith, counted))

    pub settled-sound : IsSound good joined setting sheets all new after
    settled-sound = record {
      leaves_are = sound.leaves_are;
      within = omega (arith, counted);
      top_is = subst (λ (ss : List (SheetOf V)). IsTop joined setting ss new) (sym whole-sheets) (subst (λ (o : Option (Hold J V M)). IsTop joined setting sheets o) (sym last) over);
      draft_is = subst (λ (o : Option (Draft J V M)). IsSoundDraft joined setting sheets all o) (sym none) counted;
    }

    pub settled-view : (seen : Seen V) → seen_of digest_of setting places sheets standing top draft ≡ seen → (seen_of digest_of setting places sheets all new after).tree ≡ settled seen.tree
    settled-view seen seen-is =
        ap (λ (o : Option (Draft J V M)). (seen_of digest_of setting places sheets all new o).tree) none
        ∙ (ap (λ (o : Option (Hold J V M)). (seen_of {J = J} {V = V} {M = M} digest_of setting places sheets all o None).tree) last
        ∙ (ap (λ (ss : List (SheetOf V)). record { setting = setting; places = places; leaves = leaves_of ss (last_of made); draft = None }) whole-sheets
        ∙ (ap (λ (o : Option (Leaves V)). settled_by (seen_of digest_of setting places sheets standing top draft).tree o) (sym shows)
        ∙ ap (λ (t : Seen V). settled t.tree) seen-is)))

  -- Its draft of merges is dropped: the leaves before it are all sheets again.
  module _ (left : List (SheetOf V)) (after : Option (Draft J V M)) (cut : left ≡ take standing sheets) (none : after ≡ None) where
    left-length : length left ≡ standing
    left-length = let c = ap length cut in let n = length-take standing sheets in let w = sound.within in omega (arith, c, n, w)

    left-take : take standing left ≡ take standing sheets
    left-take = ap (take standing) cut ∙ take-take standing standing sheets (omega arith)

    pub reverted-sound : IsSound good joined setting left standing top after
    reverted-sound = record {
      leaves_are = subst (λ (ss : List (SheetOf V)). All (IsLeaf good setting) ss) (sym cut) (All-take (IsLeaf good setting) standing sheets sound.leaves_are);
      within = let n = left-length in omega (arith, n);
      top_is = subst (λ (ss : List (SheetOf V)). IsTop joined setting ss top) (sym left-take) sound.top_is;
      draft_is = subst (λ (o : Option (Draft J V M)). IsSoundDraft joined setting left standing o) (sym none) (sym left-length);
    }

    pub reverted-view : (seen : Seen V) → seen_of digest_of setting places sheets standing top draft ≡ seen → (seen_of digest_of setting places left standing top after).tree ≡ reverted seen.tree
    reverted-view seen seen-is =
        ap (λ (o : Option (Draft J V M)). (seen_of digest_of setting places left standing top o).tree) none
        ∙ (ap (λ (ss : List (SheetOf V)). record { setting = setting; places = places; leaves = leaves_of ss top; draft = None }) left-take
        ∙ ap (λ (t : Seen V). reverted t.tree) seen-is)

-- The pins of a tree whose draft of merges is settled: the old top's and the merges on the way are given up.
module _ {J V M : Type 0} (digest_of : PairOf V → List ℕ) (u v w : CallerView) (ps : List PinName) (old new : Option (Hold J V M)) (made rest : List (Hold J V M)) (after : Option (Draft J V M)) (pins : some_pins digest_of old ++ all_pins digest_of made ≡ ps) (popped : made ≡ rest ++ option_to_list new) (covered : Covered u ps) where
  parts : some_pins digest_of old ++ (all_pins digest_of rest ++ some_pins digest_of new) ≡ ps
  parts = ap (λ (qs : List PinName). some_pins digest_of old ++ qs) (sym (all_pins-pop digest_of made rest new popped)) ∙ pins

  parts-covered : Covered u (some_pins digest_of old ++ (all_pins digest_of rest ++ some_pins digest_of new))
  parts-covered = subst (Covered u) (sym parts) covered

  pub rest-are-covered : Covered u (all_pins digest_of rest)
  rest-are-covered = covered-left u (all_pins digest_of rest) (some_pins digest_of new) (covered-right u (some_pins digest_of old) (all_pins digest_of rest ++ some_pins digest_of new) parts-covered)

  module _ (gone : (qs : List PinName) → Balanced u (all_pins digest_of rest ++ qs) v qs) where
    both-covered : Covered v (some_pins digest_of old ++ some_pins digest_of new)
    both-covered = middle-covered u v (some_pins digest_of old) (all_pins digest_of rest) (some_pins digest_of new) gone parts-covered

    pub old-is-covered : (o : Option (Hold J V M)) → o ≡ old → Covered v (some_pins digest_of o)
    old-is-covered o is = subst (λ (p : Option (Hold J V M)). Covered v (some_pins digest_of p)) (sym is) (covered-left v (some_pins digest_of old) (some_pins digest_of new) both-covered)

    module _ (o : Option (Hold J V M)) (is : o ≡ old) (left : (qs : List PinName) → Balanced v (some_pins digest_of o ++ qs) w qs) (none : after ≡ None) where
      old-left : (qs : List PinName) → Balanced v (some_pins digest_of old ++ qs) w qs
      old-left qs = subst (λ (p : Option (Hold J V M)). Balanced v (some_pins digest_of p ++ qs) w qs) is (left qs)

      pub settled-covered : Covered w (some_pins digest_of new ++ draft_pins digest_of after)
      settled-covered = subst (Covered w) (sym (no-draft-pins digest_of new after none)) (first-covered v w (some_pins digest_of old) (some_pins digest_of new) old-left both-covered)

      pub settled-balanced : Balanced u ps w (some_pins digest_of new ++ draft_pins digest_of after)
      settled-balanced =
          subst (λ (qs : List PinName). Balanced u qs w (some_pins digest_of new ++ draft_pins digest_of after)) parts
          (subst (λ (qs : List PinName). Balanced u (some_pins digest_of old ++ (all_pins digest_of rest ++ some_pins digest_of new)) w qs) (sym (no-draft-pins digest_of new after none))
          (balanced-then u v w (some_pins digest_of old ++ (all_pins digest_of rest ++ some_pins digest_of new)) (some_pins digest_of old ++ some_pins digest_of new) (some_pins digest_of new)
          (middle-balanced u v (some_pins digest_of old) (all_pins digest_of rest) (some_pins digest_of new) gone) (old-left (some_pins digest_of new))))

-- The pins of a tree whose draft of merges is dropped: all of the draft's are given up.
module _ {J V M : Type 0} (digest_of : PairOf V → List ℕ) (u v : CallerView) (ps : List PinName) (top : Option (Hold J V M)) (made : List (Hold J V M)) (after : Option (Draft J V M)) (pins : some_pins digest_of top ++ all_pins digest_of made ≡ ps) (covered : Covered u ps) where
  pub made-are-covered : Covered u (all_pins digest_of made)
  made-are-covered = covered-right u (some_pins digest_of top) (all_pins digest_of made) (subst (Covered u) (sym pins) covered)

  module _ (gone : (qs : List PinName) → Balanced u (all_pins digest_of made ++ qs) v qs) (none : after ≡ None) where
    all-gone : Balanced u (all_pins digest_of made) v []
    all-gone = subst (λ (qs : List PinName). Balanced u qs v []) (append-nil (all_pins digest_of made)) (gone [])

    pub reverted-covered : Covered v (some_pins digest_of top ++ draft_pins digest_of after)
    reverted-covered = subst (Covered v) (sym (no-draft-pins digest_of top after none)) (less-covered u v (some_pins digest_of top) (all_pins digest_of made) (subst (Covered u) (sym pins) covered) all-gone)

    pub reverted-balanced : Balanced u ps v (some_pins digest_of top ++ draft_pins digest_of after)
    reverted-balanced =
        subst (λ (qs : List PinName). Balanced u qs v (some_pins digest_of top ++ draft_pins digest_of after)) pins
        (subst (λ (qs : List PinName). Balanced u (some_pins digest_of top ++ all_pins digest_of made) v qs) (sym (no-draft-pins digest_of top after none))
        (less-balanced u v (some_pins digest_of top) (all_pins digest_of made) all-gone))
