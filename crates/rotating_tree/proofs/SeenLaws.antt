-- The model of a tree before and after its calls.
use Rattle.std.proofs.Common.{◌≡◌, ◌⊎◌, inl, inr, ℕ, ◌+◌, ◌*◌, sym, ap, ◌∙◌, List, [], ◌++◌, length, refl, subst, Option, Some, None, true, false, true≢false, drop}
use Rattle.std.specs.Prelude.{IsSome}
use Rattle.sheets.specs.Sheets.{SheetOf}
use Rattle.sheets.specs.United.{tables_of}
use Rattle.record_text.specs.declared.shift.Shift.{Shift}
use Rattle.record_text.specs.declared.shift.Shift.TheVariants.{Slide}
use Rattle.std.proofs.lemmas.List.{length-map}
use Rattle.record_text.specs.declared.kind.Kind.TheVariants.{Circle}
use Rattle.record_text.specs.Shifts.{put_at, shifted, FitsShift}
use Rattle.job_laws.specs.declared.meter.Counts.{Counts}
use Rattle.job_laws.specs.Counted.{RoseBy}
use Rattle.tree_laws.specs.Pairs.{PairOf}
use Rattle.tree_laws.specs.Trees.{no_shape, Leaves, TreeView, Seen, bare, IsDrafted, LooseOnlyIf, settled, reverted, distinct_keys}
use Rattle.rotating_tree.specs.declared.node.Node.{Node}
use Rattle.rotating_tree.specs.declared.standing.Standing.{Standing}
use Rattle.rotating_tree.specs.Nodes.{undrafted, taken, node_pins, node_loose, IsSettled}
use Rattle.rotating_tree.specs.Circles.{seen_of, window, leaves_of, draft_of, changed_of, IsCircle}
use Rattle.rotating_tree.specs.Levels.{levels}
use Rattle.rotating_tree.proofs.NodeLaws.{settled-undrafted, taken_undrafted, undrafted_twice}

-- A tree with these leaves and this draft.
abbrev tree_of : {V : Type 0} → ℕ → ℕ → Leaves V → Option (Leaves V) → TreeView V
tree_of setting n leaves draft = record { setting = setting; places = n; leaves = leaves; draft = draft }

module _ {J V M : Type 0} (digest_of : PairOf V → List ℕ) (setting n : ℕ) (at : Standing) (node : Node J V M) where
  -- The model of a tree says its places and the number of its leaves, so a shift that fits the model fits the circle.
  module _ (good : ℕ → V → Type 0) (joined : ℕ → V → V → V) (width : ℕ) (draft : Option Standing) (seen : Seen V) (is : seen_of digest_of setting n at draft node ≡ seen) (circle : IsCircle good joined setting n width at draft node) where
    pub seen-count : length seen.tree.leaves.tables ≡ at.count
    seen-count = sym (ap (λ (t : Seen V). length t.tree.leaves.tables) is) ∙ length-map (window n at (undrafted node)) (λ s. s.entries) ∙ sym circle.now.count_is

    pub seen-fits : (first gone : ℕ) (changed : List ℕ) (came news : ℕ) → FitsShift Circle seen.tree.places seen.tree.leaves.first (length seen.tree.leaves.tables) news (Slide first gone changed came) → FitsShift Circle n at.first at.count news (Slide first gone changed came)
    seen-fits first gone changed came news f =
        let many : seen.tree.places ≡ n = sym (ap (λ (t : Seen V). t.tree.places) is) in
        let begins : seen.tree.leaves.first ≡ at.first = sym (ap (λ (t : Seen V). t.tree.leaves.first) is) in
        subst (λ (k : ℕ). FitsShift Circle k at.first at.count news (Slide first gone changed came)) many
        (subst (λ (k : ℕ). FitsShift Circle seen.tree.places k at.count news (Slide first gone changed came)) begins
        (subst (λ (k : ℕ). FitsShift Circle seen.tree.places seen.tree.leaves.first k news (Slide first gone changed came)) seen-count f))

  -- A tree of void places.
  pub seen-bare : at.first ≡ 0 → window n at (undrafted node) ≡ [] → IsSettled node → node_loose node ≡ false → (seen_of digest_of setting n at None node).tree ≡ bare setting n
  seen-bare first none settled tight =
      ap (λ k. tree_of setting n (record { first = k; tables = tables_of (window n at (undrafted node)); loose = node_loose (undrafted node); shape = no_shape }) None) first
      ∙ ap (λ ss. tree_of setting n (record { first = 0; tables = tables_of ss; loose = node_loose (undrafted node); shape = no_shape }) None) none
      ∙ ap (λ b. tree_of setting n (record { first = 0; tables = []; loose = b; shape = no_shape }) None) (ap node_loose (settled-undrafted node settled) ∙ tight)

  module _ (draft : Option Standing) (seen : Seen V) (is : seen_of digest_of setting n at draft node ≡ seen) (m : Node J V M) where
    pub seen-pins : seen.pins ≡ node_pins digest_of node
    seen-pins = sym (ap (λ (t : Seen V). t.pins) is)

    pub seen-settled : (next : Standing) → draft ≡ Some next → m ≡ taken node → (seen_of digest_of setting n next None m).tree ≡ settled seen.tree
    seen-settled next draft_is made =
        ap (λ x. tree_of setting n (leaves_of n next x) None) (ap undrafted made ∙ taken_undrafted node)
        ∙ sym (ap (λ d. settled (seen_of digest_of setting n at d node).tree) draft_is)
        ∙ ap (λ (t : Seen V). settled t.tree) is

    pub seen-reverted : m ≡ undrafted node → (seen_of digest_of setting n at None m).tree ≡ reverted seen.tree
    seen-reverted made =
        ap (λ x. tree_of setting n (leaves_of n at x) None) (ap undrafted made ∙ undrafted_twice node)
        ∙ ap (λ (t : Seen V). reverted t.tree) is

    pub seen-drafted : (next : Standing) (gone came : ℕ) (changed : List ℕ) (news : List (SheetOf V)) → undrafted m ≡ undrafted node
        → tables_of (window n next (taken m)) ≡ put_at changed (tables_of news) (drop gone (tables_of (window n at (undrafted node)))) ++ drop (length changed) (tables_of news)
        → IsDrafted (λ shape shift. no_shape) (Slide next.first gone changed came) news seen.tree (seen_of digest_of setting n at (Some next) m).tree
    seen-drafted next gone came changed news same tables =
        let leaves : leaves_of n at (undrafted node) ≡ seen.tree.leaves = ap (λ (t : Seen V). t.tree.leaves) is in
        record {
          draft = leaves_of n next (taken m);
          is = ap (λ x. tree_of setting n (leaves_of n at x) (Some (leaves_of n next (taken m)))) same ∙ ap (λ (t : Seen V). record (t.tree) { draft = Some (leaves_of n next (taken m)) }) is;
          of = record {
            first = refl;
            tables = tables ∙ ap (λ (l : Leaves V). put_at changed (tables_of news) (drop gone l.tables) ++ drop (length changed) (tables_of news)) leaves;
            shape = refl;
          };
        }

    -- A tree without a draft.
    pub seen-some : draft ≡ None → IsSome seen.tree.draft → ⊥
    seen-some none some =
        let no : false ≡ true = subst (λ (o : Option (Leaves V)). IsSome o) (sym (ap (λ (t : Seen V). t.tree.draft) is) ∙ ap (λ (o : Option Standing). draft_of n o node) none) some in
        true≢false (sym no)

    pub seen-plain : draft ≡ None → seen.tree ≡ reverted seen.tree
    seen-plain none = subst (λ (t : TreeView V). t ≡ reverted t) (ap (λ (o : Option Standing). (seen_of digest_of setting n at o node).tree) (sym none) ∙ ap (λ (t : Seen V). t.tree) is) refl

    -- Why a node of a draft is loose.
    pub seen-loose : (next : Standing) (M : Type 0) → undrafted node ≡ node → (node_loose (taken m) ≡ true → (node_loose node ≡ true) ⊎ M) → LooseOnlyIf M seen.tree (seen_of digest_of setting n at (Some next) m).tree
    seen-loose next M plain f draft e h =
        let same : leaves_of n next (taken m) ≡ draft = (let some : Some (leaves_of n next (taken m)) ≡ Some draft = e in cc) in
        let old : node_loose (undrafted node) ≡ seen.tree.leaves.loose = ap (λ (t : Seen V). t.tree.leaves.loose) is in
        elim (f (ap (λ (l : Leaves V). l.loose) same ∙ h)) [ inl x ↦ inl (sym old ∙ ap node_loose plain ∙ x) | inr y ↦ inr y ]

    -- What a shift costs, by the model.
    pub seen-counted : (shift : Shift) (first gone came : ℕ) (changed : List ℕ) (news : List (SheetOf V)) (x y : Counts) → shift ≡ Slide first gone changed came → length news ≡ length changed + came
        → RoseBy 0 (length news * levels n) (length news * levels n * distinct_keys (shifted (Slide first gone changed came) (tables_of news) (tables_of (window n at (undrafted node))))) x y
        → RoseBy 0 (changed_of shift * levels seen.tree.places) (changed_of shift * levels seen.tree.places * distinct_keys (shifted shift (tables_of news) seen.tree.leaves.tables)) x y
    seen-counted shift first gone came changed news x y shift_is news_are rose =
        subst (λ (h : Shift). RoseBy 0 (changed_of h * levels seen.tree.places) (changed_of h * levels seen.tree.places * distinct_keys (shifted h (tables_of news) seen.tree.leaves.tables)) x y) (sym shift_is)
        (subst (λ (k : ℕ). RoseBy 0 (k * levels seen.tree.places) (k * levels seen.tree.places * distinct_keys (shifted (Slide first gone changed came) (tables_of news) seen.tree.leaves.tables)) x y) news_are
        (subst (λ (t : Seen V). RoseBy 0 (length news * levels t.tree.places) (length news * levels t.tree.places * distinct_keys (shifted (Slide first gone changed came) (tables_of news) t.tree.leaves.tables)) x y) is rose))
