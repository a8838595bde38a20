-- What an advance makes of a tree without a draft.
use Rattle.std.proofs.Common.{◌≡◌, ℕ, ◌-◌, ◌*◌, ◌≤◌, Bool, true, false, List, [], ◌++◌, length, take, slice_index_or, Option, Some, None, refl, sym, ap, subst, ◌∙◌, inl, inr, arith, append-nil, length-append}
use Rattle.std.specs.List.{All}
use Rattle.std.proofs.lemmas.List.{take_all, take-append-le, map-append}
use Rattle.std.proofs.lemmas.List.Elements.{All-append}
use Rattle.record_text.specs.declared.kind.Kind.TheVariants.{Growing}
use Rattle.record_text.specs.declared.shift.Shift.{Shift}
use Rattle.record_text.specs.Shifts.{FitsShift, shifted}
use Rattle.job_laws.specs.declared.meter.Counts.{Counts}
use Rattle.job_laws.specs.Counted.{RoseBy}
use Rattle.sheets.specs.Sheets.{SheetOf}
use Rattle.sheets.specs.United.{tables_of}
use Rattle.pin_table.specs.Views.{CallerView}
use Rattle.pin_table.specs.Covers.{PinName, Covered, Balanced}
use Rattle.pin_table.proofs.Covering.{balanced-beside, covered-same}
use Rattle.pin_table.proofs.Answering.{got-covered}
use Rattle.tree_laws.specs.Pairs.{PairOf}
use Rattle.tree_laws.specs.Holds.{some_pins}
use Rattle.tree_laws.specs.Trees.{Shape, Leaves, TreeView, Seen, no_shape, IsLeaf, IsDrafted, LooseOnlyIf, distinct_keys}
use Rattle.tree_laws.specs.Trades.{Gets}
use Rattle.tree_laws.specs.declared.hold.Hold.{Hold}
use Rattle.coalescing_tree.specs.Growing.{seen_of, fresh_of, leaves_of, draft_of, draft_loose, draft_pins, last_of, IsTop, IsSound, IsSoundDraft}
use Rattle.coalescing_tree.specs.declared.draft.Draft.{Draft}
use Rattle.coalescing_tree.specs.declared.draft.Draft.TheVariants.{Same, Merged}
use Rattle.coalescing_tree.proofs.TopLaws.{growing-fits}
use Rattle.coalescing_tree.proofs.SettleLaws.{no-draft-pins, few-undrafted}

-- Sheets of a setting that are leaves of their own settings.
pub leaves-of-setting : {V : Type 0} (good : ℕ → V → Type 0) (setting : ℕ) (sheets : List (SheetOf V)) → All (λ (s : SheetOf V). IsLeaf good s.setting s) sheets → All (λ (s : SheetOf V). s.setting ≡ setting) sheets → All (IsLeaf good setting) sheets
leaves-of-setting good setting sheets leaves same = λ k d lt. subst (λ (n : ℕ). IsLeaf good n (slice_index_or sheets k d)) (same k d lt) (leaves k d lt)

-- Whether leaves are loose, if there are leaves.
abbrev loose-of : {V : Type 0} → Option (Leaves V) → Bool
loose-of None = false
loose-of (Some l) = l.loose

module _ {J V M : Type 0} where
  no-draft : (sheets : List (SheetOf V)) (top : Option (Hold J V M)) (draft : Option (Draft J V M)) → draft_of sheets top draft ≡ None → draft ≡ None
  no-draft sheets top None none = refl
  no-draft sheets top (Some Same) none = absurd (let no : Some (leaves_of sheets top) ≡ None = none in cc)
  no-draft sheets top (Some (Merged made)) none = absurd (let no : Some (leaves_of sheets (last_of made.items)) ≡ None = none in cc)

-- A tree of these parts, without a draft.
module _ {J V M : Type 0} (good : ℕ → V → Type 0) (joined : ℕ → V → V → V) (digest_of : PairOf V → List ℕ) (setting places : ℕ) (sheets : List (SheetOf V)) (standing : ℕ) (top : Option (Hold J V M)) (draft : Option (Draft J V M))
    (seen : Seen V) (is : seen_of digest_of setting places sheets standing top draft ≡ seen) (sound : IsSound good joined setting sheets standing top draft) (none : seen.tree.draft ≡ None) where
  pub undrafted : draft ≡ None
  undrafted = no-draft sheets top draft (ap (λ (t : Seen V). t.tree.draft) is ∙ none)

  all-stand : standing ≡ length sheets
  all-stand = subst (λ (o : Option (Draft J V M)). IsSoundDraft joined setting sheets standing o) undrafted sound.draft_is

  all-taken : take standing sheets ≡ sheets
  all-taken = let n = all-stand in take_all standing sheets (omega (arith, n))

  pins-are : some_pins digest_of top ++ draft_pins digest_of draft ≡ seen.pins
  pins-are = ap (λ (t : Seen V). t.pins) is

  top-pins-are : some_pins digest_of top ≡ seen.pins
  top-pins-are = sym (no-draft-pins digest_of top draft undrafted) ∙ pins-are

  tables-are : tables_of sheets ≡ seen.tree.leaves.tables
  tables-are = ap (λ (ss : List (SheetOf V)). tables_of ss) (sym all-taken) ∙ ap (λ (t : Seen V). t.tree.leaves.tables) is

  pub seen-few : length seen.pins ≤ length seen.tree.leaves.tables - 1
  seen-few = subst (λ (t : Seen V). length t.pins ≤ length t.tree.leaves.tables - 1) is (few-undrafted good joined digest_of setting places sheets standing top draft sound undrafted)

  -- Its leaves are unchanged.
  module _ (same : List (SheetOf V)) (as_before : same ≡ sheets) where
    pub kept-sound : IsSound good joined setting same standing top draft
    kept-sound = subst (λ (ss : List (SheetOf V)). IsSound good joined setting ss standing top draft) (sym as_before) sound

    pub kept-view : (seen_of digest_of setting places same standing top draft).tree ≡ seen.tree
    kept-view = ap (λ (ss : List (SheetOf V)). (seen_of digest_of setting places ss standing top draft).tree) as_before ∙ ap (λ (t : Seen V). t.tree) is

    pub kept-few : length (some_pins digest_of top ++ draft_pins digest_of draft) ≤ length (tables_of (take standing same)) - 1
    kept-few = few-undrafted good joined digest_of setting places same standing top draft kept-sound undrafted

    pub kept-loose : (Meets : Type 0) → LooseOnlyIf Meets seen.tree (seen_of digest_of setting places same standing top draft).tree
    kept-loose Meets l some loose = absurd (let no : None ≡ Some l = ap (λ (o : Option (Draft J V M)). draft_of same top o) (sym undrafted) ∙ some in cc)

  -- And so is what its caller holds beyond its pins.
  module _ (u w : CallerView) (covered : Covered u seen.pins) where
    kept-beside : Balanced u [] w [] → Balanced u seen.pins w seen.pins
    kept-beside nothing =
        subst (λ (ps : List PinName). Balanced u ps w seen.pins) (append-nil seen.pins)
        (subst (λ (ps : List PinName). Balanced u (seen.pins ++ []) w ps) (append-nil seen.pins) (balanced-beside u w seen.pins [] [] nothing))

    pub kept-balanced : Balanced u [] w [] → Balanced u seen.pins w (some_pins digest_of top ++ draft_pins digest_of draft)
    kept-balanced nothing = subst (λ (ps : List PinName). Balanced u seen.pins w ps) (sym pins-are) (kept-beside nothing)

    pub kept-covered : Balanced u [] w [] → Covered w (some_pins digest_of top ++ draft_pins digest_of draft)
    kept-covered nothing = subst (Covered w) (sym pins-are) (covered-same u w seen.pins covered (kept-beside nothing))

    -- It got the pins of a draft.
    module _ (made : Draft J V M) (got : Gets u (draft_pins digest_of (Some made)) w) where
      both : Balanced u (some_pins digest_of top) w (some_pins digest_of top ++ draft_pins digest_of (Some made)) × Covered w (some_pins digest_of top ++ draft_pins digest_of (Some made))
      both = got-covered u w (some_pins digest_of top) (draft_pins digest_of (Some made)) (subst (Covered u) (sym top-pins-are) covered) got

      pub grown-balanced : Balanced u seen.pins w (some_pins digest_of top ++ draft_pins digest_of (Some made))
      grown-balanced = subst (λ (ps : List PinName). Balanced u ps w (some_pins digest_of top ++ draft_pins digest_of (Some made))) top-pins-are both.0

      pub grown-covered : Covered w (some_pins digest_of top ++ draft_pins digest_of (Some made))
      grown-covered = both.1

  -- Fresh leaves come after its leaves.
  module _ (all fresh : List (SheetOf V)) (grown : all ≡ sheets ++ fresh) where
    pub grown-within : standing ≤ length all
    grown-within = let n = all-stand in let l = ap length grown in let m = length-append sheets fresh in omega (arith, n, l, m)

    pub grown-taken : take standing all ≡ take standing sheets
    grown-taken = let n = all-stand in ap (take standing) grown ∙ take-append-le standing sheets fresh (omega (arith, n))

    -- The leaves before, if the fresh ones are cut off.
    pub grown-cut : take standing all ≡ sheets
    grown-cut = grown-taken ∙ all-taken

    pub grown-top : IsTop joined setting (take standing all) top
    grown-top = subst (λ (ss : List (SheetOf V)). IsTop joined setting ss top) (sym grown-taken) sound.top_is

    module _ (leaves : All (λ (s : SheetOf V). IsLeaf good s.setting s) fresh) (settings : All (λ (s : SheetOf V). s.setting ≡ seen.tree.setting) fresh) where
      pub grown-leaves : All (IsLeaf good setting) all
      grown-leaves =
          subst (λ (ss : List (SheetOf V)). All (IsLeaf good setting) ss) (sym grown)
          (All-append (IsLeaf good setting) sheets fresh sound.leaves_are
          (leaves-of-setting good setting fresh leaves (subst (λ (n : ℕ). All (λ (s : SheetOf V). s.setting ≡ n) fresh) (sym (ap (λ (t : Seen V). t.tree.setting) is)) settings)))

      -- The same with the setting of a job, and with the leaves and the top as they are read.
      module _ (other : ℕ) (set : other ≡ seen.tree.setting) (read : List (SheetOf V)) (is_read : read ≡ all) where
        set-is : setting ≡ other
        set-is = ap (λ (t : Seen V). t.tree.setting) is ∙ sym set

        pub read-leaves : All (IsLeaf good other) read
        read-leaves = subst (λ (n : ℕ). All (IsLeaf good n) read) set-is (subst (λ (ss : List (SheetOf V)). All (IsLeaf good setting) ss) (sym is_read) grown-leaves)

        pub read-within : standing ≤ length read
        read-within = subst (λ (ss : List (SheetOf V)). standing ≤ length ss) (sym is_read) grown-within

        pub read-top : (o : Option (Hold J V M)) → o ≡ top → IsTop joined other (take standing read) o
        read-top o same =
            subst (λ (n : ℕ). IsTop joined n (take standing read) o) set-is
            (subst (λ (ss : List (SheetOf V)). IsTop joined setting (take standing ss) o) (sym is_read)
            (subst (λ (p : Option (Hold J V M)). IsTop joined setting (take standing all) p) (sym same) grown-top))

        pub grown-sound : (made : Draft J V M) → IsSoundDraft joined other read standing (Some made) → IsSound good joined setting all standing top (Some made)
        grown-sound made drawn = record {
          leaves_are = grown-leaves;
          within = grown-within;
          top_is = grown-top;
          draft_is = subst (λ (n : ℕ). IsSoundDraft joined n all standing (Some made)) (sym set-is) (subst (λ (ss : List (SheetOf V)). IsSoundDraft joined other ss standing (Some made)) is_read drawn);
        }

    -- A shift brought them.
    module _ (shift : Shift) (fits : FitsShift Growing seen.tree.places seen.tree.leaves.first (length seen.tree.leaves.tables) (length fresh) shift) where
      pub fresh-are : length fresh ≡ fresh_of shift
      fresh-are = (growing-fits seen.tree.places seen.tree.leaves.first (length seen.tree.leaves.tables) (length fresh) shift (tables_of fresh) seen.tree.leaves.tables fits).0

      grown-tables : tables_of all ≡ shifted shift (tables_of fresh) seen.tree.leaves.tables
      grown-tables =
          ap (λ (ss : List (SheetOf V)). tables_of ss) grown
          ∙ (map-append (λ (s : SheetOf V). s.entries) sheets fresh
          ∙ (ap (λ (ts : List (List (List ℕ × V))). ts ++ tables_of fresh) tables-are
          ∙ sym (growing-fits seen.tree.places seen.tree.leaves.first (length seen.tree.leaves.tables) (length fresh) shift (tables_of fresh) seen.tree.leaves.tables fits).2))

      drafted-over : (o : Option (Hold J V M)) → IsDrafted (λ (shape : Shape) (s : Shift). no_shape) shift fresh seen.tree (record { setting = setting; places = places; leaves = leaves_of (take standing all) top; draft = Some (leaves_of all o) })
      drafted-over o = record {
        draft = leaves_of all o;
        is =
            ap (λ (ss : List (SheetOf V)). let v : TreeView V = record { setting = setting; places = places; leaves = leaves_of ss top; draft = Some (leaves_of all o) } in v) grown-taken
            ∙ ap (λ (t : Seen V). let v : TreeView V = record t.tree { draft = Some (leaves_of all o) } in v) is;
        of = record {
          first = ap (λ (t : Seen V). t.tree.leaves.first) is ∙ sym (growing-fits seen.tree.places seen.tree.leaves.first (length seen.tree.leaves.tables) (length fresh) shift (tables_of fresh) seen.tree.leaves.tables fits).1;
          tables = grown-tables;
          shape = refl;
        };
      }

      pub grown-drafted : (made : Draft J V M) → IsDrafted (λ (shape : Shape) (s : Shift). no_shape) shift fresh seen.tree (seen_of digest_of setting places all standing top (Some made)).tree
      grown-drafted Same = drafted-over top
      grown-drafted (Merged made) = drafted-over (last_of made.items)

      pub grown-counted : (read : List (SheetOf V)) (x y : Counts) → read ≡ all → RoseBy 0 (length read - standing) ((length read - standing) * distinct_keys (tables_of read)) x y
          → RoseBy 0 (fresh_of shift) (fresh_of shift * distinct_keys (shifted shift (tables_of fresh) seen.tree.leaves.tables)) x y
      grown-counted read x y is_read rose =
          let n = all-stand in
          let l = ap length (is_read ∙ grown) in
          let m = length-append sheets fresh in
          let f = fresh-are in
          let count : length read - standing ≡ fresh_of shift = omega (arith, n, l, m, f) in
          subst (λ (ts : List (List (List ℕ × V))). RoseBy 0 (fresh_of shift) (fresh_of shift * distinct_keys ts) x y) (ap (λ (ss : List (SheetOf V)). tables_of ss) is_read ∙ grown-tables)
          (subst (λ (k : ℕ). RoseBy 0 k (k * distinct_keys (tables_of read)) x y) count rose)

    pub grown-loose : (Meets : Type 0) (made : Draft J V M) → (draft_loose made ≡ true → Meets) → LooseOnlyIf Meets seen.tree (seen_of digest_of setting places all standing top (Some made)).tree
    grown-loose Meets Same meets l some loose = inl (sym (ap (λ (t : Seen V). t.tree.leaves.loose) is) ∙ (ap (λ (o : Option (Leaves V)). loose-of o) some ∙ loose))
    grown-loose Meets (Merged made) meets l some loose = inr (meets (ap (λ (o : Option (Leaves V)). loose-of o) some ∙ loose))

    pub grown-some : {X : Type 0} (made : Draft J V M) → (seen_of digest_of setting places all standing top (Some made)).tree.draft ≡ None → X
    grown-some Same nothing = absurd (let not : Some (leaves_of all top) ≡ None = nothing in cc)
    grown-some (Merged made) nothing = absurd (let not : Some (leaves_of all (last_of made.items)) ≡ None = nothing in cc)
