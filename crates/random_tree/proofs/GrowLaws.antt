-- A group that grows member by member, and what it costs.
use Rattle.std.proofs.Common.{◌≡◌, ◌⊎◌, ℕ, suc, zero, ◌+◌, ◌≤◌, true, false, List, [], ◌∷◌, ◌++◌, length, drop, Some, refl, sym, ap, subst, ◌∙◌, arith, append_assoc, length-append}
use Rattle.std.specs.List.{All}
use Rattle.std.proofs.lemmas.List.Elements.{All-head, All-tail, All-cons, All-nil}
use Rattle.definitions.specs.Tables.{merged, common_keys}
use Rattle.job_laws.specs.declared.meter.Counts.{Counts}
use Rattle.job_laws.specs.Counted.{RoseBy}
use Rattle.sheets.specs.Sheets.{SheetOf}
use Rattle.pin_table.specs.Views.{CallerView}
use Rattle.pin_table.specs.Covers.{IsLater}
use Rattle.pin_table.specs.OwnEvents.{Met, IsKnown}
use Rattle.pin_table.proofs.Covering.{got-same, later-same, later-then}
use Rattle.tree_laws.specs.Pairs.{PairOf, pair_of, merge_of, pair_digest}
use Rattle.tree_laws.specs.Holds.{sheet_of, IsHeld}
use Rattle.tree_laws.specs.Trees.{distinct_keys}
use Rattle.tree_laws.specs.declared.hold.Hold.{Hold}
use Rattle.random_tree.specs.declared.group.Group.{Group}
use Rattle.random_tree.specs.Groups.{Members, alone, with_next, size, members_of, ends, groups_on, whole, Ends}
use Rattle.random_tree.specs.Inputs.{pair_at, is_marked, input_of}
use Rattle.random_tree.specs.Payments.{Merged, MergedSome}
use Rattle.random_tree.specs.Levels.{sheet_at, IsTableOf, group_sheet, count_of, IsKept, AreMerges, IsOver}
use Rattle.random_tree.specs.Steps.{Costs, MergesSomeOf, groups_from, inputs_at, inputs_in, IsGrown}
use Rattle.random_tree.proofs.GroupLaws.{IsOpen, alone-open, next-open, ends-next}
use Rattle.random_tree.proofs.InputLaws.{inputs-next, inputs-begin, inputs-then}
use Rattle.random_tree.proofs.PayLaws.{merged-none, merged-then, merged-some, some-none, some-among, merged-is-some}
use Rattle.random_tree.proofs.LevelLaws.{over-sheet, over-count, merges-push, fold-table}
use Rattle.random_tree.proofs.CostLaws.{held-kept, merged-one, some-one, few-keys}

All-front : {X : Type 0} (P : X → Type 0) (xs ys : List X) → All P (xs ++ ys) → All P xs
All-front P [] ys h = All-nil P
All-front P (x ∷ xs) ys h = All-cons P x xs (All-head P x (xs ++ ys) h) (All-front P xs ys (All-tail P x (xs ++ ys) h))

-- Memory ran out before anything was merged.
pub grow-none : {V : Type 0} (joined : ℕ → V → V → V) (setting : ℕ) (encoded : V → List ℕ) (ts : List (List (List ℕ × V))) (v : CallerView) (x : Counts) → MergesSomeOf joined setting encoded ts v v x x
grow-none joined setting encoded ts v x all tables = some-none (distinct_keys all) v v x (inputs_in joined setting encoded (groups_from encoded ts))

module _ {J V M : Type 0} (joined : ℕ → V → V → V) (setting : ℕ) (encoded : V → List ℕ) (ts : List (List (List ℕ × V))) where
  -- A group over the first of the members, which has not ended yet, and what it cost.
  pub record IsGrowing (u v : CallerView) (x y : Counts) (g : Group J V M) : Type 0 where
    pub members : Members (List (List ℕ × V))
    pub over : IsOver joined setting encoded members g
    pub before : IsOpen (is_marked encoded) members
    pub split : ts ≡ members_of members ++ drop (count_of g) ts
    pub later : IsLater u v
    pub cost : Costs ts u v x y (inputs_at joined setting encoded members)

  -- It begins with its first member.
  pub grow-start : (v : CallerView) (x : Counts) (t : List (List ℕ × V)) (rest : List (List (List ℕ × V))) (g : Group J V M) → ts ≡ t ∷ rest → g.first ≡ sheet_at setting t → g.holds.items ≡ [] → g.ended ≡ false → IsGrowing v v x x g
  grow-start v x t rest g is first none opened = record {
    members = alone t;
    over = record {
      first_is = first;
      holds_are = subst (λ (hs : List (Hold J V M)). AreMerges joined setting t [] hs) (sym none) tt;
      ended_is = λ e. absurd (let no : false ≡ true = sym opened ∙ e in cc);
    };
    before = alone-open (is_marked encoded) t;
    split = is ∙ ap (λ (us : List (List (List ℕ × V))). t ∷ us) (sym (ap (λ (hs : List (Hold J V M)). drop (length hs + 1) ts) none ∙ ap (drop 1) is));
    later = later-same v;
    cost = λ all tables. merged-none (distinct_keys all) v v x (inputs_at joined setting encoded (alone t)) (got-same v);
  }

  module _ (u v : CallerView) (x y : Counts) (g : Group J V M) (grows : IsGrowing u v x y g) where
    -- The rest of the members are for the begun group.
    groups-left : groups_from encoded ts ≡ groups_on (is_marked encoded) (Some grows.members) (drop (count_of g) ts)
    groups-left = ap (groups_from encoded) grows.split ∙ grows.before (drop (count_of g) ts)

    -- No member is left.
    pub grow-last : length ts ≤ count_of g → IsGrown joined setting encoded ts u v x y g
    grow-last few =
        let none : drop (count_of g) ts ≡ [] = drop-all (count_of g) ts few in
        record {
          members = grows.members;
          over = grows.over;
          rest = groups-left ∙ (ap (groups_on (is_marked encoded) (Some grows.members)) none ∙ ap (λ (us : List (List (List ℕ × V))). grows.members ∷ groups_from encoded us) (sym none));
          cost = grows.cost;
        }
      where
        drop-all : (n : ℕ) (xs : List (List (List ℕ × V))) → length xs ≤ n → drop n xs ≡ []
        drop-all zero [] le = refl
        drop-all zero (a ∷ xs) le = absurd (omega (arith, le))
        drop-all (suc n) [] le = refl
        drop-all (suc n) (a ∷ xs) le = drop-all n xs (omega (arith, le))

    -- Nothing more was merged, and then memory ran out.
    pub grow-stopped : MergesSomeOf joined setting encoded ts u v x y
    grow-stopped all tables =
        let (more, e) = inputs-begin (merged (joined setting)) (input_of encoded setting) (is_marked encoded) grows.members (drop (count_of g) ts) in
        subst (λ (ds : List (List ℕ)). MergedSome (distinct_keys all) u v x y ds) (sym (ap (inputs_in joined setting encoded) groups-left ∙ e))
        (some-among (distinct_keys all) u v x y [] (inputs_at joined setting encoded grows.members) more (merged-is-some (distinct_keys all) u v x y (inputs_at joined setting encoded grows.members) (grows.cost all tables)))

    module _ (a b : SheetOf V) (a_is : a ≡ group_sheet g) (b_is : b ≡ sheet_at setting b.entries) (next_is : drop (count_of g) ts ≡ b.entries ∷ drop (count_of g + 1) ts) where
      left_is : a ≡ sheet_at setting (whole (merged (joined setting)) grows.members)
      left_is = a_is ∙ over-sheet joined setting encoded grows.members g grows.over

      pub pair-is : pair_of a b ≡ pair_at setting (whole (merged (joined setting)) grows.members) b.entries
      pair-is = λ i. record { setting = (left_is i).setting; left = (left_is i).entries; right = b.entries }

      left-table : (all : List (List (List ℕ × V))) → All (IsTableOf all) ts → IsTableOf all a.entries
      left-table all tables =
          let front = All-front (IsTableOf all) (members_of grows.members) (drop (count_of g) ts) (subst (All (IsTableOf all)) grows.split tables) in
          subst (IsTableOf all) (sym (ap (λ (s : SheetOf V). s.entries) left_is))
          (fold-table joined setting all grows.members.first grows.members.others (All-head (IsTableOf all) grows.members.first grows.members.others front) (All-tail (IsTableOf all) grows.members.first grows.members.others front))

      module _ (w : CallerView) (z : Counts) (counted : RoseBy 0 1 (common_keys a.entries b.entries) y z) (known : IsKnown (pair_digest encoded (pair_of a b)) v → (z ≡ y) ⊎ Met v w) where
        -- Memory ran out in a merge.
        pub grow-failed : IsLater v w → MergesSomeOf joined setting encoded ts u w x z
        grow-failed after all tables =
            let (more, e) = inputs-then (merged (joined setting)) (input_of encoded setting) (is_marked encoded) grows.members b.entries (drop (count_of g + 1) ts) in
            let d = pair_digest encoded (pair_of a b) in
            let one = some-one (pair_digest encoded) (pair_of a b) v w (distinct_keys all) (common_keys a.entries b.entries) (few-keys a.entries b.entries all (left-table all tables)) y z counted known in
            let both = merged-some (distinct_keys all) u v w x y z (inputs_at joined setting encoded grows.members) (d ∷ []) grows.later after (grows.cost all tables) one in
            let same : (inputs_at joined setting encoded grows.members ++ d ∷ []) ++ more ≡ inputs_in joined setting encoded (groups_from encoded ts) =
            append_assoc (inputs_at joined setting encoded grows.members) (d ∷ []) more
            ∙ (ap (λ (i : PairOf V). inputs_at joined setting encoded grows.members ++ (pair_digest encoded i ∷ more)) pair-is
            ∙ sym (ap (inputs_in joined setting encoded) (groups-left ∙ ap (groups_on (is_marked encoded) (Some grows.members)) next_is) ∙ e)) in
            subst (λ (ds : List (List ℕ)). MergedSome (distinct_keys all) u w x z ds) same
            (some-among (distinct_keys all) u w x z [] (inputs_at joined setting encoded grows.members ++ d ∷ []) more both)

        module _ (h : Hold J V M) (value : sheet_of h ≡ merge_of joined (pair_of a b)) (held : IsHeld (pair_digest encoded) (pair_of a b) v w h) (new : Group J V M) (first : new.first ≡ g.first) (holds : new.holds.items ≡ g.holds.items ++ h ∷ []) where
          more_over : (new.ended ≡ true → Ends (is_marked encoded) (with_next grows.members b.entries)) → IsOver joined setting encoded (with_next grows.members b.entries) new
          more_over ended = record {
            first_is = first ∙ grows.over.first_is;
            holds_are = subst (AreMerges joined setting grows.members.first (grows.members.others ++ b.entries ∷ [])) (sym holds)
                (merges-push joined setting grows.members.first grows.members.others g.holds.items b.entries h grows.over.holds_are
                (value ∙ ap (merge_of joined) pair-is)
                (subst (λ (i : PairOf V). IsKept i h) pair-is (held-kept (pair_digest encoded) (pair_of a b) v w h held)));
            ended_is = ended;
          }

          more_cost : Costs ts u w x z (inputs_at joined setting encoded (with_next grows.members b.entries))
          more_cost all tables =
              subst (λ (ds : List (List ℕ)). Merged (distinct_keys all) u w x z ds)
              (sym (inputs-next (merged (joined setting)) (input_of encoded setting) grows.members b.entries ∙ ap (λ (i : PairOf V). inputs_at joined setting encoded grows.members ++ pair_digest encoded i ∷ []) (sym pair-is)))
              (merged-then (distinct_keys all) u v w x y z (inputs_at joined setting encoded grows.members) (pair_digest encoded (pair_of a b) ∷ []) grows.later held.got.later (grows.cost all tables)
              (merged-one (pair_digest encoded) (pair_of a b) v w (distinct_keys all) (common_keys a.entries b.entries) (few-keys a.entries b.entries all (left-table all tables)) y z counted known h held))

          count_is : count_of new ≡ count_of g + 1
          count_is = let n = ap length holds in let m = length-append g.holds.items (h ∷ []) in omega (arith, n, m)

          size_is : count_of g ≡ size grows.members
          size_is = over-count joined setting encoded grows.members g grows.over

          more_split : ts ≡ members_of (with_next grows.members b.entries) ++ drop (count_of new) ts
          more_split =
              grows.split
              ∙ (ap (λ (us : List (List (List ℕ × V))). members_of grows.members ++ us) next_is
              ∙ (sym (append_assoc (members_of grows.members) (b.entries ∷ []) (drop (count_of g + 1) ts))
              ∙ ap (λ (n : ℕ). members_of (with_next grows.members b.entries) ++ drop n ts) (sym count_is)))

          pub grow-next : new.ended ≡ false → ends (is_marked encoded) (count_of new) b.entries ≡ false → IsGrowing u w x z new
          grow-next opened goes = record {
            members = with_next grows.members b.entries;
            over = more_over (λ e. absurd (let no : false ≡ true = sym opened ∙ e in cc));
            before = next-open (is_marked encoded) grows.members b.entries grows.before (ap (λ (n : ℕ). ends (is_marked encoded) n b.entries) (sym (count_is ∙ ap (λ (n : ℕ). n + 1) size_is)) ∙ goes);
            split = more_split;
            later = later-then u v w grows.later held.got.later;
            cost = more_cost;
          }

          pub grow-ends : ends (is_marked encoded) (count_of new) b.entries ≡ true → IsGrown joined setting encoded ts u w x z new
          grow-ends here =
              let closed = ends-next (is_marked encoded) grows.members b.entries grows.before (ap (λ (n : ℕ). ends (is_marked encoded) n b.entries) (sym (count_is ∙ ap (λ (n : ℕ). n + 1) size_is)) ∙ here) in
              record {
                members = with_next grows.members b.entries;
                over = more_over (λ e. closed);
                rest = ap (groups_from encoded) more_split ∙ closed (drop (count_of new) ts);
                cost = more_cost;
              }
