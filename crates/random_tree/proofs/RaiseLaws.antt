-- Levels that follow the ones below them, and what they cost together.
use Rattle.std.proofs.Common.{◌≡◌, ◌⊎◌, inl, inr, ℕ, suc, ◌+◌, ◌-◌, ◌^◌, ◌≤◌, ◌||◌, true, false, List, [], ◌∷◌, ◌++◌, length, map, refl, sym, ap, subst, ◌∙◌, arith, append-nil, append_assoc}
use Rattle.std.specs.List.{All, list_any}
use Rattle.std.proofs.Math.Pow.{pow_mono}
use Rattle.std.proofs.lemmas.List.Elements.{All-head, All-tail, All-cons, All-nil, All-append}
use Rattle.definitions.specs.Tables.{merged}
use Rattle.job_laws.specs.declared.meter.Counts.{Counts}
use Rattle.pin_table.specs.Views.{CallerView}
use Rattle.pin_table.specs.Covers.{PinName, IsLater}
use Rattle.pin_table.specs.OwnEvents.{Met}
use Rattle.pin_table.proofs.Covering.{got-same}
use Rattle.pin_table.proofs.OwnEvents.{any-met-later, any-met-before}
use Rattle.tree_laws.specs.Pairs.{PairOf}
use Rattle.tree_laws.specs.Holds.{is_loose, all_pins}
use Rattle.tree_laws.specs.Trees.{distinct_keys}
use Rattle.tree_laws.specs.declared.hold.Hold.{Hold}
use Rattle.random_tree.specs.declared.group.Group.{Group}
use Rattle.random_tree.specs.declared.level.Level.{Level}
use Rattle.random_tree.specs.Groups.{Members, groups_of, next}
use Rattle.random_tree.specs.Inputs.{is_marked}
use Rattle.random_tree.specs.Payments.{Merged, MergedSome}
use Rattle.random_tree.specs.Levels.{IsTableOf, group_table, groups_loose, groups_pins, drafts_pins, now_of, fresh_of, IsUndrafted, Fits, AreOver, AreLevels}
use Rattle.random_tree.specs.Steps.{AddsLevels, GainsGroups, GainsLevels, inputs_in, inputs_up, Regroups, RegroupsSome, Raises, RaisesSome}
use Rattle.tree_laws.specs.Trades.{Gets}
use Rattle.random_tree.proofs.GroupLaws.{flat, flat-groups, groups-over, groups-none, groups-halved}
use Rattle.random_tree.proofs.PayLaws.{merged-none, merged-then, merged-some, some-among}
use Rattle.random_tree.proofs.LevelLaws.{over-tables, over-length, whole-tables}
use Rattle.random_tree.proofs.RegroupLaws.{few_or_two}
use Rattle.tree_laws.proofs.GetLaws.{gets-none, gets-then}
use Rattle.random_tree.proofs.GainLaws.{gains-none}
use Rattle.std.proofs.lemmas.Bool.{or_cases}

module _ {V : Type 0} (joined : ℕ → V → V → V) (setting : ℕ) (encoded : V → List ℕ) where
  next-tables : (us all : List (List (List ℕ × V))) → All (IsTableOf all) us → All (IsTableOf all) (next (is_marked encoded) (merged (joined setting)) us)
  next-tables us all tables = whole-tables joined setting all (groups_of (is_marked encoded) us) (go (few_or_two (length us)))
    where
      go : (length us ≤ 1) ⊎ (2 ≤ length us) → All (IsTableOf all) (flat (groups_of (is_marked encoded) us))
      go (inl few) = subst (λ (mss : List (Members (List (List ℕ × V)))). All (IsTableOf all) (flat mss)) (sym (groups-none (is_marked encoded) us few)) (All-nil (IsTableOf all))
      go (inr two) = subst (All (IsTableOf all)) (sym (ap flat (groups-over (is_marked encoded) us two) ∙ flat-groups (is_marked encoded) us)) tables

  -- Memory ran out in the first level.
  pub raise-stopped : (us : List (List (List ℕ × V))) (u v : CallerView) (x y : Counts) (k : ℕ) → RegroupsSome joined setting encoded us u v x y → RaisesSome joined setting encoded us (suc k) u v x y
  raise-stopped us u v x y k some all tables =
      some-among (distinct_keys all) u v x y [] (inputs_in joined setting encoded (groups_of (is_marked encoded) us)) (inputs_up joined setting encoded k (next (is_marked encoded) (merged (joined setting)) us)) (some all tables)

module _ {J V M : Type 0} (joined : ℕ → V → V → V) (setting : ℕ) (encoded : V → List ℕ) where
  -- There is no level, and none is needed.
  pub raise-none : (us : List (List (List ℕ × V))) (v : CallerView) (x : Counts) (levels : List (List (Group J V M))) → levels ≡ [] → length us ≤ 1 → Raises joined setting encoded us v v x x levels
  raise-none us v x levels none few = subst (λ (ls : List (List (Group J V M))). Raises joined setting encoded us v v x x ls) (sym none) (groups-none (is_marked encoded) us few, λ all tables. merged-none (distinct_keys all) v v x [] (got-same v))

  module _ (us : List (List (List ℕ × V))) (u v w : CallerView) (x y z : Counts) (gs : List (Group J V M)) (before : IsLater u v) (after : IsLater v w) (level : Regroups joined setting encoded us u v x y gs) where
    tables-are : map group_table gs ≡ next (is_marked encoded) (merged (joined setting)) us
    tables-are = over-tables joined setting encoded (groups_of (is_marked encoded) us) gs level.0

    gs-tables : (all : List (List (List ℕ × V))) → All (IsTableOf all) us → All (IsTableOf all) (map group_table gs)
    gs-tables all tables = subst (All (IsTableOf all)) (sym tables-are) (next-tables joined setting encoded us all tables)

    -- The levels above one that was regrouped.
    pub raise-then : (levels : List (List (Group J V M))) → Raises joined setting encoded (map group_table gs) v w y z levels → Raises joined setting encoded us u w x z (gs ∷ levels)
    raise-then levels above = (
      (level.0, subst (λ (ts : List (List (List ℕ × V))). AreLevels joined setting encoded (groups_of (is_marked encoded) ts) levels) tables-are above.0),
      λ all tables.
          subst (λ (ts : List (List (List ℕ × V))). Merged (distinct_keys all) u w x z (inputs_in joined setting encoded (groups_of (is_marked encoded) us) ++ inputs_up joined setting encoded (length levels) ts)) tables-are
          (merged-then (distinct_keys all) u v w x y z (inputs_in joined setting encoded (groups_of (is_marked encoded) us)) (inputs_up joined setting encoded (length levels) (map group_table gs)) before after (level.1 all tables) (above.1 all (gs-tables all tables))),
    )

    pub raise-failed : (k : ℕ) → RaisesSome joined setting encoded (map group_table gs) k v w y z → RaisesSome joined setting encoded us (suc k) u w x z
    raise-failed k some all tables =
        subst (λ (ts : List (List (List ℕ × V))). MergedSome (distinct_keys all) u w x z (inputs_in joined setting encoded (groups_of (is_marked encoded) us) ++ inputs_up joined setting encoded k ts)) tables-are
        (merged-some (distinct_keys all) u v w x y z (inputs_in joined setting encoded (groups_of (is_marked encoded) us)) (inputs_up joined setting encoded k (map group_table gs)) before after (level.1 all tables) (some all (gs-tables all tables)))

  -- What the levels above the next one must be over.
  pub levels-above : (ts : List (List (List ℕ × V))) (gs : List (Group J V M)) (levels : List (List (Group J V M))) → AreLevels joined setting encoded (groups_of (is_marked encoded) ts) (gs ∷ levels) → AreLevels joined setting encoded (groups_of (is_marked encoded) (map group_table gs)) levels
  levels-above ts gs levels are =
      subst (λ (us : List (List (List ℕ × V))). AreLevels joined setting encoded (groups_of (is_marked encoded) us) levels) (sym (over-tables joined setting encoded (groups_of (is_marked encoded) ts) gs are.0)) are.1

  pub enough-above : (us : List (List (List ℕ × V))) (gs : List (Group J V M)) (k : ℕ) → AreOver joined setting encoded (groups_of (is_marked encoded) us) gs → length us ≤ 2 ^ (suc k) → length gs ≤ 2 ^ k
  enough-above us gs k over le = let n = over-length joined setting encoded (groups_of (is_marked encoded) us) gs over in let m = groups-halved (is_marked encoded) k us le in omega (arith, n, m)

module _ {J V M : Type 0} where
  -- Levels whose drafts change nothing fit.
  pub undrafted-fits : (levels : List (Level J V M)) → All IsUndrafted levels → All Fits levels
  undrafted-fits [] all = All-nil (Fits {J = J} {V = V} {M = M})
  undrafted-fits (l ∷ levels) all =
      let a = (All-head IsUndrafted l levels all).0 in
      let b = (All-head IsUndrafted l levels all).1 in
      All-cons Fits l levels (omega (arith, a, b)) (undrafted-fits levels (All-tail IsUndrafted l levels all))

  -- No level was added, or one without groups.
  pub adds-none : (old new : List (Level J V M)) → new ≡ old → AddsLevels old new
  adds-none old new same = ([], same ∙ sym (append-nil old), All-nil (λ (l : Level J V M). (now_of l ≡ []) × IsUndrafted l))

  pub adds-more : (old now new : List (Level J V M)) (l : Level J V M) → AddsLevels old now → new ≡ now ++ l ∷ [] → now_of l ≡ [] → IsUndrafted l → AddsLevels old new
  adds-more old now new l adds is none stays = (
    adds.0 ++ l ∷ [],
    is ∙ (ap (λ (ls : List (Level J V M)). ls ++ l ∷ []) adds.1 ∙ append_assoc old adds.0 (l ∷ [])),
    All-append (λ (k : Level J V M). (now_of k ≡ []) × IsUndrafted k) adds.0 (l ∷ []) adds.2 (All-cons (λ (k : Level J V M). (now_of k ≡ []) × IsUndrafted k) l [] (none, stays) (All-nil (λ (k : Level J V M). (now_of k ≡ []) × IsUndrafted k))),
  )

-- Enough levels, and more.
pub enough-more : (leaves r n : ℕ) → leaves ≤ 2 ^ r → r + 1 ≤ n → leaves ≤ 2 ^ (n - 1)
enough-more leaves r n le lt = let k : r ≤ n - 1 = omega (arith, lt) in let a : 2 ^ r ≤ 2 ^ (n - 1) = pow_mono k in omega (arith, le, a)

module _ {J V M : Type 0} (digest_of : PairOf V → List ℕ) where
  pub levels-none : (v : CallerView) → GainsLevels {J = J} {V = V} {M = M} digest_of v v []
  levels-none v = record { gets = gets-none v; loose = λ is. absurd (let no : false ≡ true = is in cc) }

  -- The first level, and those above it.
  pub levels-then : (u v w : CallerView) (l : Level J V M) (levels : List (Level J V M)) → GainsGroups digest_of u v [] (fresh_of l) → GainsLevels digest_of v w levels → GainsLevels digest_of u w (l ∷ levels)
  levels-then u v w l levels first rest = record {
    gets = gets-then u v w (groups_pins digest_of (fresh_of l)) (drafts_pins digest_of levels) (subst (λ (gs : List (Group J V M)). Gets u (groups_pins digest_of gs) v) (sym first.is) first.gets) rest.gets;
    loose = λ is. go (or_cases (groups_loose (fresh_of l)) (list_any (λ k. groups_loose (fresh_of k)) levels) is);
  }
    where
      go : (groups_loose (fresh_of l) ≡ true) ⊎ (list_any (λ k. groups_loose (fresh_of k)) levels ≡ true) → Met u w
      go (inl one) = any-met-later u v w rest.gets.0.later (first.loose (sym (ap groups_loose first.is) ∙ one))
      go (inr one) = any-met-before u v w first.gets.0.later rest.gets.0.later (rest.loose one)

-- Groups without merges have no pins.
module _ {J V M : Type 0} (digest_of : PairOf V → List ℕ) where
  plain-pins : (gs : List (Group J V M)) → All (λ g. g.holds.items ≡ []) gs → (groups_pins digest_of gs ≡ []) × (groups_loose gs ≡ false)
  plain-pins [] all = (refl, refl)
  plain-pins (g ∷ gs) all =
      let none = All-head (λ (h : Group J V M). h.holds.items ≡ []) g gs all in
      let rest = plain-pins gs (All-tail (λ (h : Group J V M). h.holds.items ≡ []) g gs all) in (
        ap (λ (hs : List (Hold J V M)). all_pins digest_of hs ++ groups_pins digest_of gs) none ∙ rest.0,
        ap (λ (hs : List (Hold J V M)). list_any is_loose hs || groups_loose gs) none ∙ rest.1,
      )

  pub plain-gains : (v : CallerView) (gs : List (Group J V M)) → All (λ g. g.holds.items ≡ []) gs → GainsGroups digest_of v v [] gs
  plain-gains v gs all = record {
    more = gs;
    is = refl;
    gets = subst (λ (ps : List PinName). Gets v ps v) (sym (plain-pins gs all).0) (gets-none v);
    loose = λ is. absurd (let no : false ≡ true = sym (plain-pins gs all).1 ∙ is in cc);
  }

  -- Nor have levels whose drafts change nothing.
  pub undrafted-gains : (v : CallerView) (levels : List (Level J V M)) → All IsUndrafted levels → GainsLevels digest_of v v levels
  undrafted-gains v [] all = levels-none digest_of v
  undrafted-gains v (l ∷ levels) all =
      levels-then digest_of v v v l levels
      (subst (λ (gs : List (Group J V M)). GainsGroups digest_of v v [] gs) (sym (All-head IsUndrafted l levels all).2) (gains-none digest_of v []))
      (undrafted-gains v levels (All-tail IsUndrafted l levels all))
