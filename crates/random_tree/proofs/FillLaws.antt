-- Groups that are made one after another, from a boundary on.
use Rattle.std.proofs.Common.{◌≡◌, inl, inr, ℕ, suc, zero, ◌+◌, ◌<◌, ◌≤◌, List, [], ◌∷◌, ◌++◌, length, map, take, drop, refl, sym, ap, subst, ◌∙◌, arith, append-nil, append_assoc}
use Rattle.std.proofs.lemmas.List.{drop-drop}
use Rattle.std.proofs.lemmas.List.Elements.{All-drop}
use Rattle.std.proofs.lemmas.List.Concat.{flat_map-append}
use Rattle.definitions.specs.Tables.{merged}
use Rattle.job_laws.specs.declared.meter.Counts.{Counts}
use Rattle.pin_table.specs.Views.{CallerView}
use Rattle.pin_table.specs.Covers.{IsLater}
use Rattle.pin_table.proofs.Covering.{got-same, later-same, later-then}
use Rattle.tree_laws.specs.Trees.{distinct_keys}
use Rattle.random_tree.specs.declared.boundary.Boundary.{Boundary}
use Rattle.random_tree.specs.declared.group.Group.{Group}
use Rattle.random_tree.specs.declared.level.Level.{Level}
use Rattle.random_tree.specs.Groups.{Members, group_inputs}
use Rattle.random_tree.specs.Inputs.{is_marked, input_of}
use Rattle.random_tree.specs.Payments.{Merged, MergedSome}
use Rattle.random_tree.specs.Levels.{IsTableOf, group_table, span, IsBoundary, now_of, taken, AreOver}
use Rattle.random_tree.specs.Steps.{Costs, FillsSome, MergesSomeOf, groups_from, inputs_at, inputs_in, AddsGroup, Fills}
use Rattle.random_tree.proofs.PayLaws.{merged-none, merged-then, merged-some}
use Rattle.random_tree.proofs.GroupLaws.{sizes, length-flat, flat-groups}
use Rattle.random_tree.proofs.LevelLaws.{over-append, over-count}

pub inputs-append : {V : Type 0} (joined : ℕ → V → V → V) (setting : ℕ) (encoded : V → List ℕ) (mss nss : List (Members (List (List ℕ × V)))) → inputs_in joined setting encoded (mss ++ nss) ≡ inputs_in joined setting encoded mss ++ inputs_in joined setting encoded nss
inputs-append joined setting encoded mss nss = flat_map-append (group_inputs (merged (joined setting)) (input_of encoded setting)) mss nss

drop-all : {X : Type 0} (n : ℕ) (xs : List X) → length xs ≤ n → drop n xs ≡ []
drop-all zero [] le = refl
drop-all zero (a ∷ xs) le = absurd (omega (arith, le))
drop-all (suc n) [] le = refl
drop-all (suc n) (a ∷ xs) le = drop-all n xs (omega (arith, le))

pub map-drop : {X Y : Type 0} (f : X → Y) (n : ℕ) (xs : List X) → map f (drop n xs) ≡ drop n (map f xs)
map-drop f zero xs = refl
map-drop f (suc n) [] = refl
map-drop f (suc n) (x ∷ xs) = map-drop f n xs

pub map-take : {X Y : Type 0} (f : X → Y) (n : ℕ) (xs : List X) → map f (take n xs) ≡ take n (map f xs)
map-take f zero xs = refl
map-take f (suc n) [] = refl
map-take f (suc n) (x ∷ xs) = ap (λ ys. f x ∷ ys) (map-take f n xs)

-- A group takes at least one member, and at most as many as there are.
pub added-within : {J V M : Type 0} (joined : ℕ → V → V → V) (setting : ℕ) (encoded : V → List ℕ) (ts : List (List (List ℕ × V))) (u v : CallerView) (x y : Counts) (count : ℕ) (old new : List (Group J V M))
    → AddsGroup joined setting encoded ts u v x y count old new → (1 ≤ count) × (count ≤ length ts)
added-within joined setting encoded ts u v x y count old new adds =
    let grown = adds.grown in
    let is = adds.count_is in
    let a = over-count joined setting encoded grown.members adds.group grown.over in
    let b = length-flat (groups_from encoded ts) in
    let c = ap length (flat-groups (is_marked encoded) ts) in
    let d = ap sizes grown.rest in
    (omega (arith, is), omega (arith, is, a, b, c, d))

module _ {J V M : Type 0} (joined : ℕ → V → V → V) (setting : ℕ) (encoded : V → List ℕ) (us : List (List (List ℕ × V))) (kept : ℕ) where
  -- Groups over the members from a boundary up to another, and what they cost.
  pub record IsFilling (at : ℕ) (u v : CallerView) (x y : Counts) (fresh : List (Group J V M)) : Type 0 where
    pub members : List (Members (List (List ℕ × V)))
    pub over : AreOver joined setting encoded members fresh
    pub rest : groups_from encoded (drop kept us) ≡ members ++ groups_from encoded (drop at us)
    pub later : IsLater u v
    pub cost : Costs us u v x y (inputs_in joined setting encoded members)

  pub fill-start : (v : CallerView) (x : Counts) (fresh : List (Group J V M)) → fresh ≡ [] → IsFilling kept v v x x fresh
  fill-start v x fresh none = record {
    members = [];
    over = subst (λ (gs : List (Group J V M)). AreOver joined setting encoded [] gs) (sym none) tt;
    rest = refl;
    later = later-same v;
    cost = λ all tables. merged-none (distinct_keys all) v v x [] (got-same v);
  }

  module _ (at : ℕ) (u v w : CallerView) (x y z : Counts) (fresh : List (Group J V M)) (fills : IsFilling at u v x y fresh) (after : IsLater v w) where
    -- One group more.
    pub fill-next : (count : ℕ) (new : List (Group J V M)) → AddsGroup joined setting encoded (drop at us) v w y z count fresh new → IsFilling (at + count) u w x z new
    fill-next count new adds =
        let grown = adds.grown in
        record {
          members = fills.members ++ grown.members ∷ [];
          over = subst (λ (gs : List (Group J V M)). AreOver joined setting encoded (fills.members ++ grown.members ∷ []) gs) (sym adds.is)
              (over-append joined setting encoded fills.members (grown.members ∷ []) fresh (adds.group ∷ []) fills.over (grown.over, tt));
          rest =
              fills.rest
              ∙ (ap (λ (mss : List (Members (List (List ℕ × V)))). fills.members ++ mss)
              (grown.rest ∙ ap (λ (ts : List (List (List ℕ × V))). grown.members ∷ groups_from encoded ts) (ap (λ (n : ℕ). drop n (drop at us)) (sym adds.count_is) ∙ drop-drop count at us))
              ∙ sym (append_assoc fills.members (grown.members ∷ []) (groups_from encoded (drop (at + count) us))));
          later = later-then u v w fills.later after;
          cost = λ all tables.
              subst (λ (ds : List (List ℕ)). Merged (distinct_keys all) u w x z ds)
              (ap (λ (ds : List (List ℕ)). inputs_in joined setting encoded fills.members ++ ds) (sym (append-nil (inputs_at joined setting encoded grown.members))) ∙ sym (inputs-append joined setting encoded fills.members (grown.members ∷ [])))
              (merged-then (distinct_keys all) u v w x y z (inputs_in joined setting encoded fills.members) (inputs_at joined setting encoded grown.members) fills.later after (fills.cost all tables) (grown.cost all (All-drop (IsTableOf all) at us tables)));
        }

    -- Memory ran out in a group.
    pub fill-failed : MergesSomeOf joined setting encoded (drop at us) v w y z → FillsSome joined setting encoded us kept u w x z
    fill-failed some all tables =
        subst (λ (ds : List (List ℕ)). MergedSome (distinct_keys all) u w x z ds) (sym (ap (inputs_in joined setting encoded) fills.rest ∙ inputs-append joined setting encoded fills.members (groups_from encoded (drop at us))))
        (merged-some (distinct_keys all) u v w x y z (inputs_in joined setting encoded fills.members) (inputs_in joined setting encoded (groups_from encoded (drop at us))) fills.later after (fills.cost all tables) (some all (All-drop (IsTableOf all) at us tables)))

module _ {J V M : Type 0} (joined : ℕ → V → V → V) (setting : ℕ) (encoded : V → List ℕ) (below : Level J V M) (old : List (Group J V M)) (kept : Boundary) (at : ℕ) (u v : CallerView) (x y : Counts) (fresh : List (Group J V M)) (fills : IsFilling joined setting encoded (map group_table (taken below)) kept.members at u v x y fresh) where
  -- No member is left.
  pub fill-end : length (map group_table (taken below)) ≤ at → kept.groups ≤ length old → Fills joined setting encoded below old kept (length old) u v x y fresh
  fill-end few le = record {
    members = fills.members;
    left = [];
    over = fills.over;
    rest = fills.rest ∙ ap (λ (ts : List (List (List ℕ × V))). fills.members ++ groups_from encoded ts) (drop-all at (map group_table (taken below)) few);
    later = le;
    meets = inl (refl, refl);
    cost = fills.cost;
  }

  -- The old groups stay from a boundary on.
  pub fill-meets : (met : Boundary) (place : ℕ) → IsBoundary old met → met.members ≡ place → met.groups < length old → kept.groups ≤ met.groups → drop at (taken below) ≡ drop place (now_of below) → Fills joined setting encoded below old kept met.groups u v x y fresh
  fill-meets met place boundary here lt le same = record {
    members = fills.members;
    left = map group_table (drop (span (take met.groups old)) (now_of below));
    over = fills.over;
    rest =
        fills.rest
        ∙ ap (λ (ts : List (List (List ℕ × V))). fills.members ++ groups_from encoded ts)
        (sym (map-drop group_table at (taken below)) ∙ ap (map group_table) (same ∙ ap (λ (n : ℕ). drop n (now_of below)) (sym here ∙ boundary.1)));
    later = le;
    meets = inr (lt, refl);
    cost = fills.cost;
  }
