-- A level that follows the one below it: what stays of it, and what it cost.
use Rattle.std.proofs.Common.{◌≡◌, ◌⊎◌, inl, inr, ℕ, suc, zero, ◌+◌, ◌-◌, ◌<◌, ◌≤◌, true, List, [], ◌∷◌, ◌++◌, length, map, take, drop, refl, sym, ap, subst, ◌∙◌, arith, append-nil, length-append, length-take}
use Rattle.std.specs.List.{All}
use Rattle.std.proofs.lemmas.List.{take-append-drop, take-append-le}
use Rattle.job_laws.specs.declared.meter.Counts.{Counts}
use Rattle.pin_table.specs.Views.{CallerView}
use Rattle.pin_table.proofs.Covering.{got-same}
use Rattle.tree_laws.specs.Trees.{distinct_keys}
use Rattle.random_tree.specs.declared.boundary.Boundary.{Boundary}
use Rattle.random_tree.specs.declared.group.Group.{Group}
use Rattle.random_tree.specs.declared.level.Level.{Level}
use Rattle.random_tree.specs.Groups.{Members, groups_of}
use Rattle.random_tree.specs.Inputs.{is_marked}
use Rattle.random_tree.specs.Payments.{Merged, MergedSome}
use Rattle.random_tree.specs.Levels.{group_table, span, IsBoundary, Fits, now_of, fresh_of, taken, AreOver}
use Rattle.random_tree.specs.Steps.{FillsSome, groups_from, inputs_in, Meets, Fills, Regroups, RegroupsSome}
use Rattle.random_tree.proofs.GroupLaws.{flat, sizes, flat-take, flat-groups, front-stays, rest-at, groups-over, groups-none, groups-two, sizes-groups}
use Rattle.random_tree.proofs.PayLaws.{merged-none, merged-among, merged-is-some, some-among, some-none}
use Rattle.random_tree.proofs.LevelLaws.{over-take, over-drop, over-append, over-span, over-length, over-ends}
use Rattle.random_tree.proofs.FillLaws.{inputs-append, map-drop, map-take}

pub few_or_two : (n : ℕ) → (n ≤ 1) ⊎ (2 ≤ n)
few_or_two zero = inl (omega arith)
few_or_two (suc zero) = inl (omega arith)
few_or_two (suc (suc n)) = inr (omega arith)

drop-all : {X : Type 0} (xs : List X) → drop (length xs) xs ≡ []
drop-all [] = refl
drop-all (x ∷ xs) = drop-all xs

take-nil : {X : Type 0} (n : ℕ) → ◌≡◌ {A = List X} (take n []) []
take-nil zero = refl
take-nil (suc n) = refl

-- Memory ran out at once.
pub regroup-stopped : {V : Type 0} (joined : ℕ → V → V → V) (setting : ℕ) (encoded : V → List ℕ) (us : List (List (List ℕ × V))) (v : CallerView) (x : Counts) → RegroupsSome joined setting encoded us v v x x
regroup-stopped joined setting encoded us v x all tables = some-none (distinct_keys all) v v x (inputs_in joined setting encoded (groups_of (is_marked encoded) us))

-- If a draft changes nothing, the level stays.
pub taken-same : {J V M : Type 0} (l : Level J V M) → l.draft.gone ≡ 0 → l.draft.fresh.items ≡ [] → taken l ≡ now_of l
taken-same l gone none =
    (λ i. take l.draft.first l.groups.items ++ (none i ++ drop (l.draft.first + gone i) l.groups.items))
    ∙ (ap (λ (n : ℕ). take l.draft.first l.groups.items ++ drop n l.groups.items) (let zero_more : l.draft.first + 0 ≡ l.draft.first = omega arith in zero_more)
    ∙ take-append-drop l.draft.first l.groups.items)

-- What a level has once a draft of it is settled.
pub taken-parts : {X : Type 0} (first gone until : ℕ) (items old fresh : List X) → items ≡ old → gone ≡ until - first → first ≤ until → take first items ++ (fresh ++ drop (first + gone) items) ≡ take first old ++ (fresh ++ drop until old)
taken-parts first gone until items old fresh same is le =
    let end : first + gone ≡ until = omega (arith, is, le) in
    λ i. take first (same i) ++ (fresh ++ drop (end i) (same i))

pub taken-none : {X : Type 0} (first gone : ℕ) (items fresh : List X) → first ≡ 0 → fresh ≡ [] → gone ≡ length items → take first items ++ (fresh ++ drop (first + gone) items) ≡ []
taken-none first gone items fresh zero_is none all =
    let end : first + gone ≡ length items = omega (arith, zero_is, all) in
    (λ i. take (zero_is i) items ++ (none i ++ drop (end i) items)) ∙ drop-all items

module _ {J V M : Type 0} where
  -- No more members come before a draft than are left.
  pub first-within : (l : Level J V M) → Fits l → l.draft.first ≤ length (taken l)
  first-within l fits =
      let a = length-take l.draft.first l.groups.items in
      let b = length-append (take l.draft.first l.groups.items) (l.draft.fresh.items ++ drop (l.draft.first + l.draft.gone) l.groups.items) in
      omega (arith, fits, a, b)

module _ {J V M : Type 0} (joined : ℕ → V → V → V) (setting : ℕ) (encoded : V → List ℕ) where
  -- What stays is a part of the old groups.
  pub meets-within : (below : Level J V M) (old : List (Group J V M)) (until : ℕ) (rest : List (List (List ℕ × V))) → Meets below old until rest → until ≤ length old
  meets-within below old until rest (inl none) = let a = none.1 in omega (arith, a)
  meets-within below old until rest (inr stay) = let a = stay.0 in omega (arith, a)

  -- Nothing changed below.
  pub regroup-same : (below above : Level J V M) (v : CallerView) (x : Counts) → below.draft.gone ≡ 0 → below.draft.fresh.items ≡ [] → above.draft.gone ≡ 0 → above.draft.fresh.items ≡ []
      → AreOver joined setting encoded (groups_of (is_marked encoded) (map group_table (now_of below))) (now_of above) → Regroups joined setting encoded (map group_table (taken below)) v v x x (taken above)
  regroup-same below above v x gone none gone_too none_too over = (
    subst (λ (gs : List (Group J V M)). AreOver joined setting encoded (groups_of (is_marked encoded) (map group_table gs)) (taken above)) (sym (taken-same below gone none))
        (subst (λ (gs : List (Group J V M)). AreOver joined setting encoded (groups_of (is_marked encoded) (map group_table (now_of below))) gs) (sym (taken-same above gone_too none_too)) over),
    λ all tables. merged-none (distinct_keys all) v v x (inputs_in joined setting encoded (groups_of (is_marked encoded) (map group_table (taken below)))) (got-same v),
  )

  -- Memory ran out after the last merge.
  pub regroup-some : (us : List (List (List ℕ × V))) (u v : CallerView) (x y : Counts) (gs : List (Group J V M)) → Regroups joined setting encoded us u v x y gs → RegroupsSome joined setting encoded us u v x y
  regroup-some us u v x y gs level all tables = merged-is-some (distinct_keys all) u v x y (inputs_in joined setting encoded (groups_of (is_marked encoded) us)) (level.1 all tables)

  -- The groups of a level have no more members than there are below.
  pub old-span : (ts : List (List (List ℕ × V))) (old : List (Group J V M)) → AreOver joined setting encoded (groups_of (is_marked encoded) ts) old → span old ≤ length ts
  old-span ts old over = go (few_or_two (length ts))
    where
      count : span old ≡ sizes (groups_of (is_marked encoded) ts)
      count = over-span joined setting encoded (groups_of (is_marked encoded) ts) old over

      go : (length ts ≤ 1) ⊎ (2 ≤ length ts) → span old ≤ length ts
      go (inl few) = let a = ap sizes (groups-none (is_marked encoded) ts few) in omega (arith, a, count)
      go (inr two) = let a = sizes-groups (is_marked encoded) ts two in omega (arith, a, count)

  -- Fewer than two members are left below.
  pub regroup-none : (us : List (List (List ℕ × V))) (v : CallerView) (x : Counts) (gs : List (Group J V M)) → length us < 2 → gs ≡ [] → Regroups joined setting encoded us v v x x gs
  regroup-none us v x gs few none = (
    subst (λ (hs : List (Group J V M)). AreOver joined setting encoded (groups_of (is_marked encoded) us) hs) (sym none)
        (subst (λ (mss : List (Members (List (List ℕ × V)))). AreOver {J = J} {V = V} {M = M} joined setting encoded mss []) (sym (groups-none (is_marked encoded) us (omega (arith, few)))) tt),
    λ all tables. merged-none (distinct_keys all) v v x (inputs_in joined setting encoded (groups_of (is_marked encoded) us)) (got-same v),
  )

  module _ (below : Level J V M) (old : List (Group J V M)) (kept : Boundary)
      (over : AreOver joined setting encoded (groups_of (is_marked encoded) (map group_table (now_of below))) old)
      (boundary : IsBoundary old kept) (within : kept.members ≤ below.draft.first) (fits : Fits below) (ended : All (λ g. g.ended ≡ true) (take kept.groups old))
      (two : 2 ≤ length (map group_table (taken below))) where
    abbrev ts : List (List (List ℕ × V))
    ts = map group_table (now_of below)

    abbrev us : List (List (List ℕ × V))
    us = map group_table (taken below)

    abbrev mss : List (Members (List (List ℕ × V)))
    mss = groups_of (is_marked encoded) ts

    front-same : take kept.members us ≡ take kept.members ts
    front-same =
        let n = length-take below.draft.first (now_of below) in
        sym (map-take group_table kept.members (taken below))
        ∙ (ap (map group_table) (take-append-le kept.members (take below.draft.first (now_of below)) (fresh_of below ++ drop (below.draft.first + below.draft.gone) (now_of below)) (omega (arith, n, within, fits)) ∙ take-take kept.members below.draft.first (now_of below) within)
        ∙ map-take group_table kept.members (now_of below))
      where
        take-take : (m n : ℕ) (xs : List (Group J V M)) → m ≤ n → take m (take n xs) ≡ take m xs
        take-take zero n xs le = refl
        take-take (suc m) zero xs le = absurd (omega (arith, le))
        take-take (suc m) (suc n) [] le = refl
        take-take (suc m) (suc n) (x ∷ xs) le = ap (λ (ys : List (Group J V M)). x ∷ ys) (take-take m n xs (omega (arith, le)))

    -- The members of the first groups.
    front-flat : flat (take kept.groups mss) ≡ take kept.members us
    front-flat = go (few_or_two (length ts))
      where
        count : sizes (take kept.groups mss) ≡ kept.members
        count = sym (boundary.1 ∙ over-span joined setting encoded (take kept.groups mss) (take kept.groups old) (over-take joined setting encoded kept.groups mss old over))

        all_of : 2 ≤ length ts → flat mss ≡ ts
        all_of more = ap flat (groups-over (is_marked encoded) ts more) ∙ flat-groups (is_marked encoded) ts

        go : (length ts ≤ 1) ⊎ (2 ≤ length ts) → flat (take kept.groups mss) ≡ take kept.members us
        go (inl few) =
            let none : take kept.groups mss ≡ [] = ap (take kept.groups) (groups-none (is_marked encoded) ts few) ∙ take-nil {X = Members (List (List ℕ × V))} kept.groups in
            let zero_is : kept.members ≡ 0 = sym count ∙ ap sizes none in
            ap flat none ∙ ap (λ (n : ℕ). take n us) (sym zero_is)
        go (inr more) = flat-take kept.groups mss ∙ (ap (λ (n : ℕ). take n (flat mss)) count ∙ (ap (take kept.members) (all_of more) ∙ sym front-same))

    -- The first groups stay.
    groups-kept : groups_of (is_marked encoded) us ≡ take kept.groups mss ++ groups_from encoded (drop kept.members us)
    groups-kept =
        groups-over (is_marked encoded) us two
        ∙ (ap (groups_from encoded) (sym (take-append-drop kept.members us) ∙ ap (λ (xs : List (List (List ℕ × V))). xs ++ drop kept.members us) (sym front-flat))
        ∙ front-stays (is_marked encoded) (take kept.groups mss) (drop kept.members us) (over-ends joined setting encoded (take kept.groups mss) (take kept.groups old) (over-take joined setting encoded kept.groups mss old over) ended))

    -- Memory ran out.
    pub regroup-failed : (u v : CallerView) (x y : Counts) → FillsSome joined setting encoded us kept.members u v x y → RegroupsSome joined setting encoded us u v x y
    regroup-failed u v x y some all tables =
        subst (λ (ds : List (List ℕ)). MergedSome (distinct_keys all) u v x y ds)
        (ap (λ (ds : List (List ℕ)). inputs_in joined setting encoded (take kept.groups mss) ++ ds) (append-nil (inputs_in joined setting encoded (groups_from encoded (drop kept.members us))))
        ∙ sym (ap (inputs_in joined setting encoded) groups-kept ∙ inputs-append joined setting encoded (take kept.groups mss) (groups_from encoded (drop kept.members us))))
        (some-among (distinct_keys all) u v x y (inputs_in joined setting encoded (take kept.groups mss)) (inputs_in joined setting encoded (groups_from encoded (drop kept.members us))) [] (some all tables))

    -- So do those after a boundary that is met.
    meets-rest : (until : ℕ) (rest : List (List (List ℕ × V))) → Meets below old until rest → groups_from encoded rest ≡ drop until mss
    meets-rest until rest (inl none) =
        ap (groups_from encoded) none.0 ∙ sym (ap (λ (n : ℕ). drop n mss) (none.1 ∙ over-length joined setting encoded mss old over) ∙ drop-all mss)
    meets-rest until rest (inr stay) =
        let count = over-length joined setting encoded mss old over in
        let more : 2 ≤ length ts = some-two mss refl (omega (arith, count, stay.0)) in
        ap (groups_from encoded) (stay.1 ∙ (map-drop group_table (span (take until old)) (now_of below) ∙ ap (λ (n : ℕ). drop n ts) (over-span joined setting encoded (take until mss) (take until old) (over-take joined setting encoded until mss old over))))
        ∙ rest-at (is_marked encoded) until ts mss (sym (groups-over (is_marked encoded) ts more))
      where
        some-two : (gs : List (Members (List (List ℕ × V)))) → mss ≡ gs → 0 < length gs → 2 ≤ length ts
        some-two [] is lt = absurd (omega (arith, lt))
        some-two (m ∷ gs) is lt = groups-two (is_marked encoded) ts m gs is

    module _ (until : ℕ) (u v : CallerView) (x y : Counts) (fresh : List (Group J V M)) (fills : Fills joined setting encoded below old kept until u v x y fresh) where
      groups-are : groups_of (is_marked encoded) us ≡ take kept.groups mss ++ (fills.members ++ drop until mss)
      groups-are = groups-kept ∙ ap (λ (gs : List (Members (List (List ℕ × V)))). take kept.groups mss ++ gs) (fills.rest ∙ ap (λ (gs : List (Members (List (List ℕ × V)))). fills.members ++ gs) (meets-rest until fills.left fills.meets))

      pub regroup-ok : (gs : List (Group J V M)) → gs ≡ take kept.groups old ++ (fresh ++ drop until old) → Regroups joined setting encoded us u v x y gs
      regroup-ok gs is = (
        subst (λ (hs : List (Group J V M)). AreOver joined setting encoded (groups_of (is_marked encoded) us) hs) (sym is)
            (subst (λ (m : List (Members (List (List ℕ × V)))). AreOver joined setting encoded m (take kept.groups old ++ (fresh ++ drop until old))) (sym groups-are)
            (over-append joined setting encoded (take kept.groups mss) (fills.members ++ drop until mss) (take kept.groups old) (fresh ++ drop until old) (over-take joined setting encoded kept.groups mss old over)
            (over-append joined setting encoded fills.members (drop until mss) fresh (drop until old) fills.over (over-drop joined setting encoded until mss old over)))),
        λ all tables.
            subst (λ (ds : List (List ℕ)). Merged (distinct_keys all) u v x y ds)
            (ap (λ (ds : List (List ℕ)). inputs_in joined setting encoded (take kept.groups mss) ++ ds) (sym (inputs-append joined setting encoded fills.members (drop until mss)))
            ∙ (sym (inputs-append joined setting encoded (take kept.groups mss) (fills.members ++ drop until mss)) ∙ ap (inputs_in joined setting encoded) (sym groups-are)))
            (merged-among (distinct_keys all) u v x y (inputs_in joined setting encoded (take kept.groups mss)) (inputs_in joined setting encoded fills.members) (inputs_in joined setting encoded (drop until mss)) (fills.cost all tables)),
      )
