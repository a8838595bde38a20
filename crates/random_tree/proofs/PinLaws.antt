-- Pins of groups and levels that are given up.
use Rattle.std.proofs.Common.{◌≡◌, ℕ, ◌+◌, ◌-◌, List, [], ◌∷◌, ◌++◌, map, take, drop, refl, sym, ap, subst, ◌∙◌, arith, append-nil}
use Rattle.std.proofs.lemmas.List.{take-append-drop, drop-drop}
use Rattle.std.proofs.lemmas.List.Concat.{flat_map-append}
use Rattle.pin_table.specs.Views.{CallerView}
use Rattle.pin_table.specs.Covers.{PinName, AreGiven, Covered, Balanced, count}
use Rattle.pin_table.proofs.Covering.{count-append, balanced-from, balanced-order, covered-order, covered-right, less-balanced, less-covered, given-append, given-left, given-right}
use Rattle.tree_laws.specs.Pairs.{PairOf}
use Rattle.tree_laws.specs.Holds.{all_pins}
use Rattle.random_tree.specs.declared.group.Group.{Group}
use Rattle.random_tree.specs.declared.level.Level.{Level}
use Rattle.random_tree.specs.Levels.{groups_pins, level_pins, levels_pins, drafts_pins, stands_pins, now_of, fresh_of, taken}

module _ {J V M : Type 0} (digest_of : PairOf V → List ℕ) where
  pub pins-append : (gs hs : List (Group J V M)) → groups_pins digest_of (gs ++ hs) ≡ groups_pins digest_of gs ++ groups_pins digest_of hs
  pins-append gs hs = flat_map-append (λ (g : Group J V M). all_pins digest_of g.holds.items) gs hs

  pub pins-push : (gs : List (Group J V M)) (g : Group J V M) → groups_pins digest_of (gs ++ g ∷ []) ≡ groups_pins digest_of gs ++ all_pins digest_of g.holds.items
  pins-push gs g = pins-append gs (g ∷ []) ∙ ap (λ (ps : List PinName). groups_pins digest_of gs ++ ps) (append-nil (all_pins digest_of g.holds.items))

  -- The last group goes.
  module _ (v : CallerView) (hs rest : List (Group J V M)) (g : Group J V M) (is : hs ≡ rest ++ g ∷ []) where
    pub last-covered : Covered v (groups_pins digest_of hs) → Covered v (all_pins digest_of g.holds.items)
    last-covered c = covered-right v (groups_pins digest_of rest) (all_pins digest_of g.holds.items) (subst (Covered v) (ap (groups_pins digest_of) is ∙ pins-push rest g) c)

    module _ (w : CallerView) (gone : (ps : List PinName) → Balanced v (all_pins digest_of g.holds.items ++ ps) w ps) where
      all-gone : Balanced v (all_pins digest_of g.holds.items) w []
      all-gone = subst (λ (ps : List PinName). Balanced v ps w []) (append-nil (all_pins digest_of g.holds.items)) (gone [])

      pub rest-covered : Covered v (groups_pins digest_of hs) → Covered w (groups_pins digest_of rest)
      rest-covered c = less-covered v w (groups_pins digest_of rest) (all_pins digest_of g.holds.items) (subst (Covered v) (ap (groups_pins digest_of) is ∙ pins-push rest g) c) all-gone

      pub rest-balanced : Balanced v (groups_pins digest_of hs) w (groups_pins digest_of rest)
      rest-balanced = subst (λ (ps : List PinName). Balanced v ps w (groups_pins digest_of rest)) (sym (ap (groups_pins digest_of) is ∙ pins-push rest g)) (less-balanced v w (groups_pins digest_of rest) (all_pins digest_of g.holds.items) all-gone)

  -- A draft takes the place of the groups that it replaces, which come after all others then.
  module _ (first gone : ℕ) (gs fresh : List (Group J V M)) where
    abbrev pub kept : List (Group J V M)
    kept = take first gs ++ (fresh ++ drop (first + gone) gs)

    abbrev pub lost : List (Group J V M)
    lost = take gone (drop first gs)

    parts : gs ≡ take first gs ++ (lost ++ drop (first + gone) gs)
    parts = sym (take-append-drop first gs) ∙ ap (λ (hs : List (Group J V M)). take first gs ++ hs) (sym (take-append-drop gone (drop first gs)) ∙ ap (λ (hs : List (Group J V M)). take gone (drop first gs) ++ hs) (drop-drop gone first gs))

    replaced-count : (s id : ℕ) → count s id (groups_pins digest_of gs ++ groups_pins digest_of fresh) ≡ count s id (groups_pins digest_of (kept ++ lost))
    replaced-count s id =
        let a = ap (count s id) (ap (groups_pins digest_of) parts ∙ pins-append (take first gs) (lost ++ drop (first + gone) gs)) in
        let b = count-append s id (groups_pins digest_of (take first gs)) (groups_pins digest_of (lost ++ drop (first + gone) gs)) in
        let c = ap (count s id) (pins-append lost (drop (first + gone) gs)) in
        let d = count-append s id (groups_pins digest_of lost) (groups_pins digest_of (drop (first + gone) gs)) in
        let e = count-append s id (groups_pins digest_of gs) (groups_pins digest_of fresh) in
        let f = ap (count s id) (pins-append kept lost) in
        let h = count-append s id (groups_pins digest_of kept) (groups_pins digest_of lost) in
        let i = ap (count s id) (pins-append (take first gs) (fresh ++ drop (first + gone) gs)) in
        let j = count-append s id (groups_pins digest_of (take first gs)) (groups_pins digest_of (fresh ++ drop (first + gone) gs)) in
        let k = ap (count s id) (pins-append fresh (drop (first + gone) gs)) in
        let l = count-append s id (groups_pins digest_of fresh) (groups_pins digest_of (drop (first + gone) gs)) in
        omega (arith, a, b, c, d, e, f, h, i, j, k, l)

    pub replaced-covered : (v : CallerView) → Covered v (groups_pins digest_of gs ++ groups_pins digest_of fresh) → Covered v (groups_pins digest_of (kept ++ lost))
    replaced-covered v c = covered-order v (groups_pins digest_of gs ++ groups_pins digest_of fresh) (groups_pins digest_of (kept ++ lost)) replaced-count given c
      where
        of_gs : AreGiven v (groups_pins digest_of (take first gs ++ (lost ++ drop (first + gone) gs)))
        of_gs = subst (λ (hs : List (Group J V M)). AreGiven v (groups_pins digest_of hs)) parts (given-left v (groups_pins digest_of gs) (groups_pins digest_of fresh) c.given)

        of_front : AreGiven v (groups_pins digest_of (take first gs))
        of_front = given-left v (groups_pins digest_of (take first gs)) (groups_pins digest_of (lost ++ drop (first + gone) gs)) (subst (AreGiven v) (pins-append (take first gs) (lost ++ drop (first + gone) gs)) of_gs)

        of_back : AreGiven v (groups_pins digest_of lost ++ groups_pins digest_of (drop (first + gone) gs))
        of_back = subst (AreGiven v) (pins-append lost (drop (first + gone) gs)) (given-right v (groups_pins digest_of (take first gs)) (groups_pins digest_of (lost ++ drop (first + gone) gs)) (subst (AreGiven v) (pins-append (take first gs) (lost ++ drop (first + gone) gs)) of_gs))

        given : AreGiven v (groups_pins digest_of (kept ++ lost))
        given =
            subst (AreGiven v) (sym (pins-append kept lost))
            (given-append v (groups_pins digest_of kept) (groups_pins digest_of lost)
            (subst (AreGiven v) (sym (pins-append (take first gs) (fresh ++ drop (first + gone) gs)))
            (given-append v (groups_pins digest_of (take first gs)) (groups_pins digest_of (fresh ++ drop (first + gone) gs)) of_front
            (subst (AreGiven v) (sym (pins-append fresh (drop (first + gone) gs)))
            (given-append v (groups_pins digest_of fresh) (groups_pins digest_of (drop (first + gone) gs)) (given-right v (groups_pins digest_of gs) (groups_pins digest_of fresh) c.given) (given-right v (groups_pins digest_of lost) (groups_pins digest_of (drop (first + gone) gs)) of_back)))))
            (given-left v (groups_pins digest_of lost) (groups_pins digest_of (drop (first + gone) gs)) of_back))

    pub replaced-balanced : (v w : CallerView) (none : List (Group J V M)) → none ≡ [] → Balanced v (groups_pins digest_of (kept ++ lost)) w (groups_pins digest_of kept) → Balanced v (groups_pins digest_of gs ++ groups_pins digest_of fresh) w (groups_pins digest_of kept ++ groups_pins digest_of none)
    replaced-balanced v w none is b =
        subst (λ (ps : List PinName). Balanced v (groups_pins digest_of gs ++ groups_pins digest_of fresh) w ps)
        (sym (ap (λ (hs : List (Group J V M)). groups_pins digest_of kept ++ groups_pins digest_of hs) is ∙ append-nil (groups_pins digest_of kept)))
        (balanced-from v w (groups_pins digest_of gs ++ groups_pins digest_of fresh) (groups_pins digest_of (kept ++ lost)) (groups_pins digest_of kept) replaced-count b)

  -- The pins of all levels, those that come before those of drafts.
  pub levels-count : (s id : ℕ) (levels : List (Level J V M)) → count s id (levels_pins digest_of levels) ≡ count s id (stands_pins digest_of (map now_of levels) ++ drafts_pins digest_of levels)
  levels-count s id [] = refl
  levels-count s id (l ∷ levels) =
      let a = count-append s id (level_pins digest_of l) (levels_pins digest_of levels) in
      let b = count-append s id (groups_pins digest_of (now_of l)) (groups_pins digest_of (fresh_of l)) in
      let c = levels-count s id levels in
      let d = count-append s id (stands_pins digest_of (map now_of levels)) (drafts_pins digest_of levels) in
      let e = count-append s id (groups_pins digest_of (now_of l) ++ stands_pins digest_of (map now_of levels)) (groups_pins digest_of (fresh_of l) ++ drafts_pins digest_of levels) in
      let f = count-append s id (groups_pins digest_of (now_of l)) (stands_pins digest_of (map now_of levels)) in
      let h = count-append s id (groups_pins digest_of (fresh_of l)) (drafts_pins digest_of levels) in
      omega (arith, a, b, c, d, e, f, h)

  -- Each pin is given if all are.
  pub levels-given : (v : CallerView) (levels : List (Level J V M)) → AreGiven v (stands_pins digest_of (map now_of levels) ++ drafts_pins digest_of levels) → AreGiven v (levels_pins digest_of levels)
  levels-given v levels given = go levels (given-left v (stands_pins digest_of (map now_of levels)) (drafts_pins digest_of levels) given) (given-right v (stands_pins digest_of (map now_of levels)) (drafts_pins digest_of levels) given)
    where
      go : (ls : List (Level J V M)) → AreGiven v (stands_pins digest_of (map now_of ls)) → AreGiven v (drafts_pins digest_of ls) → AreGiven v (levels_pins digest_of ls)
      go [] a b = tt
      go (l ∷ ls) a b =
          given-append v (level_pins digest_of l) (levels_pins digest_of ls)
          (given-append v (groups_pins digest_of (now_of l)) (groups_pins digest_of (fresh_of l)) (given-left v (groups_pins digest_of (now_of l)) (stands_pins digest_of (map now_of ls)) a) (given-left v (groups_pins digest_of (fresh_of l)) (drafts_pins digest_of ls) b))
          (go ls (given-right v (groups_pins digest_of (now_of l)) (stands_pins digest_of (map now_of ls)) a) (given-right v (groups_pins digest_of (fresh_of l)) (drafts_pins digest_of ls) b))

  pub levels-covered : (v : CallerView) (levels : List (Level J V M)) → Covered v (stands_pins digest_of (map now_of levels) ++ drafts_pins digest_of levels) → Covered v (levels_pins digest_of levels)
  levels-covered v levels c = covered-order v (stands_pins digest_of (map now_of levels) ++ drafts_pins digest_of levels) (levels_pins digest_of levels) (λ s id. sym (levels-count s id levels)) (levels-given v levels c.given) c

  pub levels-balanced : (v w : CallerView) (old new : List (Level J V M)) → Balanced v (levels_pins digest_of old) w (levels_pins digest_of new) → Balanced v (stands_pins digest_of (map now_of old) ++ drafts_pins digest_of old) w (stands_pins digest_of (map now_of new) ++ drafts_pins digest_of new)
  levels-balanced v w old new b =
      balanced-order v w (stands_pins digest_of (map now_of old) ++ drafts_pins digest_of old) (levels_pins digest_of new) (stands_pins digest_of (map now_of new) ++ drafts_pins digest_of new) (λ s id. levels-count s id new)
      (balanced-from v w (stands_pins digest_of (map now_of old) ++ drafts_pins digest_of old) (levels_pins digest_of old) (levels_pins digest_of new) (λ s id. sym (levels-count s id old)) b)

  -- Pins of groups that stay are given if those of all are.
  given-take : (v : CallerView) (n : ℕ) (gs : List (Group J V M)) → AreGiven v (groups_pins digest_of gs) → AreGiven v (groups_pins digest_of (take n gs))
  given-take v n gs g =
      given-left v (groups_pins digest_of (take n gs)) (groups_pins digest_of (drop n gs))
      (subst (AreGiven v) (ap (groups_pins digest_of) (sym (take-append-drop n gs)) ∙ pins-append (take n gs) (drop n gs)) g)

  given-drop : (v : CallerView) (n : ℕ) (gs : List (Group J V M)) → AreGiven v (groups_pins digest_of gs) → AreGiven v (groups_pins digest_of (drop n gs))
  given-drop v n gs g =
      given-right v (groups_pins digest_of (take n gs)) (groups_pins digest_of (drop n gs))
      (subst (AreGiven v) (ap (groups_pins digest_of) (sym (take-append-drop n gs)) ∙ pins-append (take n gs) (drop n gs)) g)

  given-taken : (v : CallerView) (l : Level J V M) → AreGiven v (level_pins digest_of l) → AreGiven v (groups_pins digest_of (taken l))
  given-taken v l g =
      let old = given-left v (groups_pins digest_of (now_of l)) (groups_pins digest_of (fresh_of l)) g in
      let new = given-right v (groups_pins digest_of (now_of l)) (groups_pins digest_of (fresh_of l)) g in
      let front = take l.draft.first (now_of l) in
      let back = drop (l.draft.first + l.draft.gone) (now_of l) in
      subst (AreGiven v) (sym (pins-append front (fresh_of l ++ back)))
      (given-append v (groups_pins digest_of front) (groups_pins digest_of (fresh_of l ++ back)) (given-take v l.draft.first (now_of l) old)
      (subst (AreGiven v) (sym (pins-append (fresh_of l) back))
      (given-append v (groups_pins digest_of (fresh_of l)) (groups_pins digest_of back) new (given-drop v (l.draft.first + l.draft.gone) (now_of l) old))))

  -- The same for those of a settled tree.
  pub levels-taken : (v : CallerView) (levels : List (Level J V M)) → AreGiven v (levels_pins digest_of levels) → AreGiven v (stands_pins digest_of (map taken levels))
  levels-taken v [] g = tt
  levels-taken v (l ∷ levels) g =
      given-append v (groups_pins digest_of (taken l)) (stands_pins digest_of (map taken levels))
      (given-taken v l (given-left v (level_pins digest_of l) (levels_pins digest_of levels) g))
      (levels-taken v levels (given-right v (level_pins digest_of l) (levels_pins digest_of levels) g))
