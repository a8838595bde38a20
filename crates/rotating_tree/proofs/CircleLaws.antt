-- A circle from one call to the next.
use Rattle.std.proofs.Common.{◌≡◌, ◌⊎◌, inl, inr, ℕ, suc, zero, ◌+◌, ◌-◌, ◌*◌, ◌<◌, ◌≤◌, ◌^◌, arith, sym, ap, ◌∙◌, List, [], ◌∷◌, ◌++◌, length, length-append, length-drop, refl, subst, Option, Some, None, take, drop, map}
use Rattle.std.proofs.lemmas.List.{append-nil, drop_all, nil_from_length, length-map, map-append, drop-map}
use Rattle.std.specs.Prelude.{All}
use Rattle.sheets.specs.Sheets.{SheetOf}
use Rattle.sheets.specs.United.{tables_of}
use Rattle.record_text.specs.Shifts.{put_at}
use Rattle.definitions.specs.Tables.{IsGoodJoin}
use Rattle.tree_laws.specs.Pairs.{PairOf}
use Rattle.tree_laws.specs.Trees.{IsLeaf, IsWithin, IsMergeOver}
use Rattle.rotating_tree.specs.declared.node.Node.{Node}
use Rattle.rotating_tree.specs.declared.standing.Standing.{Standing}
use Rattle.rotating_tree.specs.Nodes.{AllSome, IsSound, IsEven, IsSettled, IsMarked, undrafted, taken, size, height, now_of, node_pins}
use Rattle.rotating_tree.specs.Nodes.{places as places_of}
use Rattle.rotating_tree.specs.Circles.{slots, with_fresh, advanced, voids, row, found, window, IsTurn, IsAdvanced, IsRow, IsCircle, draft_of}
use Rattle.rotating_tree.proofs.NodeLaws.{settled-undrafted, size-kept, even-kept, length-places, size-taken, size-undrafted, height-kept, height-undrafted, height-taken, even_down, even_taken, taken_undrafted, taken_settled, undrafted_twice, undrafted_settled, now-undrafted}
use Rattle.rotating_tree.proofs.RowLaws.{advanced_row, late_length, map-late, take_voids, drop_voids}
use Rattle.rotating_tree.proofs.SlotLaws.{length_slots, slots_turn}
use Rattle.rotating_tree.proofs.FoundLaws.{found-row, found-voids, found-slots, all-voids, within-row}
use Rattle.rotating_tree.proofs.LooseLaws.{enough-few, pins-few}
use Rattle.rotating_tree.proofs.RootLaws.{circle-merge}

-- A window all of whose leaves are fresh.
all_fresh : {X : Type 0} (n gone : ℕ) (late : List ℕ) (again fresh leaves : List X) (slots_now : List (Option X)) → length slots_now ≡ n → length fresh ≡ n → length leaves - gone + length fresh ≤ n → All (λ p. p < length leaves - gone) late → with_fresh (length leaves - gone) fresh (put_at late (map Some again) slots_now) ≡ row n (put_at late again (drop gone leaves) ++ fresh)
all_fresh {X} n gone [] again fresh leaves slots_now size all room places =
    let none : length leaves - gone ≡ 0 = omega (arith, all, room) in
    let nil : drop gone leaves ≡ [] = nil_from_length (drop gone leaves) (length-drop gone leaves ∙ none) in
    let over : drop (length fresh) slots_now ≡ [] = drop_all (length fresh) slots_now (omega (arith, size, all)) in
    let rest : n - length fresh ≡ 0 = omega (arith, all) in
    ap (λ k. take k slots_now ++ map Some fresh ++ drop (k + length fresh) slots_now) none
    ∙ ap (λ k. map Some fresh ++ drop k slots_now) (omega arith)
    ∙ ap (λ ys. map Some fresh ++ ys) (over ∙ sym (ap (voids {X = X}) rest))
    ∙ sym (ap (λ l. row n (l ++ fresh)) nil)
all_fresh n gone (p ∷ late) again fresh leaves slots_now size all room places = absurd (omega (arith, all, room, places 0 0 (omega arith)))

-- None, or some.
some_or_none : (k : ℕ) → (k ≡ 0) ⊎ (0 < k)
some_or_none zero = inl refl
some_or_none (suc k) = inr (omega arith)

module _ {J V M : Type 0} (good : ℕ → V → Type 0) (joined : ℕ → V → V → V) (setting n width : ℕ) where
  module _ (at next : Standing) (gone kept came : ℕ) (changed : List ℕ) (news : List (SheetOf V)) (node0 : Node J V M) (circle : IsCircle good joined setting n width at None node0)
      (kept_is : kept ≡ at.count - gone) (within : gone ≤ at.count) (news_are : length news ≡ length changed + came) (below : All (λ p. p < at.count - gone) changed)
      (fits : at.count - gone + came ≤ n) (full : 0 < gone → at.count - gone + came ≡ n) (turn : IsTurn n at.start gone next.start came) where
    abbrev leaves : List (SheetOf V)
    leaves = window n at (undrafted node0)

    abbrev fresh : List (SheetOf V)
    fresh = drop (length changed) news

    abbrev after : List (SheetOf V)
    after = put_at changed news (drop gone leaves) ++ fresh

    plain : undrafted node0 ≡ node0
    plain = settled-undrafted node0 circle.next

    long : n ≤ length (places_of node0)
    long = omega (arith, length-places node0, circle.wide, circle.fits)

    counted : at.count ≡ length leaves
    counted = circle.now.count_is

    fresh_are : length fresh ≡ came
    fresh_are = length-drop (length changed) news ∙ omega (arith, news_are)

    before : slots n at.start (places_of node0) ≡ row n leaves
    before = ap (λ m. slots n at.start (places_of m)) (sym plain) ∙ circle.now.row_is

    few : length leaves ≤ n
    few = omega (arith, counted, circle.now.few)

    gone_within : gone ≤ length leaves
    gone_within = omega (arith, counted, within)

    room : length leaves - gone + length fresh ≤ n
    room = omega (arith, counted, fresh_are, fits)

    kept_are : kept ≡ length leaves - gone
    kept_are = omega (arith, kept_is, counted)

    places_below : All (λ p. p < length leaves - gone) changed
    places_below = λ k d lt. omega (arith, below k d lt, counted)

    deeper : All (λ p. p < length (drop gone leaves)) changed
    deeper = λ k d lt. omega (arith, places_below k d lt, length-drop gone leaves)

    all_taken : (gone ≡ 0) ⊎ (length leaves - gone + length fresh ≡ n)
    all_taken = elim (some_or_none gone) [
      | inl z ↦ inl z
      | inr some ↦ inr (omega (arith, counted, fresh_are, full some))
    ]

    turned : (next.start ≡ at.start + gone) ⊎ (next.start + n ≡ at.start + gone) → advanced kept changed news (slots n next.start (places_of node0)) ≡ row n after
    turned way =
        ap (λ k. advanced k changed news (slots n next.start (places_of node0))) kept_are
        ∙ ap (advanced (length leaves - gone) changed news) (slots_turn n at.start gone next.start (places_of node0) long circle.now.within (omega (arith, gone_within, few)) turn.0 way ∙ ap (λ r. drop gone r ++ take gone r) before)
        ∙ advanced_row n gone changed news (drop (length changed) news) leaves few gone_within deeper all_taken room

    renewed : came ≡ n → advanced kept changed news (slots n next.start (places_of node0)) ≡ row n after
    renewed all =
        ap (λ k. advanced k changed news (slots n next.start (places_of node0))) kept_are
        ∙ all_fresh n gone changed news (drop (length changed) news) leaves (slots n next.start (places_of node0)) (length_slots n next.start (places_of node0) long (omega (arith, turn.0))) (fresh_are ∙ all) room places_below

    -- The slots of the draft are the row of the shifted leaves.
    pub slots-ahead : advanced kept changed news (slots n next.start (places_of node0)) ≡ row n (put_at changed news (drop gone (window n at (undrafted node0))) ++ drop (length changed) news)
    slots-ahead = elim turn.1 [
      | inl e ↦ turned (inl e)
      | inr o ↦ elim o [ inl e ↦ turned (inr e) | inr all ↦ renewed all ]
    ]

    -- The shifted leaves have the shifted tables.
    pub tables-ahead : tables_of (put_at changed news (drop gone (window n at (undrafted node0))) ++ drop (length changed) news) ≡ put_at changed (tables_of news) (drop gone (tables_of (window n at (undrafted node0)))) ++ drop (length changed) (tables_of news)
    tables-ahead =
        let entries : SheetOf V → List (List ℕ × V) = λ s. s.entries in
        map-append entries (put_at changed news (drop gone leaves)) fresh
        ∙ ap (λ ys. ys ++ map entries fresh) (map-late entries changed news (drop gone leaves) ∙ ap (put_at changed (map entries news)) (sym (drop-map entries gone leaves)))
        ∙ ap (λ ys. put_at changed (map entries news) (drop gone (map entries leaves)) ++ ys) (sym (drop-map entries (length changed) news))

    -- Each key of a place of the draft is in the shifted tables.
    pub within-ahead : AllSome (λ (s : SheetOf V). IsWithin s.entries (put_at changed (tables_of news) (drop gone (tables_of (window n at (undrafted node0)))) ++ drop (length changed) (tables_of news))) (advanced kept changed news (slots n next.start (places_of node0)))
    within-ahead =
        subst (AllSome (λ (s : SheetOf V). IsWithin s.entries (put_at changed (tables_of news) (drop gone (tables_of leaves)) ++ drop (length changed) (tables_of news)))) (sym slots-ahead)
        (subst (λ (ts : List (List (List ℕ × V))). AllSome (λ (s : SheetOf V). IsWithin s.entries ts) (row n after)) tables-ahead (within-row n after))

    pub within-behind : (ts : List (List (List ℕ × V))) → AllSome (λ (s : SheetOf V). IsWithin s.entries ts) (drop n (places_of node0))
    within-behind ts = subst (AllSome (λ (s : SheetOf V). IsWithin s.entries ts)) (sym (ap (λ m. drop n (places_of m)) (sym plain) ∙ circle.now.rest)) (all-voids (λ (s : SheetOf V). IsWithin s.entries ts) (width - n))

    size_after : length after ≡ kept + came
    size_after = length-append (put_at changed news (drop gone leaves)) fresh ∙ omega (arith, late_length changed news (drop gone leaves), length-drop gone leaves, fresh_are, kept_are)

    module _ (node1 : Node J V M) (ahead : IsAdvanced good joined setting n next.start kept changed news node0 node1) where
      slots_after : slots n next.start (places_of (taken node1)) ≡ row n after
      slots_after = ahead.slots_are ∙ slots-ahead

      -- The leaves of the draft are the shifted ones.
      pub window-after : window n next (taken node1) ≡ put_at changed news (drop gone (window n at (undrafted node0))) ++ drop (length changed) news
      window-after = ap found slots_after ∙ found-row n after

      pub tables-after : tables_of (window n next (taken node1)) ≡ put_at changed (tables_of news) (drop gone (tables_of (window n at (undrafted node0)))) ++ drop (length changed) (tables_of news)
      tables-after = ap tables_of window-after ∙ tables-ahead

      level : undrafted node1 ≡ undrafted node0
      level = ahead.same ∙ sym plain

      -- The circle has its draft.
      pub circle-advances : next.count ≡ kept + came → IsCircle good joined setting n width at (Some next) node1
      circle-advances count_is = record {
        wide = circle.wide ∙ sym (size-kept node1 node0 level);
        fits = circle.fits;
        even = even-kept node1 node0 level circle.even;
        low = subst (λ h. 2 ^ h < 2 * n) (sym (height-kept node1 node0 level)) circle.low;
        now = subst (IsRow good joined setting n width at) (sym level) circle.now;
        next = (
          ahead.marked,
          record {
            sound = ahead.sound;
            leaves_are = ahead.leaves_are;
            within = turn.0;
            count_is = count_is ∙ sym size_after ∙ sym (ap length window-after);
            few = omega (arith, count_is, kept_is, fits);
            row_is = slots_after ∙ ap (row n) (sym window-after);
            rest = ahead.rest ∙ ap (λ m. drop n (places_of m)) (sym plain) ∙ circle.now.rest;
          },
        );
      }

  pub no-draft : (draft : Option Standing) (node : Node J V M) → draft_of n draft node ≡ None → draft ≡ None
  no-draft None node e = refl
  no-draft (Some at) node e = absurd (let no : draft_of n (Some at) node ≡ None = e in cc)

  pub circle-settles : (at next : Standing) (node : Node J V M) → IsCircle good joined setting n width at (Some next) node → IsCircle good joined setting n width next None (taken node)
  circle-settles at next node circle = record {
    wide = circle.wide ∙ sym (size-taken node);
    fits = circle.fits;
    even = even_taken node circle.even;
    low = subst (λ h. 2 ^ h < 2 * n) (sym (height-taken node)) circle.low;
    now = subst (IsRow good joined setting n width next) (sym (taken_undrafted node)) circle.next.1;
    next = taken_settled node;
  }

  pub circle-drops : (at : Standing) (draft : Option Standing) (node : Node J V M) → IsCircle good joined setting n width at draft node → IsCircle good joined setting n width at None (undrafted node)
  circle-drops at draft node circle = record {
    wide = circle.wide ∙ sym (size-undrafted node);
    fits = circle.fits;
    even = even_down node circle.even;
    low = subst (λ h. 2 ^ h < 2 * n) (sym (height-undrafted node)) circle.low;
    now = subst (IsRow good joined setting n width at) (sym (undrafted_twice node)) circle.now;
    next = undrafted_settled node;
  }

  -- A circle with a draft can be settled or reverted.
  pub circle-marked : (at next : Standing) (node : Node J V M) → IsCircle good joined setting n width at (Some next) node → IsMarked node
  circle-marked at next node circle = circle.next.0

  pub circle-sound : (at : Standing) (node : Node J V M) → IsCircle good joined setting n width at None node → IsSound joined node
  circle-sound at node circle = subst (IsSound joined) (settled-undrafted node circle.next) circle.now.sound

  pub circle-leaves : (at : Standing) (node : Node J V M) → IsCircle good joined setting n width at None node → AllSome (IsLeaf good setting) (places_of node)
  circle-leaves at node circle = subst (λ m. AllSome (IsLeaf good setting) (places_of m)) (settled-undrafted node circle.next) circle.now.leaves_are

  -- Without a draft there are fewer pins than leaves.
  pub circle-few : (digest_of : PairOf V → List ℕ) (at : Standing) (node : Node J V M) → IsCircle good joined setting n width at None node → length (node_pins digest_of node) ≤ length (tables_of (window n at (undrafted node))) - 1
  circle-few digest_of at node circle =
      let plain : undrafted node ≡ node = settled-undrafted node circle.next in
      let few = enough-few (now_of node) (length (node_pins digest_of node)) (length (found (places_of node))) (pins-few digest_of joined node circle.next (circle-sound at node circle)) in
      let rest : drop n (places_of node) ≡ voids (width - n) = ap (λ m. drop n (places_of m)) (sym plain) ∙ circle.now.rest in
      let same : length (window n at (undrafted node)) ≡ length (found (places_of node)) = ap (λ m. length (window n at m)) plain ∙ found-slots n at.start (width - n) (places_of node) (omega (arith, circle.now.within)) rest in
      let mapped : length (tables_of (window n at (undrafted node))) ≡ length (window n at (undrafted node)) = length-map (window n at (undrafted node)) (λ s. s.entries) in
      omega (arith, few, same, mapped)

  -- The root is the merge of the leaves.
  pub circle-root : (laws : IsGoodJoin (good setting) (joined setting)) → ((a b : V) → good setting a → good setting b → joined setting a b ≡ joined setting b a) → (at : Standing) (draft : Option Standing) (node : Node J V M) → IsCircle good joined setting n width at draft node → IsMergeOver joined setting (tables_of (window n at (undrafted node))) (now_of node)
  circle-root laws comm at draft node circle =
      subst (IsMergeOver joined setting (tables_of (window n at (undrafted node)))) (now-undrafted node)
      (circle-merge good joined setting laws comm n at.start (width - n) (undrafted node) (omega (arith, circle.now.within)) circle.now.rest circle.now.sound circle.now.leaves_are)

  -- A tree of void places is a circle without leaves.
  module _ (at : Standing) (h : ℕ) (node : Node J V M) (start_is : at.start ≡ 0) (count_is : at.count ≡ 0) (some : 0 < n) (enough : n ≤ width) (least : width < 2 * n) (power : width ≡ 2 ^ h)
      (tall : height node ≡ h) (wide : size node ≡ 2 ^ h) (void : places_of node ≡ voids (2 ^ h)) (even : IsEven node) (settled : IsSettled node) (sound : IsSound joined node) where
    clear : slots n at.start (places_of (undrafted node)) ≡ voids n
    clear =
        ap (λ s. slots n s (places_of (undrafted node))) start_is
        ∙ ap (λ m. slots n 0 (places_of m)) (settled-undrafted node settled) ∙ append-nil (take n (places_of node)) ∙ ap (take n) void ∙ take_voids (SheetOf V) n (2 ^ h) (omega (arith, enough, power))

    pub window-starts : window n at (undrafted node) ≡ []
    window-starts = ap found clear ∙ found-voids (SheetOf V) n

    pub circle-starts : IsCircle good joined setting n width at None node
    circle-starts =
        let plain : undrafted node ≡ node = settled-undrafted node settled in
        let nought : n - 0 ≡ n = omega arith in
        record {
          wide = power ∙ sym wide;
          fits = enough;
          even = even;
          low = omega (arith, least, power, ap (λ k. 2 ^ k) tall);
          now = record {
            sound = subst (IsSound joined) (sym plain) sound;
            leaves_are = subst (λ m. AllSome (IsLeaf good setting) (places_of m)) (sym plain) (subst (AllSome (IsLeaf good setting)) (sym void) (all-voids (IsLeaf good setting) (2 ^ h)));
            within = omega (arith, start_is, some);
            count_is = count_is ∙ sym (ap length window-starts);
            few = omega (arith, count_is);
            row_is = clear ∙ sym (ap (voids {X = SheetOf V}) nought) ∙ ap (row n) (sym window-starts);
            rest = ap (λ m. drop n (places_of m)) plain ∙ ap (drop n) void ∙ drop_voids (SheetOf V) n (2 ^ h) ∙ ap (λ w. voids {X = SheetOf V} (w - n)) (sym power);
          };
          next = settled;
        }
