-- Levels that are written one after the other, with their pins and their room.
use Rattle.std.proofs.Common.{◌≡◌, inl, inr, ℕ, ◌+◌, ◌-◌, ◌<◌, ◌≤◌, arith, sym, ap, ◌∙◌, subst, List, [], ◌∷◌, ◌++◌, length, set, get_or, append_assoc, Some}
use Rattle.std.specs.List.{slice_get}
use Rattle.std.specs.VecDeque.{deque_capacity}
use Rattle.std.proofs.lemmas.Bool.{cases_eq}
use Rattle.std.proofs.lemmas.Option.{slice_get_within}
use Rattle.pin_table.specs.Views.{CallerView}
use Rattle.pin_table.specs.Covers.{PinName, AreGiven, Covered, Balanced, count}
use Rattle.pin_table.proofs.Covering.{covered-left, covered-right, count-append, count-swap, balanced-from, given-append, given-left, given-right}
use Rattle.tree_laws.specs.Pairs.{PairOf}
use Rattle.folding_tree.specs.declared.level.Level.{Level}
use Rattle.folding_tree.specs.declared.draft.Draft.{Draft}
use Rattle.folding_tree.specs.declared.part.Part.{Part}
use Rattle.folding_tree.specs.Levels.{part_pins, parts_pins}
use Rattle.folding_tree.specs.Folding.{HaveRoom, levels_pins}
use Rattle.tree_laws.specs.Trades.{Trades}
use Rattle.tree_laws.proofs.TradeLaws.{trades-then, trades-first, trades-before, trades-beside, trades-between, covered-between}
use Rattle.folding_tree.proofs.ListLaws.{get-set_same, get-set_other, get-append_left}
use Rattle.folding_tree.proofs.PartLaws.{pins-set}
use Rattle.folding_tree.proofs.LevelLaws.{levels-split}

module _ {J V M : Type 0} where
  -- Room that is left if one level is written that has no draft.
  pub room-kept : (levels : List (Level J V M)) (drafts fewer : List (Draft J V M)) (k : ℕ) (m : Level J V M) → ((i : ℕ) (d : Draft J V M) → slice_get fewer i ≡ Some d → (i ≡ k → ⊥) × (slice_get drafts i ≡ Some d)) → HaveRoom levels drafts → HaveRoom (set levels k m) fewer
  room-kept levels drafts fewer k m h room i level draft at in_drafts =
      let x = h i draft in_drafts in
      room i level draft (sym (get-set_other levels k i m x.0) ∙ at) x.1

  -- The drafts before the last one.
  pub drafts-fewer : (rest : List (Draft J V M)) (d : Draft J V M) (i : ℕ) (x : Draft J V M) → slice_get rest i ≡ Some x → (i ≡ length rest → ⊥) × (slice_get (rest ++ d ∷ []) i ≡ Some x)
  drafts-fewer rest d i x is =
      let lt = slice_get_within rest i x is in
      (λ e. omega (arith, e, lt), get-append_left rest (d ∷ []) i lt ∙ is)

module _ {J V M : Type 0} where
  -- Room in one level more.
  pub room-more : (levels : List (Level J V M)) (drafts : List (Draft J V M)) (k : ℕ) (l m : Level J V M) (d : Draft J V M) → slice_get levels k ≡ Some l → slice_get drafts k ≡ Some d → d.high - d.low ≤ deque_capacity m.nodes
      → ((i : ℕ) (level : Level J V M) (draft : Draft J V M) → i < k → slice_get levels i ≡ Some level → slice_get drafts i ≡ Some draft → draft.high - draft.low ≤ deque_capacity level.nodes)
      → (i : ℕ) (level : Level J V M) (draft : Draft J V M) → i < k + 1 → slice_get (set levels k m) i ≡ Some level → slice_get drafts i ≡ Some draft → draft.high - draft.low ≤ deque_capacity level.nodes
  room-more levels drafts k l m d at_level at_draft room old i level draft lt in_levels in_drafts = elim (cases_eq i k) [
    | inl e ↦
        let inside = slice_get_within levels k l at_level in
        let same_level : m ≡ level = (let some : Some m ≡ Some level = sym (ap (slice_get (set levels k m)) e ∙ get-set_same levels k m inside) ∙ in_levels in cc) in
        let same_draft : d ≡ draft = (let some : Some d ≡ Some draft = sym at_draft ∙ sym (ap (slice_get drafts) e) ∙ in_drafts in cc) in
        subst (λ (x : Draft J V M). x.high - x.low ≤ deque_capacity level.nodes) same_draft (subst (λ (x : Level J V M). d.high - d.low ≤ deque_capacity x.nodes) same_level room)
    | inr off ↦ old i level draft (omega (arith, lt, off)) (sym (get-set_other levels k i m off) ∙ in_levels) in_drafts
  ]

module _ {J V M : Type 0} (digest_of : PairOf V → List ℕ) (v w : CallerView) (levels : List (Level J V M)) (k : ℕ) (l : Level J V M) (is : slice_get levels k ≡ Some l) where
  -- One level's nodes and its draft are replaced by others.
  pub levels-trade : (m : Level J V M) (cs ds : List PinName) → Trades v (parts_pins digest_of l.nodes.items ++ ds) w (parts_pins digest_of m.nodes.items) → Trades v (levels_pins digest_of levels ++ (cs ++ ds)) w (levels_pins digest_of (set levels k m) ++ cs)
  levels-trade m cs ds t =
      let s = levels-split digest_of levels k l is in
      subst (λ (x : List PinName). Trades v (x ++ (cs ++ ds)) w (levels_pins digest_of (set levels k m) ++ cs)) (sym s.2)
      (subst (λ (y : List PinName). Trades v ((s.0 ++ (parts_pins digest_of l.nodes.items ++ s.1)) ++ (cs ++ ds)) w (y ++ cs)) (sym (s.3 m))
      (trades-between v w s.0 (parts_pins digest_of l.nodes.items) s.1 cs ds (parts_pins digest_of m.nodes.items) t))

  pub levels-cover : (cs ds : List PinName) → Covered v (levels_pins digest_of levels ++ (cs ++ ds)) → Covered v (parts_pins digest_of l.nodes.items ++ ds)
  levels-cover cs ds c =
      let s = levels-split digest_of levels k l is in
      covered-between v s.0 (parts_pins digest_of l.nodes.items) s.1 cs ds (subst (λ (x : List PinName). Covered v (x ++ (cs ++ ds))) s.2 c)

  -- One level's nodes leave.
  pub levels-clear : (m : Level J V M) (cs : List PinName) → Trades v (parts_pins digest_of l.nodes.items) w (parts_pins digest_of m.nodes.items) → Trades v (levels_pins digest_of levels ++ cs) w (levels_pins digest_of (set levels k m) ++ cs)
  levels-clear m cs t =
      let s = levels-split digest_of levels k l is in
      subst (λ (x : List PinName). Trades v (x ++ cs) w (levels_pins digest_of (set levels k m) ++ cs)) (sym s.2)
      (subst (λ (y : List PinName). Trades v ((s.0 ++ (parts_pins digest_of l.nodes.items ++ s.1)) ++ cs) w (y ++ cs)) (sym (s.3 m))
      (trades-before v w cs (s.0 ++ (parts_pins digest_of l.nodes.items ++ s.1)) (s.0 ++ (parts_pins digest_of m.nodes.items ++ s.1))
      (trades-beside v w s.0 (parts_pins digest_of l.nodes.items ++ s.1) (parts_pins digest_of m.nodes.items ++ s.1) (trades-before v w s.1 (parts_pins digest_of l.nodes.items) (parts_pins digest_of m.nodes.items) t))))

  pub levels-own : (cs : List PinName) → Covered v (levels_pins digest_of levels ++ cs) → Covered v (parts_pins digest_of l.nodes.items)
  levels-own cs c =
      let s = levels-split digest_of levels k l is in
      let all : Covered v (s.0 ++ (parts_pins digest_of l.nodes.items ++ s.1)) = subst (Covered v) s.2 (covered-left v (levels_pins digest_of levels) cs c) in
      covered-left v (parts_pins digest_of l.nodes.items) s.1 (covered-right v s.0 (parts_pins digest_of l.nodes.items ++ s.1) all)

-- The steps of one level: its first nodes leave, then its last ones, then changed ones come, then the fresh ones.
pub level-trade : (t u v w : CallerView) (ps qs rs ss cs fs : List PinName) → Trades t ps u qs → Trades u qs v rs → Trades v (rs ++ cs) w ss → Trades t (ps ++ (cs ++ fs)) w (ss ++ fs)
level-trade t u v w ps qs rs ss cs fs a b c =
    let one = trades-before t u (cs ++ fs) ps qs a in
    let two = trades-before u v (cs ++ fs) qs rs b in
    let three = trades-before v w fs (rs ++ cs) ss c in
    let e = append_assoc rs cs fs in
    trades-then t u w (ps ++ (cs ++ fs)) (qs ++ (cs ++ fs)) (ss ++ fs) one
    (trades-then u v w (qs ++ (cs ++ fs)) (rs ++ (cs ++ fs)) (ss ++ fs) two (subst (λ (xs : List PinName). Trades v xs w (ss ++ fs)) e three))

-- The same pins in another order.
trades-from : (v w : CallerView) (ps qs rs : List PinName) → ((s id : ℕ) → count s id ps ≡ count s id qs) → (AreGiven v ps → AreGiven v qs) → Trades v qs w rs → Trades v ps w rs
trades-from v w ps qs rs same given t = record { balanced = balanced-from v w ps qs rs same t.balanced; given = λ g. t.given (given g) }

module _ {J V M : Type 0} (digest_of : PairOf V → List ℕ) where
  -- One node is replaced by the next of some others.
  pub exchange-trade : (v w : CallerView) (xs : List (Part J V M)) (i : ℕ) (old new : Part J V M) → i < length xs → old ≡ get_or xs i old → (news rest : List (Part J V M)) → news ≡ new ∷ rest → ((ps : List PinName) → Balanced v (part_pins digest_of old ++ ps) w ps)
      → Trades v (parts_pins digest_of xs ++ parts_pins digest_of news) w (parts_pins digest_of (set xs i new) ++ parts_pins digest_of rest)
  exchange-trade v w xs i old new lt is news rest split gone =
      let s = pins-set digest_of xs i old new lt is in
      let os = part_pins digest_of old in
      let ns = part_pins digest_of new in
      let rs = parts_pins digest_of rest in
      let one : Trades v ((s.0 ++ (os ++ s.1)) ++ (rs ++ ns)) w ((s.0 ++ (ns ++ s.1)) ++ rs) = trades-between v w s.0 os s.1 rs ns ns (trades-first v w os ns gone) in
      let two : Trades v ((s.0 ++ (os ++ s.1)) ++ (ns ++ rs)) w ((s.0 ++ (ns ++ s.1)) ++ rs) =
      trades-from v w ((s.0 ++ (os ++ s.1)) ++ (ns ++ rs)) ((s.0 ++ (os ++ s.1)) ++ (rs ++ ns)) ((s.0 ++ (ns ++ s.1)) ++ rs)
      (λ x id. let a = count-append x id (s.0 ++ (os ++ s.1)) (ns ++ rs) in let b = count-append x id (s.0 ++ (os ++ s.1)) (rs ++ ns) in let c = count-swap x id ns rs in omega (arith, a, b, c))
      (λ g.
      let front = given-left v (s.0 ++ (os ++ s.1)) (ns ++ rs) g in
      let back = given-right v (s.0 ++ (os ++ s.1)) (ns ++ rs) g in
      given-append v (s.0 ++ (os ++ s.1)) (rs ++ ns) front (given-append v rs ns (given-right v ns rs back) (given-left v ns rs back)))
      one in
      subst (λ (ps : List PinName). Trades v (ps ++ parts_pins digest_of news) w (parts_pins digest_of (set xs i new) ++ rs)) (sym s.2)
      (subst (λ (ps : List (Part J V M)). Trades v ((s.0 ++ (os ++ s.1)) ++ parts_pins digest_of ps) w (parts_pins digest_of (set xs i new) ++ rs)) (sym split)
      (subst (λ (qs : List PinName). Trades v ((s.0 ++ (os ++ s.1)) ++ (ns ++ rs)) w (qs ++ rs)) (sym s.3) two))

  pub exchange-cover : (v : CallerView) (xs : List (Part J V M)) (i : ℕ) (old : Part J V M) → i < length xs → old ≡ get_or xs i old → (cs : List PinName) → Covered v (parts_pins digest_of xs ++ cs) → Covered v (part_pins digest_of old)
  exchange-cover v xs i old lt is cs c =
      let s = pins-set digest_of xs i old old lt is in
      let os = part_pins digest_of old in
      let all : Covered v (s.0 ++ (os ++ s.1)) = subst (Covered v) s.2 (covered-left v (parts_pins digest_of xs) cs c) in
      covered-left v os s.1 (covered-right v s.0 (os ++ s.1) all)
