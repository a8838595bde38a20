-- Trees and their drafts: what stays when drafts are put in, made, taken or dropped.
use Rattle.std.proofs.Common.{◌≡◌, ℕ, ◌+◌, ◌*◌, ◌<◌, ◌≤◌, arith, sym, ap, ◌∙◌, length, length-append, refl, subst, Option, None, true, false, true≢false, Box, Global}
use Rattle.std.proofs.Math.Nat.{mul-le-mul_left}
use Rattle.sheets.specs.Sheets.{SheetOf}
use Rattle.rotating_tree.specs.declared.part.Part.{Part}
use Rattle.rotating_tree.specs.declared.part.Part.TheVariants.{Void}
use Rattle.rotating_tree.specs.declared.draft.Draft.{Draft}
use Rattle.rotating_tree.specs.declared.draft.Draft.TheVariants.{Same, Due, New}
use Rattle.rotating_tree.specs.declared.node.Node.{Node, Leaf, Fork'}
use Rattle.rotating_tree.specs.Nodes.{IsPlain, IsJoined, IsEven, IsSound, IsStaged, IsMarked, IsSettled, undrafted, taken, places, size, height, drafts, now_of, next_by, stays, is_due, due_by, StagedBy, MarkedBy}

module _ {J V M : Type 0} where
  apart-new : (part : Part J V M) → New part ≡ Same → ⊥
  apart-new part e = let no : New part ≡ Same = e in cc

  apart-due : ◌≡◌ {A = Draft J V M} Due Same → ⊥
  apart-due e = let no : ◌≡◌ {A = Draft J V M} Due Same = e in cc

  -- A node over two void halves may be void.
  pub void-joined : (joined : ℕ → V → V → V) (l r : Node J V M) → now_of l ≡ None → now_of r ≡ None → IsJoined {J = J} {V = V} {M = M} joined (now_of l) (now_of r) Void
  void-joined joined l r a b = subst (λ (o : Option (SheetOf V)). IsJoined {J = J} {V = V} {M = M} joined o (now_of r) Void) (sym a) (subst (λ (o : Option (SheetOf V)). IsJoined {J = J} {V = V} {M = M} joined None o Void) (sym b) tt)

  -- A node, given by halves that equal its own.
  pub at-fork : (n l r l2 r2 : Node J V M) (p q : Box (Unit {0}) Global) (now : Part J V M) (draft : Draft J V M) → n ≡ Fork' p l q r now draft → l2 ≡ l → r2 ≡ r → n ≡ Fork' p l2 q r2 now draft
  at-fork n l r l2 r2 p q now draft is a b = is ∙ ap (λ m. Fork' p m q r now draft) (sym a) ∙ ap (λ m. Fork' p l2 q m now draft) (sym b)

  -- As many places as its size.
  pub length-places : (n : Node J V M) → length (places n) ≡ size n
  length-places (Leaf now draft) = refl
  length-places (Fork' p l q r now draft) = length-append (places l) (places r) ∙ grind (arith, length-places l, length-places r)

  pub size-undrafted : (n : Node J V M) → size (undrafted n) ≡ size n
  size-undrafted (Leaf now draft) = refl
  size-undrafted (Fork' p l q r now draft) = grind (arith, size-undrafted l, size-undrafted r)

  pub size-taken : (n : Node J V M) → size (taken n) ≡ size n
  size-taken (Leaf now draft) = refl
  size-taken (Fork' p l q r now draft) = grind (arith, size-taken l, size-taken r)

  pub height-undrafted : (n : Node J V M) → height (undrafted n) ≡ height n
  height-undrafted (Leaf now draft) = refl
  height-undrafted (Fork' p l q r now draft) = grind (arith, height-undrafted l)

  pub height-taken : (n : Node J V M) → height (taken n) ≡ height n
  height-taken (Leaf now draft) = refl
  height-taken (Fork' p l q r now draft) = grind (arith, height-taken l)

  pub size-kept : (a b : Node J V M) → undrafted a ≡ undrafted b → size a ≡ size b
  size-kept a b e = sym (size-undrafted a) ∙ ap size e ∙ size-undrafted b

  pub height-kept : (a b : Node J V M) → undrafted a ≡ undrafted b → height a ≡ height b
  height-kept a b e = sym (height-undrafted a) ∙ ap height e ∙ height-undrafted b

  pub settled-undrafted : (n : Node J V M) → IsSettled n → undrafted n ≡ n
  settled-undrafted (Leaf now draft) s = ap (λ d. Leaf now d) (sym s)
  settled-undrafted (Fork' p l q r now draft) s = cc (settled-undrafted l s.0, settled-undrafted r s.1, s.2)

  pub settled-taken : (n : Node J V M) → IsSettled n → taken n ≡ n
  settled-taken (Leaf now Same) s = refl
  settled-taken (Leaf now Due) s = ap (λ d. Leaf now d) (sym s)
  settled-taken (Leaf now (New part)) s = absurd (apart-new part s)
  settled-taken (Fork' p l q r now Same) s = cc (settled-taken l s.0, settled-taken r s.1)
  settled-taken (Fork' p l q r now Due) s = absurd (apart-due s.2)
  settled-taken (Fork' p l q r now (New part)) s = absurd (apart-new part s.2)

  pub settled-staged : (n : Node J V M) → IsSettled n → IsStaged n
  settled-staged (Leaf now Same) s = tt
  settled-staged (Leaf now Due) s = absurd (apart-due s)
  settled-staged (Leaf now (New part)) s = absurd (apart-new part s)
  settled-staged (Fork' p l q r now Same) s = (s.0, s.1)
  settled-staged (Fork' p l q r now Due) s = absurd (apart-due s.2)
  settled-staged (Fork' p l q r now (New part)) s = absurd (apart-new part s.2)

  pub settled-marked : (n : Node J V M) → IsSettled n → IsMarked n
  settled-marked (Leaf now draft) s = tt
  settled-marked (Fork' p l q r now Same) s = (s.0, s.1)
  settled-marked (Fork' p l q r now Due) s = (settled-marked l s.0, settled-marked r s.1)
  settled-marked (Fork' p l q r now (New part)) s = (settled-marked l s.0, settled-marked r s.1)

  pub staged-marked : (n : Node J V M) → IsStaged n → IsMarked n
  staged-marked (Leaf now draft) s = tt
  staged-marked (Fork' p l q r now Same) s = s
  staged-marked (Fork' p l q r now Due) s = (staged-marked l s.0.0, staged-marked r s.0.1)
  staged-marked (Fork' p l q r now (New part)) s = absurd s

  pub settled-drafts : (n : Node J V M) → IsSettled n → drafts n ≡ 0
  settled-drafts (Leaf now Same) s = refl
  settled-drafts (Leaf now Due) s = refl
  settled-drafts (Leaf now (New part)) s = absurd (apart-new part s)
  settled-drafts (Fork' p l q r now draft) s = omega (arith, settled-drafts l s.0, settled-drafts r s.1)

  pub marked-stays : (n : Node J V M) → IsMarked n → stays n ≡ true → IsSettled n
  marked-stays (Leaf now Same) m e = refl
  marked-stays (Leaf now Due) m e = absurd (true≢false (sym e))
  marked-stays (Leaf now (New part)) m e = absurd (true≢false (sym e))
  marked-stays (Fork' p l q r now Same) m e = (m.0, m.1, refl)
  marked-stays (Fork' p l q r now Due) m e = absurd (true≢false (sym e))
  marked-stays (Fork' p l q r now (New part)) m e = absurd (true≢false (sym e))

  pub stays-taken : (n : Node J V M) → IsMarked n → stays n ≡ true → n ≡ taken n
  stays-taken n m e = sym (settled-taken n (marked-stays n m e))

  pub stays-undrafted : (n : Node J V M) → IsMarked n → stays n ≡ true → n ≡ undrafted n
  stays-undrafted n m e = sym (settled-undrafted n (marked-stays n m e))

  pub marked-below : (d : Draft J V M) (l r : Node J V M) → MarkedBy d (IsSettled l × IsSettled r) (IsMarked l × IsMarked r) → IsMarked l × IsMarked r
  marked-below Same l r m = (settled-marked l m.0, settled-marked r m.1)
  marked-below Due l r m = m
  marked-below (New part) l r m = m

  -- A draft of a place that is plain leaves it plain.
  pub plain-next : (now : Part J V M) (draft : Draft J V M) → IsStaged (Leaf now draft) → IsPlain now → IsPlain (next_by now draft)
  plain-next now Same s h = h
  plain-next now Due s h = h
  plain-next now (New part) s h = s

  -- If nothing is due below a staged node, its draft is as sound as it is.
  pub staged-sound : (joined : ℕ → V → V → V) (n : Node J V M) → IsStaged n → is_due n ≡ false → IsSound joined (undrafted n) → IsSound joined (taken n)
  staged-sound joined (Leaf now draft) s e h = plain-next now draft s h
  staged-sound joined (Fork' p l q r now Same) s e h = subst (IsSound joined) (settled-undrafted (Fork' p l q r now Same) (s.0, s.1, refl) ∙ sym (settled-taken (Fork' p l q r now Same) (s.0, s.1, refl))) h
  staged-sound joined (Fork' p l q r now Due) s e h = absurd (true≢false e)
  staged-sound joined (Fork' p l q r now (New part)) s e h = absurd s

  pub staged-below : (d : Draft J V M) (l r : Node J V M) (n : ℕ) → StagedBy d (IsSettled l × IsSettled r) (IsStaged l × IsStaged r) n → IsStaged l × IsStaged r
  staged-below Same l r n s = (settled-staged l s.0, settled-staged r s.1)
  staged-below Due l r n s = s.0
  staged-below (New part) l r n s = absurd s

  pub staged-due : (d : Draft J V M) (A B : Type 0) (n : ℕ) → StagedBy d A B n → due_by d ≡ true → B × (0 < n)
  staged-due Same A B n s e = absurd (true≢false (sym e))
  staged-due Due A B n s e = (s.0, s.1)
  staged-due (New part) A B n s e = absurd s

  pub even_down : (n : Node J V M) → IsEven n → IsEven (undrafted n)
  even_down (Leaf now draft) e = tt
  even_down (Fork' p l q r now draft) e = (even_down l e.0, even_down r e.1, size-undrafted l ∙ e.2 ∙ sym (size-undrafted r), height-undrafted l ∙ e.3 ∙ sym (height-undrafted r))

  even_up : (n : Node J V M) → IsEven (undrafted n) → IsEven n
  even_up (Leaf now draft) e = tt
  even_up (Fork' p l q r now draft) e = (even_up l e.0, even_up r e.1, sym (size-undrafted l) ∙ e.2 ∙ size-undrafted r, sym (height-undrafted l) ∙ e.3 ∙ height-undrafted r)

  pub even-kept : (a b : Node J V M) → undrafted a ≡ undrafted b → IsEven b → IsEven a
  even-kept a b e h = even_up a (subst IsEven (sym e) (even_down b h))

  pub even_taken : (n : Node J V M) → IsEven n → IsEven (taken n)
  even_taken (Leaf now draft) e = tt
  even_taken (Fork' p l q r now draft) e = (even_taken l e.0, even_taken r e.1, size-taken l ∙ e.2 ∙ sym (size-taken r), height-taken l ∙ e.3 ∙ sym (height-taken r))

  pub taken_undrafted : (n : Node J V M) → undrafted (taken n) ≡ taken n
  taken_undrafted (Leaf now draft) = refl
  taken_undrafted (Fork' p l q r now draft) = cc (taken_undrafted l, taken_undrafted r)

  pub taken_settled : (n : Node J V M) → IsSettled (taken n)
  taken_settled (Leaf now draft) = refl
  taken_settled (Fork' p l q r now draft) = (taken_settled l, taken_settled r, refl)

  pub undrafted_twice : (n : Node J V M) → undrafted (undrafted n) ≡ undrafted n
  undrafted_twice (Leaf now draft) = refl
  undrafted_twice (Fork' p l q r now draft) = cc (undrafted_twice l, undrafted_twice r)

  pub undrafted_settled : (n : Node J V M) → IsSettled (undrafted n)
  undrafted_settled (Leaf now draft) = refl
  undrafted_settled (Fork' p l q r now draft) = (undrafted_settled l, undrafted_settled r, refl)

  pub now-undrafted : (n : Node J V M) → now_of (undrafted n) ≡ now_of n
  now-undrafted (Leaf now draft) = refl
  now-undrafted (Fork' p l q r now draft) = refl

-- The merge of both halves is one more than what each cost.
pub fork-merges : (k k2 a b : ℕ) → k ≡ k2 → 0 < a + b → k * a + (k2 * b + 1) ≤ (k + 1) * (a + b)
fork-merges k k2 a b e some = grind (arith, ap (λ x. x * b) e)

-- What a tree costs after drafts at a number of places.
pub redraft-merges : (h h2 d0 d1 c : ℕ) → h2 ≡ h → d0 ≡ 0 → d1 ≤ d0 + c → h2 * d1 ≤ h * c
redraft-merges h h2 d0 d1 c same none few =
    let k : d1 ≤ c = omega (arith, none, few) in
    let p : h * d1 ≤ h * c = mul-le-mul_left h k in
    omega (arith, p, ap (λ n. n * d1) same)
