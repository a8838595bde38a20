-- A node made again from its halves: its pins, its merges, and whether it is loose.
use Rattle.std.proofs.Common.{◌≡◌, ◌⊎◌, inl, inr, ℕ, ◌+◌, ◌*◌, ◌<◌, ◌≤◌, ◌||◌, arith, sym, ap, ◌∙◌, List, [], ◌++◌, subst, true, false, Bool}
use Rattle.std.proofs.Math.Nat.{mul-le-mul_right}
use Rattle.job_laws.specs.declared.meter.Counts.{Counts}
use Rattle.job_laws.specs.Counted.{RoseBy}
use Rattle.job_laws.proofs.CountLaws.{rose_then, rose_more}
use Rattle.pin_table.specs.Views.{CallerView}
use Rattle.pin_table.specs.Covers.{PinName, IsLater}
use Rattle.pin_table.specs.OwnEvents.{Met}
use Rattle.pin_table.proofs.Covering.{later-then}
use Rattle.pin_table.proofs.OwnEvents.{any-met-later, any-met-before}
use Rattle.tree_laws.specs.Pairs.{PairOf}
use Rattle.rotating_tree.specs.declared.part.Part.{Part}
use Rattle.rotating_tree.specs.declared.draft.Draft.{Draft}
use Rattle.rotating_tree.specs.declared.node.Node.{Node}
use Rattle.rotating_tree.specs.Nodes.{StagedBy, next_by, part_pins, draft_pins, node_pins, part_loose}
use Rattle.rotating_tree.proofs.NodeLaws.{fork-merges, redraft-merges}
use Rattle.rotating_tree.proofs.LooseLaws.{or-cases, or-left, or-right, or-same, or-wider, staged-fork-pins, staged-next}

-- Both halves, and one merge more.
pub fork-rose : (hl hr dl dr keys : ℕ) (x0 x1 x2 x3 : Counts) → hl ≡ hr → 0 < dl + dr → RoseBy 0 (hl * dl) (hl * dl * keys) x0 x1 → RoseBy 0 (hr * dr) (hr * dr * keys) x1 x2 → RoseBy 0 1 keys x2 x3 → RoseBy 0 ((hl + 1) * (dl + dr)) ((hl + 1) * (dl + dr) * keys) x0 x3
fork-rose hl hr dl dr keys x0 x1 x2 x3 even some a b c =
    let merges : hl * dl + (hr * dr + 1) ≤ (hl + 1) * (dl + dr) = fork-merges hl hr dl dr even some in
    let spread : hl * dl * keys + (hr * dr * keys + keys) ≡ (hl * dl + (hr * dr + 1)) * keys = grind arith in
    let joins : (hl * dl + (hr * dr + 1)) * keys ≤ (hl + 1) * (dl + dr) * keys = mul-le-mul_right keys merges in
    rose_more 0 (hl * dl + (hr * dr + 1)) (hl * dl * keys + (hr * dr * keys + keys)) 0 ((hl + 1) * (dl + dr)) ((hl + 1) * (dl + dr) * keys) x0 x3 (omega arith) merges (subst (λ (k : ℕ). k ≤ (hl + 1) * (dl + dr) * keys) (sym spread) joins)
    (rose_then 0 (hl * dl) (hl * dl * keys) 0 (hr * dr + 1) (hr * dr * keys + keys) x0 x1 x3 a (rose_then 0 (hr * dr) (hr * dr * keys) 0 1 keys x1 x2 x3 b c))

-- What a tree costs after drafts at a number of its places.
pub redraft-rose : (h h2 d0 d1 c keys : ℕ) (x y : Counts) → h2 ≡ h → d0 ≡ 0 → d1 ≤ d0 + c → RoseBy 0 (h2 * d1) (h2 * d1 * keys) x y → RoseBy 0 (h * c) (h * c * keys) x y
redraft-rose h h2 d0 d1 c keys x y same none few rose =
    let merges : h2 * d1 ≤ h * c = redraft-merges h h2 d0 d1 c same none few in
    rose_more 0 (h2 * d1) (h2 * d1 * keys) 0 (h * c) (h * c * keys) x y (omega arith) merges (mul-le-mul_right keys merges) rose

module _ (u v w x : CallerView) where
  -- If each half, and the new part, is loose only if it was or the caller met what makes it so.
  pub fork-loose : (l0 r0 l1 r1 made : Bool) → IsLater u v → IsLater v w → IsLater w x → (l1 ≡ true → (l0 ≡ true) ⊎ Met u v) → (r1 ≡ true → (r0 ≡ true) ⊎ Met v w) → (made ≡ true → Met w x) → (l1 || (r1 || made)) ≡ true → ((l0 || r0) ≡ true) ⊎ Met u x
  fork-loose l0 r0 l1 r1 made a b c f g h e = elim (or-cases l1 (r1 || made) e) [
    | inl y ↦ elim (f y) [
      | inl z ↦ inl (or-left l0 r0 z)
      | inr m ↦ inr (any-met-later u w x c (any-met-later u v w b m))
    ]
    | inr y ↦ elim (or-cases r1 made y) [
      | inl z ↦ elim (g z) [
        | inl o ↦ inl (or-right l0 r0 o)
        | inr m ↦ inr (any-met-later u w x c (any-met-before u v w a b m))
      ]
      | inr z ↦ inr (any-met-before u v x a (later-then v w x b c) (any-met-before v w x b c (h z)))
    ]
  ]

-- What a due node becomes is loose only if its halves are.
pub due-loose : (M : Type 0) (l0 r0 l1 r1 made now : Bool) → ((l1 || (r1 || made)) ≡ true → ((l0 || r0) ≡ true) ⊎ M) → (l1 || (r1 || made)) ≡ true → ((l0 || (r0 || now)) ≡ true) ⊎ M
due-loose M l0 r0 l1 r1 made now f e = elim (f e) [ inl y ↦ inl (or-wider l0 r0 now y) | inr m ↦ inr m ]

-- A due node that was not made is loose only if its halves are or it was.
pub due-stays-loose : (M : Type 0) (l0 r0 l1 r1 now : Bool) → ((l1 || (r1 || false)) ≡ true → ((l0 || r0) ≡ true) ⊎ M) → (l1 || (r1 || now)) ≡ true → ((l0 || (r0 || now)) ≡ true) ⊎ M
due-stays-loose M l0 r0 l1 r1 now f e = elim (or-cases l1 (r1 || now) e) [
  | inl y ↦ elim (f (or-left l1 (r1 || false) y)) [ inl z ↦ inl (or-wider l0 r0 now z) | inr m ↦ inr m ]
  | inr y ↦ elim (or-cases r1 now y) [
    | inl z ↦ elim (f (or-right l1 (r1 || false) (or-left r1 false z))) [ inl o ↦ inl (or-wider l0 r0 now o) | inr m ↦ inr m ]
    | inr z ↦ inl (or-right l0 (r0 || now) (or-right r0 now z))
  ]
]

module _ {J V M : Type 0} (digest_of : PairOf V → List ℕ) where
  -- A node over a changed place keeps its pins while it is due.
  pub put-pins : (l0 r0 l1 r1 : Node J V M) (now : Part J V M) (draft : Draft J V M) (A B : Type 0) (n : ℕ) → StagedBy draft A B n → node_pins digest_of l1 ≡ node_pins digest_of l0 → node_pins digest_of r1 ≡ node_pins digest_of r0 → node_pins digest_of l1 ++ (node_pins digest_of r1 ++ (part_pins digest_of now ++ [])) ≡ node_pins digest_of l0 ++ (node_pins digest_of r0 ++ (part_pins digest_of now ++ draft_pins digest_of draft))
  put-pins l0 r0 l1 r1 now draft A B n s a b =
      ap (λ (ps : List PinName). ps ++ (node_pins digest_of r1 ++ (part_pins digest_of now ++ []))) a
      ∙ ap (λ (ps : List PinName). node_pins digest_of l0 ++ (ps ++ (part_pins digest_of now ++ []))) b
      ∙ ap (λ (ps : List PinName). node_pins digest_of l0 ++ (node_pins digest_of r0 ++ (part_pins digest_of now ++ ps))) (sym (staged-fork-pins digest_of draft A B n s))

  pub put-loose : (l0 r0 l1 r1 : Bool) (now : Part J V M) (draft : Draft J V M) (A B : Type 0) (n : ℕ) → StagedBy draft A B n → (l1 ≡ true → l0 ≡ true) → (r1 ≡ true → r0 ≡ true) → (l1 || (r1 || part_loose now)) ≡ true → (l0 || (r0 || part_loose (next_by now draft))) ≡ true
  put-loose l0 r0 l1 r1 now draft A B n s f g e =
      or-same l1 (r1 || part_loose now) l0 (r0 || part_loose (next_by now draft)) f
      (or-same r1 (part_loose now) r0 (part_loose (next_by now draft)) g (λ h. subst (λ (p : Part J V M). part_loose p ≡ true) (sym (staged-next digest_of now draft A B n s)) h)) e
