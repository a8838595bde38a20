-- The pins of a tree and of its drafts, when drafts are taken or dropped.
use Rattle.std.proofs.Common.{◌≡◌, ℕ, arith, sym, List, [], ◌++◌, subst, append_assoc, append-nil}
use Rattle.pin_table.specs.Views.{CallerView}
use Rattle.pin_table.specs.Covers.{PinName, AreGiven, Covered, Balanced, Got, IsLater, count}
use Rattle.pin_table.proofs.Covering.{count-append, balanced-then, balanced-beside, balanced-before, balanced-from, balanced-order, got-balanced, all-given-later, given-append, given-left, given-right}
use Rattle.tree_laws.specs.Pairs.{PairOf}
use Rattle.tree_laws.proofs.TradeLaws.{balanced-both}
use Rattle.rotating_tree.specs.declared.part.Part.{Part}
use Rattle.rotating_tree.specs.declared.draft.Draft.{Draft}
use Rattle.rotating_tree.specs.declared.draft.Draft.TheVariants.{Same, Due, New}
use Rattle.rotating_tree.specs.declared.node.Node.{Node, Leaf, Fork'}
use Rattle.rotating_tree.specs.Nodes.{part_pins, draft_pins, node_pins, next_by, taken, undrafted}

-- Three steps, each with its own pins.
pub balanced-three : (u v w x : CallerView) (hs bs cs ds es fs : List PinName) → Balanced u hs v ds → Balanced v bs w es → Balanced w cs x fs → Balanced u (hs ++ (bs ++ cs)) x (ds ++ (es ++ fs))
balanced-three u v w x hs bs cs ds es fs a b c =
    balanced-then u v x (hs ++ (bs ++ cs)) (ds ++ (bs ++ cs)) (ds ++ (es ++ fs)) (balanced-before u v (bs ++ cs) hs ds a)
    (balanced-then v w x (ds ++ (bs ++ cs)) (ds ++ (es ++ cs)) (ds ++ (es ++ fs)) (balanced-beside v w ds (bs ++ cs) (es ++ cs) (balanced-before v w cs bs es b))
    (balanced-beside w x ds (es ++ cs) (es ++ fs) (balanced-beside w x es cs fs c)))

-- Two lists of pins that are equal up to their order.
pub swap-counts : (hs bs : List PinName) (s id : ℕ) → count s id (hs ++ bs) ≡ count s id (bs ++ hs)
swap-counts hs bs s id = omega (arith, count-append s id hs bs, count-append s id bs hs)

-- The halves' pins are balanced, and the new pin is added.
pub fork-balanced : (u v w x : CallerView) (hs bs ds es ms : List PinName) → Balanced u hs v ds → Balanced v bs w es → Got w ms x → Balanced u (hs ++ bs) x (ds ++ (es ++ ms))
fork-balanced u v w x hs bs ds es ms a b got =
    subst (λ (ps : List PinName). Balanced u (hs ++ bs) x ps) (append_assoc ds es ms)
    (balanced-then u w x (hs ++ bs) (ds ++ es) ((ds ++ es) ++ ms) (balanced-both u v w hs bs ds es a b) (got-balanced w x (ds ++ es) ms got))

pub fork-given : (u v w x : CallerView) (hs bs ds es ms : List PinName) → IsLater u v → IsLater v w → IsLater w x → (AreGiven u hs → AreGiven v ds) → (AreGiven v bs → AreGiven w es) → AreGiven x ms → AreGiven u (hs ++ bs) → AreGiven x (ds ++ (es ++ ms))
fork-given u v w x hs bs ds es ms a b c f g made all =
    let left = all-given-later w x ds c (all-given-later v w ds b (f (given-left u hs bs all))) in
    let right = all-given-later w x es c (g (all-given-later u v bs a (given-right u hs bs all))) in
    given-append x ds (es ++ ms) left (given-append x es ms right made)

-- A node's own pins stay between those of its halves and those of its draft.
pub between-balanced : (u w : CallerView) (hs bs cs ds es fs gs : List PinName) → Balanced u (hs ++ (bs ++ ds)) w (es ++ (fs ++ gs)) → Balanced u (hs ++ (bs ++ (cs ++ ds))) w (es ++ (fs ++ (cs ++ gs)))
between-balanced u w hs bs cs ds es fs gs b =
    let shift : (xs ys zs : List PinName) (s id : ℕ) → count s id (xs ++ (ys ++ (cs ++ zs))) ≡ count s id (cs ++ (xs ++ (ys ++ zs))) = λ xs ys zs s id.
    let a = count-append s id xs (ys ++ (cs ++ zs)) in
    let b = count-append s id ys (cs ++ zs) in
    let c = count-append s id cs zs in
    let d = count-append s id cs (xs ++ (ys ++ zs)) in
    let e = count-append s id xs (ys ++ zs) in
    let f = count-append s id ys zs in
    omega (arith, a, b, c, d, e, f) in
    balanced-from u w (hs ++ (bs ++ (cs ++ ds))) (cs ++ (hs ++ (bs ++ ds))) (es ++ (fs ++ (cs ++ gs))) (shift hs bs ds)
    (balanced-order u w (cs ++ (hs ++ (bs ++ ds))) (cs ++ (es ++ (fs ++ gs))) (es ++ (fs ++ (cs ++ gs))) (λ s id. sym (shift es fs gs s id))
    (balanced-beside u w cs (hs ++ (bs ++ ds)) (es ++ (fs ++ gs)) b))

pub between-given : (u w : CallerView) (hs bs cs ds es fs gs : List PinName) → IsLater u w → (AreGiven u (hs ++ (bs ++ ds)) → AreGiven w (es ++ (fs ++ gs))) → AreGiven u (hs ++ (bs ++ (cs ++ ds))) → AreGiven w (es ++ (fs ++ (cs ++ gs)))
between-given u w hs bs cs ds es fs gs later f all =
    let rest = given-right u hs (bs ++ (cs ++ ds)) all in
    let last = given-right u bs (cs ++ ds) rest in
    let after = f (given-append u hs (bs ++ ds) (given-left u hs (bs ++ (cs ++ ds)) all) (given-append u bs ds (given-left u bs (cs ++ ds) rest) (given-right u cs ds last))) in
    let own = all-given-later u w cs later (given-left u cs ds last) in
    let ends = given-right w es (fs ++ gs) after in
    given-append w es (fs ++ (cs ++ gs)) (given-left w es (fs ++ gs) after) (given-append w fs (cs ++ gs) (given-left w fs gs ends) (given-append w cs gs own (given-right w fs gs ends)))

pub between-covered : (u : CallerView) (hs bs cs ds : List PinName) → Covered u (hs ++ (bs ++ (cs ++ ds))) → Covered u (hs ++ (bs ++ ds))
between-covered u hs bs cs ds c =
    let rest = given-right u hs (bs ++ (cs ++ ds)) c.given in
    record {
      given = given-append u hs (bs ++ ds) (given-left u hs (bs ++ (cs ++ ds)) c.given) (given-append u bs ds (given-left u bs (cs ++ ds) rest) (given-right u cs ds (given-right u bs (cs ++ ds) rest)));
      held = λ s id.
          let h = c.held s id in
          let a = count-append s id hs (bs ++ (cs ++ ds)) in
          let b = count-append s id bs (cs ++ ds) in
          let d = count-append s id cs ds in
          let e = count-append s id hs (bs ++ ds) in
          let f = count-append s id bs ds in
          omega (arith, h, a, b, d, e, f);
    }

-- One part replaces another, which is given up.
pub turn-balanced : (u w : CallerView) (olds news : List PinName) → ((ps : List PinName) → Balanced u (olds ++ ps) w ps) → Balanced u (olds ++ news) w (news ++ [])
turn-balanced u w olds news b = subst (λ (ps : List PinName). Balanced u (olds ++ news) w ps) (sym (append-nil news)) (b news)

-- A draft is given up, and the rest stays.
pub drop-balanced : (u w : CallerView) (own ds : List PinName) → ((ps : List PinName) → Balanced u (ds ++ ps) w ps) → Balanced u (own ++ ds) w (own ++ [])
drop-balanced u w own ds b =
    subst (λ (ps : List PinName). Balanced u (own ++ ds) w ps) (sym (append-nil own)) (balanced-from u w (own ++ ds) (ds ++ own) own (swap-counts own ds) (b own))

pub drop-alone : (u w : CallerView) (ds : List PinName) → ((ps : List PinName) → Balanced u (ds ++ ps) w ps) → Balanced u ds w []
drop-alone u w ds b = subst (λ (ps : List PinName). Balanced u ps w []) (append-nil ds) (b [])

module _ {J V M : Type 0} (digest_of : PairOf V → List ℕ) where
  -- The pins after a draft were given if those of the node and of its draft were.
  pub given-next : (c : CallerView) (now : Part J V M) (draft : Draft J V M) → AreGiven c (part_pins digest_of now ++ draft_pins digest_of draft) → AreGiven c (part_pins digest_of (next_by now draft) ++ [])
  given-next c now Same g = g
  given-next c now Due g = g
  given-next c now (New part) g = given-append c (part_pins digest_of part) [] (given-right c (part_pins digest_of now) (part_pins digest_of part) g) tt

  pub given-taken : (c : CallerView) (n : Node J V M) → AreGiven c (node_pins digest_of n) → AreGiven c (node_pins digest_of (taken n))
  given-taken c (Leaf now draft) g = given-next c now draft g
  given-taken c (Fork' p l q r now draft) g =
      let rest = given-right c (node_pins digest_of l) (node_pins digest_of r ++ (part_pins digest_of now ++ draft_pins digest_of draft)) g in
      given-append c (node_pins digest_of (taken l)) (node_pins digest_of (taken r) ++ (part_pins digest_of (next_by now draft) ++ []))
      (given-taken c l (given-left c (node_pins digest_of l) (node_pins digest_of r ++ (part_pins digest_of now ++ draft_pins digest_of draft)) g))
      (given-append c (node_pins digest_of (taken r)) (part_pins digest_of (next_by now draft) ++ [])
      (given-taken c r (given-left c (node_pins digest_of r) (part_pins digest_of now ++ draft_pins digest_of draft) rest))
      (given-next c now draft (given-right c (node_pins digest_of r) (part_pins digest_of now ++ draft_pins digest_of draft) rest)))

  given-stands : (c : CallerView) (now : Part J V M) (draft : Draft J V M) → AreGiven c (part_pins digest_of now ++ draft_pins digest_of draft) → AreGiven c (part_pins digest_of now ++ [])
  given-stands c now draft g = given-append c (part_pins digest_of now) [] (given-left c (part_pins digest_of now) (draft_pins digest_of draft) g) tt

  pub given-undrafted : (c : CallerView) (n : Node J V M) → AreGiven c (node_pins digest_of n) → AreGiven c (node_pins digest_of (undrafted n))
  given-undrafted c (Leaf now draft) g = given-stands c now draft g
  given-undrafted c (Fork' p l q r now draft) g =
      let rest = given-right c (node_pins digest_of l) (node_pins digest_of r ++ (part_pins digest_of now ++ draft_pins digest_of draft)) g in
      given-append c (node_pins digest_of (undrafted l)) (node_pins digest_of (undrafted r) ++ (part_pins digest_of now ++ []))
      (given-undrafted c l (given-left c (node_pins digest_of l) (node_pins digest_of r ++ (part_pins digest_of now ++ draft_pins digest_of draft)) g))
      (given-append c (node_pins digest_of (undrafted r)) (part_pins digest_of now ++ [])
      (given-undrafted c r (given-left c (node_pins digest_of r) (part_pins digest_of now ++ draft_pins digest_of draft) rest))
      (given-stands c now draft (given-right c (node_pins digest_of r) (part_pins digest_of now ++ draft_pins digest_of draft) rest)))
