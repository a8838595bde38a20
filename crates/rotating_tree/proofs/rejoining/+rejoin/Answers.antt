use Rattle.std.proofs.Common.{rules, ◌≡◌, ◌⊎◌, List, [], Option, ◌++◌, ◌+◌, ◌*◌, true, false, true≢false, sym, ap, ◌∙◌, subst, append-nil}
use Rattle.std.specs.Prelude.{IfSome}
use Rattle.sheets.specs.Sheets.{SheetOf}
use Rattle.job_laws.specs.Counted.{RoseBy}
use Rattle.pin_table.specs.Covers.{PinName, AreGiven, Balanced}
use Rattle.pin_table.specs.OwnEvents.{Met}
use Rattle.pin_table.proofs.Covering.{balanced-same, got-same, later-same}
use Rattle.tree_laws.specs.Pairs.{pair_digest}
use Rattle.tree_laws.specs.Trees.{IsLeaf, IsWithin, distinct_keys}
use Rattle.rotating_tree.specs.Nodes.{AllSome, IsEven, IsSound, IsSettled, IsStaged, undrafted, taken, places, height, drafts, is_due, next_by, part_pins, draft_pins, part_loose, node_pins, node_loose}
use Rattle.rotating_tree.proofs.NodeLaws.{at-fork, staged-marked, staged-sound, staged-due}
use Rattle.rotating_tree.proofs.FoundLaws.{all-left, all-right, leaf-nodes, within-nodes}
use Rattle.rotating_tree.proofs.LooseLaws.{staged-fork-pins}
use Rattle.rotating_tree.proofs.PinLaws.{fork-balanced, fork-given, between-balanced, between-given}
use Rattle.tree_laws.proofs.LeafLaws.{rose-still}
use Rattle.rotating_tree.proofs.RejoinLaws.{fork-rose, fork-loose, due-loose, due-stays-loose}
use Rattle.rotating_tree.proofs.rejoining.+rejoin.Goals as goal

-- The first half was not made.
pub fork-returns-in-Err-clause-marked : goal.fork-returns-in-Err-clause-marked
fork-returns-in-Err-clause-marked g t c = (c.rejoin.ensures.marked, staged-marked c.args.right.now c.requires.staged.1)

pub fork-returns-in-Err-clause-balanced : goal.fork-returns-in-Err-clause-balanced
fork-returns-in-Err-clause-balanced g t c =
    let d = pair_digest g.J.Job.encoded in
    let v = c.rejoin.new.caller in
    let r = node_pins d c.args.right.now in
    fork-balanced c.args.caller.now v v v (node_pins d c.args.left.now) r (node_pins d c.rejoin.new.node) r [] c.rejoin.ensures.balanced (balanced-same v r) (got-same v)

pub fork-returns-in-Err-clause-given : goal.fork-returns-in-Err-clause-given
fork-returns-in-Err-clause-given g t c =
    let d = pair_digest g.J.Job.encoded in
    let v = c.rejoin.new.caller in
    let r = node_pins d c.args.right.now in
    fork-given c.args.caller.now v v v (node_pins d c.args.left.now) r (node_pins d c.rejoin.new.node) r [] c.rejoin.ensures.balanced.later (later-same v) (later-same v) c.rejoin.ensures.given (λ x. x) tt

pub fork-returns-in-Err-clause-counted : goal.fork-returns-in-Err-clause-counted
fork-returns-in-Err-clause-counted g t c = λ ts wl wr.
    let l = c.args.left.now in
    let r = c.args.right.now in
    let keys = distinct_keys ts in
    let x0 = g.J.Meter.Meter.counts c.args.m.now in
    let x1 = g.J.Meter.Meter.counts c.rejoin.new.m in
    fork-rose (height l) (height r) (drafts l) (drafts r) keys x0 x1 x1 x1 c.requires.even.2 c.requires.due (c.rejoin.ensures.counted ts wl) (rose-still (height r * drafts r) (height r * drafts r * keys) x1) (rose-still 1 keys x1)

-- The second half was not made.
pub fork-returns-in-Err-rejoin-clause-balanced : goal.fork-returns-in-Err-rejoin-clause-balanced
fork-returns-in-Err-rejoin-clause-balanced g t c =
    let d = pair_digest g.J.Job.encoded in
    let w = c.rejoin-2.new.caller in
    fork-balanced c.args.caller.now c.rejoin.new.caller w w (node_pins d c.args.left.now) (node_pins d c.args.right.now) (node_pins d c.rejoin.new.node) (node_pins d c.rejoin-2.new.node) [] c.rejoin.ensures.balanced c.rejoin-2.ensures.balanced (got-same w)

pub fork-returns-in-Err-rejoin-clause-given : goal.fork-returns-in-Err-rejoin-clause-given
fork-returns-in-Err-rejoin-clause-given g t c =
    let d = pair_digest g.J.Job.encoded in
    let w = c.rejoin-2.new.caller in
    fork-given c.args.caller.now c.rejoin.new.caller w w (node_pins d c.args.left.now) (node_pins d c.args.right.now) (node_pins d c.rejoin.new.node) (node_pins d c.rejoin-2.new.node) [] c.rejoin.ensures.balanced.later c.rejoin-2.ensures.balanced.later (later-same w) c.rejoin.ensures.given c.rejoin-2.ensures.given tt

pub fork-returns-in-Err-rejoin-clause-loose : goal.fork-returns-in-Err-rejoin-clause-loose
fork-returns-in-Err-rejoin-clause-loose g t c =
    let w = c.rejoin-2.new.caller in
    fork-loose c.args.caller.now c.rejoin.new.caller w w (node_loose (taken c.args.left.now)) (node_loose (taken c.args.right.now)) (node_loose (taken c.rejoin.new.node)) (node_loose (taken c.rejoin-2.new.node)) false
    c.rejoin.ensures.balanced.later c.rejoin-2.ensures.balanced.later (later-same w) c.rejoin.ensures.loose c.rejoin-2.ensures.loose (λ e. absurd (true≢false (sym e)))

pub fork-returns-in-Err-rejoin-clause-counted : goal.fork-returns-in-Err-rejoin-clause-counted
fork-returns-in-Err-rejoin-clause-counted g t c = λ ts wl wr.
    let l = c.args.left.now in
    let r = c.args.right.now in
    let keys = distinct_keys ts in
    let x2 = g.J.Meter.Meter.counts c.rejoin-2.new.m in
    fork-rose (height l) (height r) (drafts l) (drafts r) keys (g.J.Meter.Meter.counts c.args.m.now) (g.J.Meter.Meter.counts c.rejoin.new.m) x2 x2 c.requires.even.2 c.requires.due (c.rejoin.ensures.counted ts wl) (c.rejoin-2.ensures.counted ts wr) (rose-still 1 keys x2)

pub fork-join_halves-requires-clause-left : goal.fork-join_halves-requires-clause-left
fork-join_halves-requires-clause-left g t c =
    let setting = g.J.Job.setting c.args.job.now in
    subst (λ (o : Option (SheetOf g.row.J-Val.Denot)). IfSome o (IsLeaf g.J.Job.good setting)) (sym c.next.ensures)
    (leaf-nodes g.J.Job.joined g.J.Job.good g.met.J.Job.join_laws setting (taken c.rejoin.new.node) c.in-Ok.ensures.sound (subst (AllSome (IsLeaf g.J.Job.good setting)) (sym c.rejoin.ensures.places) c.requires.leaves.0))

pub fork-join_halves-requires-clause-right : goal.fork-join_halves-requires-clause-right
fork-join_halves-requires-clause-right g t c =
    let setting = g.J.Job.setting c.args.job.now in
    subst (λ (o : Option (SheetOf g.row.J-Val.Denot)). IfSome o (IsLeaf g.J.Job.good setting)) (sym c.next-2.ensures)
    (leaf-nodes g.J.Job.joined g.J.Job.good g.met.J.Job.join_laws setting (taken c.rejoin-2.new.node) c.in-Ok-rejoin.ensures.sound (subst (AllSome (IsLeaf g.J.Job.good setting)) (sym c.rejoin-2.ensures.places) c.requires.leaves.1))

-- Both halves were made, and then the node.
pub fork-returns-in-Ok-join_halves-clause-balanced : goal.fork-returns-in-Ok-join_halves-clause-balanced
fork-returns-in-Ok-join_halves-clause-balanced g t c =
    let d = pair_digest g.J.Job.encoded in
    fork-balanced c.args.caller.now c.rejoin.new.caller c.rejoin-2.new.caller c.join_halves.new.caller (node_pins d c.args.left.now) (node_pins d c.args.right.now) (node_pins d c.rejoin.new.node) (node_pins d c.rejoin-2.new.node) (part_pins d c.in-Ok-join_halves.part)
    c.rejoin.ensures.balanced c.rejoin-2.ensures.balanced c.in-Ok-join_halves.ensures.got

pub fork-returns-in-Ok-join_halves-clause-given : goal.fork-returns-in-Ok-join_halves-clause-given
fork-returns-in-Ok-join_halves-clause-given g t c =
    let d = pair_digest g.J.Job.encoded in
    fork-given c.args.caller.now c.rejoin.new.caller c.rejoin-2.new.caller c.join_halves.new.caller (node_pins d c.args.left.now) (node_pins d c.args.right.now) (node_pins d c.rejoin.new.node) (node_pins d c.rejoin-2.new.node) (part_pins d c.in-Ok-join_halves.part)
    c.rejoin.ensures.balanced.later c.rejoin-2.ensures.balanced.later c.in-Ok-join_halves.ensures.got.later c.rejoin.ensures.given c.rejoin-2.ensures.given c.in-Ok-join_halves.ensures.given

pub fork-returns-in-Ok-join_halves-clause-loose : goal.fork-returns-in-Ok-join_halves-clause-loose
fork-returns-in-Ok-join_halves-clause-loose g t c =
    fork-loose c.args.caller.now c.rejoin.new.caller c.rejoin-2.new.caller c.join_halves.new.caller (node_loose (taken c.args.left.now)) (node_loose (taken c.args.right.now)) (node_loose (taken c.rejoin.new.node)) (node_loose (taken c.rejoin-2.new.node)) (part_loose c.in-Ok-join_halves.part)
    c.rejoin.ensures.balanced.later c.rejoin-2.ensures.balanced.later c.in-Ok-join_halves.ensures.got.later c.rejoin.ensures.loose c.rejoin-2.ensures.loose c.in-Ok-join_halves.ensures.loose

pub fork-returns-in-Ok-join_halves-clause-counted : goal.fork-returns-in-Ok-join_halves-clause-counted
fork-returns-in-Ok-join_halves-clause-counted g t c = λ ts wl wr.
    let l = c.args.left.now in
    let r = c.args.right.now in
    let P = λ (s : SheetOf g.row.J-Val.Denot). IsWithin s.entries ts in
    let inside = subst (λ (o : Option (SheetOf g.row.J-Val.Denot)). IfSome o P) (sym c.next.ensures) (within-nodes g.J.Job.joined ts (taken c.rejoin.new.node) c.in-Ok.ensures.sound (subst (AllSome P) (sym c.rejoin.ensures.places) wl)) in
    fork-rose (height l) (height r) (drafts l) (drafts r) (distinct_keys ts) (g.J.Meter.Meter.counts c.args.m.now) (g.J.Meter.Meter.counts c.rejoin.new.m) (g.J.Meter.Meter.counts c.rejoin-2.new.m) (g.J.Meter.Meter.counts c.join_halves.new.m)
    c.requires.even.2 c.requires.due (c.rejoin.ensures.counted ts wl) (c.rejoin-2.ensures.counted ts wr) (c.join_halves.ensures.counted ts inside)

-- Both halves were made, and the node was not.
pub fork-returns-in-Err-join_halves-clause-balanced : goal.fork-returns-in-Err-join_halves-clause-balanced
fork-returns-in-Err-join_halves-clause-balanced g t c =
    let d = pair_digest g.J.Job.encoded in
    fork-balanced c.args.caller.now c.rejoin.new.caller c.rejoin-2.new.caller c.join_halves.new.caller (node_pins d c.args.left.now) (node_pins d c.args.right.now) (node_pins d c.rejoin.new.node) (node_pins d c.rejoin-2.new.node) []
    c.rejoin.ensures.balanced c.rejoin-2.ensures.balanced c.in-Err-join_halves.ensures.err

pub fork-returns-in-Err-join_halves-clause-given : goal.fork-returns-in-Err-join_halves-clause-given
fork-returns-in-Err-join_halves-clause-given g t c =
    let d = pair_digest g.J.Job.encoded in
    fork-given c.args.caller.now c.rejoin.new.caller c.rejoin-2.new.caller c.join_halves.new.caller (node_pins d c.args.left.now) (node_pins d c.args.right.now) (node_pins d c.rejoin.new.node) (node_pins d c.rejoin-2.new.node) []
    c.rejoin.ensures.balanced.later c.rejoin-2.ensures.balanced.later c.in-Err-join_halves.ensures.err.later c.rejoin.ensures.given c.rejoin-2.ensures.given tt

pub fork-returns-in-Err-join_halves-clause-loose : goal.fork-returns-in-Err-join_halves-clause-loose
fork-returns-in-Err-join_halves-clause-loose g t c =
    fork-loose c.args.caller.now c.rejoin.new.caller c.rejoin-2.new.caller c.join_halves.new.caller (node_loose (taken c.args.left.now)) (node_loose (taken c.args.right.now)) (node_loose (taken c.rejoin.new.node)) (node_loose (taken c.rejoin-2.new.node)) false
    c.rejoin.ensures.balanced.later c.rejoin-2.ensures.balanced.later c.in-Err-join_halves.ensures.err.later c.rejoin.ensures.loose c.rejoin-2.ensures.loose (λ e. absurd (true≢false (sym e)))

pub fork-returns-in-Err-join_halves-clause-counted : goal.fork-returns-in-Err-join_halves-clause-counted
fork-returns-in-Err-join_halves-clause-counted g t c = λ ts wl wr.
    let l = c.args.left.now in
    let r = c.args.right.now in
    let P = λ (s : SheetOf g.row.J-Val.Denot). IsWithin s.entries ts in
    let inside = subst (λ (o : Option (SheetOf g.row.J-Val.Denot)). IfSome o P) (sym c.next.ensures) (within-nodes g.J.Job.joined ts (taken c.rejoin.new.node) c.in-Ok.ensures.sound (subst (AllSome P) (sym c.rejoin.ensures.places) wl)) in
    fork-rose (height l) (height r) (drafts l) (drafts r) (distinct_keys ts) (g.J.Meter.Meter.counts c.args.m.now) (g.J.Meter.Meter.counts c.rejoin.new.m) (g.J.Meter.Meter.counts c.rejoin-2.new.m) (g.J.Meter.Meter.counts c.join_halves.new.m)
    c.requires.even.2 c.requires.due (c.rejoin.ensures.counted ts wl) (c.rejoin-2.ensures.counted ts wr) (c.join_halves.ensures.counted ts inside)

pub rejoin-returns-then-not-is_due-clause-sound : goal.rejoin-returns-then-not-is_due-clause-sound
rejoin-returns-then-not-is_due-clause-sound g t c = staged-sound g.J.Job.joined c.args.node.now c.requires.staged (sym c.is_due.ensures ∙ c.if-not-is_due.true) c.requires.sound

pub rejoin-fork-requires : goal.rejoin-fork-requires
rejoin-fork-requires g t c κs within =
    let good = IsLeaf g.J.Job.good (g.J.Job.setting c.args.job.now) in
    let l = c.deref_mut.result.now in
    let r = c.deref_mut-in-Fork.result.now in
    let is = at-fork c.args.node.now c.in-Fork.left.value c.in-Fork.right.value l r _ _ c.in-Fork.field-2 c.in-Fork.draft c.in-Fork.is c.deref_mut.ensures.value c.deref_mut-in-Fork.ensures.value in
    let due = staged-due c.in-Fork.draft (IsSettled l × IsSettled r) (IsStaged l × IsStaged r) (drafts l + drafts r) (subst IsStaged is c.requires.staged) (subst (λ m. is_due m ≡ true) is (sym c.is_due.ensures ∙ c.if-not-is_due.false)) in
    let even = subst IsEven is c.requires.even in
    let sound = subst (λ m. IsSound g.J.Job.joined (undrafted m)) is c.requires.sound in
    let leaves = subst (λ m. AllSome good (places (taken m))) is c.requires.leaves in
    (search rules, (search rules, (search rules, (search rules, (search rules, (c.requires.of, (due.0, ((even.0, even.1, even.3), ((sound.0, sound.1), ((all-left good (places (taken l)) (places (taken r)) leaves, all-right good (places (taken l)) (places (taken r)) leaves), due.1))))))))))

pub rejoin-returns-in-Ok-clause-balanced : goal.rejoin-returns-in-Ok-clause-balanced
rejoin-returns-in-Ok-clause-balanced g t c =
    let d = pair_digest g.J.Job.encoded in
    let u = c.args.caller.now in
    let w = c.fork.new.caller in
    let l = c.deref_mut.result.now in
    let r = c.deref_mut-in-Fork.result.now in
    let is = at-fork c.args.node.now c.in-Fork.left.value c.in-Fork.right.value l r _ _ c.in-Fork.field-2 c.in-Fork.draft c.in-Fork.is c.deref_mut.ensures.value c.deref_mut-in-Fork.ensures.value in
    let np = part_pins d c.in-Fork.field-2 in
    let none = staged-fork-pins d c.in-Fork.draft (IsSettled l × IsSettled r) (IsStaged l × IsStaged r) (drafts l + drafts r) (subst IsStaged is c.requires.staged) in
    let l1 = node_pins d c.fork.new.left in
    let r1 = node_pins d c.fork.new.right in
    let made = part_pins d c.in-Ok.part in
    let from : node_pins d c.args.node.now ≡ node_pins d l ++ (node_pins d r ++ (np ++ [])) = ap (node_pins d) is ∙ ap (λ ps. node_pins d l ++ (node_pins d r ++ (np ++ ps))) none in
    subst (λ (ps : List PinName). Balanced u ps w (l1 ++ (r1 ++ (np ++ made)))) (sym from)
    (between-balanced u w (node_pins d l) (node_pins d r) np [] l1 r1 made (subst (λ (ps : List PinName). Balanced u (node_pins d l ++ ps) w (l1 ++ (r1 ++ made))) (sym (append-nil (node_pins d r))) c.in-Ok.ensures.balanced))

pub rejoin-returns-in-Ok-clause-given : goal.rejoin-returns-in-Ok-clause-given
rejoin-returns-in-Ok-clause-given g t c =
    let d = pair_digest g.J.Job.encoded in
    let u = c.args.caller.now in
    let w = c.fork.new.caller in
    let l = c.deref_mut.result.now in
    let r = c.deref_mut-in-Fork.result.now in
    let is = at-fork c.args.node.now c.in-Fork.left.value c.in-Fork.right.value l r _ _ c.in-Fork.field-2 c.in-Fork.draft c.in-Fork.is c.deref_mut.ensures.value c.deref_mut-in-Fork.ensures.value in
    let np = part_pins d c.in-Fork.field-2 in
    let none = staged-fork-pins d c.in-Fork.draft (IsSettled l × IsSettled r) (IsStaged l × IsStaged r) (drafts l + drafts r) (subst IsStaged is c.requires.staged) in
    let from : node_pins d c.args.node.now ≡ node_pins d l ++ (node_pins d r ++ (np ++ [])) = ap (node_pins d) is ∙ ap (λ ps. node_pins d l ++ (node_pins d r ++ (np ++ ps))) none in
    λ all. between-given u w (node_pins d l) (node_pins d r) np [] (node_pins d c.fork.new.left) (node_pins d c.fork.new.right) (part_pins d c.in-Ok.part) c.fork.ensures.balanced.later
    (λ x. c.in-Ok.ensures.given (subst (λ (ps : List PinName). AreGiven u (node_pins d l ++ ps)) (append-nil (node_pins d r)) x)) (subst (AreGiven u) from all)

pub rejoin-returns-in-Ok-clause-loose : goal.rejoin-returns-in-Ok-clause-loose
rejoin-returns-in-Ok-clause-loose g t c =
    let u = c.args.caller.now in
    let w = c.fork.new.caller in
    let l = c.deref_mut.result.now in
    let r = c.deref_mut-in-Fork.result.now in
    let is = at-fork c.args.node.now c.in-Fork.left.value c.in-Fork.right.value l r _ _ c.in-Fork.field-2 c.in-Fork.draft c.in-Fork.is c.deref_mut.ensures.value c.deref_mut-in-Fork.ensures.value in
    λ e. subst (λ m. (node_loose (taken m) ≡ true) ⊎ Met u w) (sym is)
    (due-loose (Met u w) (node_loose (taken l)) (node_loose (taken r)) (node_loose (taken c.fork.new.left)) (node_loose (taken c.fork.new.right)) (part_loose c.in-Ok.part) (part_loose (next_by c.in-Fork.field-2 c.in-Fork.draft)) c.in-Ok.ensures.loose e)

pub rejoin-returns-in-Ok-clause-counted : goal.rejoin-returns-in-Ok-clause-counted
rejoin-returns-in-Ok-clause-counted g t c = λ ts within.
    let P = λ (s : SheetOf g.row.J-Val.Denot). IsWithin s.entries ts in
    let l = c.deref_mut.result.now in
    let r = c.deref_mut-in-Fork.result.now in
    let is = at-fork c.args.node.now c.in-Fork.left.value c.in-Fork.right.value l r _ _ c.in-Fork.field-2 c.in-Fork.draft c.in-Fork.is c.deref_mut.ensures.value c.deref_mut-in-Fork.ensures.value in
    let all = subst (λ m. AllSome P (places (taken m))) is within in
    subst (λ m. RoseBy 0 (height m * drafts m) (height m * drafts m * distinct_keys ts) (g.J.Meter.Meter.counts c.args.m.now) (g.J.Meter.Meter.counts c.fork.new.m)) (sym is)
    (c.fork.ensures.counted ts (all-left P (places (taken l)) (places (taken r)) all) (all-right P (places (taken l)) (places (taken r)) all))

pub rejoin-returns-in-Err-clause-balanced : goal.rejoin-returns-in-Err-clause-balanced
rejoin-returns-in-Err-clause-balanced g t c =
    let d = pair_digest g.J.Job.encoded in
    let u = c.args.caller.now in
    let w = c.fork.new.caller in
    let l = c.deref_mut.result.now in
    let r = c.deref_mut-in-Fork.result.now in
    let is = at-fork c.args.node.now c.in-Fork.left.value c.in-Fork.right.value l r _ _ c.in-Fork.field-2 c.in-Fork.draft c.in-Fork.is c.deref_mut.ensures.value c.deref_mut-in-Fork.ensures.value in
    let np = part_pins d c.in-Fork.field-2 in
    let none = staged-fork-pins d c.in-Fork.draft (IsSettled l × IsSettled r) (IsStaged l × IsStaged r) (drafts l + drafts r) (subst IsStaged is c.requires.staged) in
    let l1 = node_pins d c.fork.new.left in
    let r1 = node_pins d c.fork.new.right in
    let from : node_pins d c.args.node.now ≡ node_pins d l ++ (node_pins d r ++ (np ++ [])) = ap (node_pins d) is ∙ ap (λ ps. node_pins d l ++ (node_pins d r ++ (np ++ ps))) none in
    subst (λ (ps : List PinName). Balanced u ps w (l1 ++ (r1 ++ (np ++ draft_pins d c.in-Fork.draft)))) (sym from)
    (subst (λ (ps : List PinName). Balanced u (node_pins d l ++ (node_pins d r ++ (np ++ []))) w (l1 ++ (r1 ++ (np ++ ps)))) (sym none)
    (between-balanced u w (node_pins d l) (node_pins d r) np [] l1 r1 [] (subst (λ (ps : List PinName). Balanced u (node_pins d l ++ ps) w (l1 ++ (r1 ++ []))) (sym (append-nil (node_pins d r))) c.in-Err.ensures.balanced)))

pub rejoin-returns-in-Err-clause-given : goal.rejoin-returns-in-Err-clause-given
rejoin-returns-in-Err-clause-given g t c =
    let d = pair_digest g.J.Job.encoded in
    let u = c.args.caller.now in
    let w = c.fork.new.caller in
    let l = c.deref_mut.result.now in
    let r = c.deref_mut-in-Fork.result.now in
    let is = at-fork c.args.node.now c.in-Fork.left.value c.in-Fork.right.value l r _ _ c.in-Fork.field-2 c.in-Fork.draft c.in-Fork.is c.deref_mut.ensures.value c.deref_mut-in-Fork.ensures.value in
    let np = part_pins d c.in-Fork.field-2 in
    let none = staged-fork-pins d c.in-Fork.draft (IsSettled l × IsSettled r) (IsStaged l × IsStaged r) (drafts l + drafts r) (subst IsStaged is c.requires.staged) in
    let l1 = node_pins d c.fork.new.left in
    let r1 = node_pins d c.fork.new.right in
    let from : node_pins d c.args.node.now ≡ node_pins d l ++ (node_pins d r ++ (np ++ [])) = ap (node_pins d) is ∙ ap (λ ps. node_pins d l ++ (node_pins d r ++ (np ++ ps))) none in
    λ all. subst (λ (ps : List PinName). AreGiven w (l1 ++ (r1 ++ (np ++ ps)))) (sym none)
    (between-given u w (node_pins d l) (node_pins d r) np [] l1 r1 [] c.fork.ensures.balanced.later
    (λ x. c.in-Err.ensures.given (subst (λ (ps : List PinName). AreGiven u (node_pins d l ++ ps)) (append-nil (node_pins d r)) x)) (subst (AreGiven u) from all))

pub rejoin-returns-in-Err-clause-loose : goal.rejoin-returns-in-Err-clause-loose
rejoin-returns-in-Err-clause-loose g t c =
    let u = c.args.caller.now in
    let w = c.fork.new.caller in
    let l = c.deref_mut.result.now in
    let r = c.deref_mut-in-Fork.result.now in
    let is = at-fork c.args.node.now c.in-Fork.left.value c.in-Fork.right.value l r _ _ c.in-Fork.field-2 c.in-Fork.draft c.in-Fork.is c.deref_mut.ensures.value c.deref_mut-in-Fork.ensures.value in
    λ e. subst (λ m. (node_loose (taken m) ≡ true) ⊎ Met u w) (sym is)
    (due-stays-loose (Met u w) (node_loose (taken l)) (node_loose (taken r)) (node_loose (taken c.fork.new.left)) (node_loose (taken c.fork.new.right)) (part_loose (next_by c.in-Fork.field-2 c.in-Fork.draft)) c.in-Err.ensures.loose e)

pub rejoin-returns-in-Err-clause-counted : goal.rejoin-returns-in-Err-clause-counted
rejoin-returns-in-Err-clause-counted g t c = λ ts within.
    let P = λ (s : SheetOf g.row.J-Val.Denot). IsWithin s.entries ts in
    let l = c.deref_mut.result.now in
    let r = c.deref_mut-in-Fork.result.now in
    let is = at-fork c.args.node.now c.in-Fork.left.value c.in-Fork.right.value l r _ _ c.in-Fork.field-2 c.in-Fork.draft c.in-Fork.is c.deref_mut.ensures.value c.deref_mut-in-Fork.ensures.value in
    let all = subst (λ m. AllSome P (places (taken m))) is within in
    subst (λ m. RoseBy 0 (height m * drafts m) (height m * drafts m * distinct_keys ts) (g.J.Meter.Meter.counts c.args.m.now) (g.J.Meter.Meter.counts c.fork.new.m)) (sym is)
    (c.fork.ensures.counted ts (all-left P (places (taken l)) (places (taken r)) all) (all-right P (places (taken l)) (places (taken r)) all))
