use Rattle.std.proofs.Common.{arith, ◌≡◌, inl, inr, ◌*◌, true, List, drop, length, ap, ◌∙◌, sym, subst}
use Rattle.std.proofs.lemmas.Result.{on_ok_weaker}
use Rattle.pin_table.specs.Covers.{PinName, AreGiven, Balanced}
use Rattle.pin_table.proofs.Covering.{balanced-same}
use Rattle.sheets.specs.Sheets.{SheetOf}
use Rattle.tree_laws.specs.Pairs.{pair_digest}
use Rattle.tree_laws.specs.Trees.{IsLeaf, IsWithin, distinct_keys}
use Rattle.rotating_tree.specs.Nodes.{AllSome, IsSound, taken, places, height, drafts, node_pins, node_loose}
use Rattle.rotating_tree.specs.Circles.{slots, advanced}
use Rattle.rotating_tree.proofs.NodeLaws.{even-kept, height-kept, settled-staged, staged-marked, settled-undrafted, settled-taken, settled-drafts}
use Rattle.tree_laws.proofs.LeafLaws.{rose-still}
use Rattle.rotating_tree.proofs.RejoinLaws.{redraft-rose}
use Rattle.rotating_tree.proofs.FoundLaws.{all-slots}
use Rattle.rotating_tree.proofs.circle.redraft.Goals as goal

pub stage-requires-clause-staged : goal.stage-requires-clause-staged
stage-requires-clause-staged g c = settled-staged c.args.node.now c.requires.settled

pub rejoin-requires-clause-even : goal.rejoin-requires-clause-even
rejoin-requires-clause-even g c = even-kept _ _ c.stage.ensures.step.kept c.requires.even

pub rejoin-requires-clause-sound : goal.rejoin-requires-clause-sound
rejoin-requires-clause-sound g c = subst (IsSound g.J.Job.joined) (sym (c.stage.ensures.step.kept ∙ settled-undrafted c.args.node.now c.requires.settled)) c.requires.sound

pub rejoin-requires-clause-leaves : goal.rejoin-requires-clause-leaves
rejoin-requires-clause-leaves g c =
    let good = IsLeaf g.J.Job.good (g.J.Job.setting c.args.job.now) in
    c.stage.ensures.leaves (g.J.Job.setting c.args.job.now) c.requires.settings (subst (λ m. AllSome good (places m)) (sym (settled-taken c.args.node.now c.requires.settled)) c.requires.leaves)

pub returns-in-Ok-clause-kept : goal.returns-in-Ok-clause-kept
returns-in-Ok-clause-kept g c = c.rejoin.ensures.kept ∙ c.stage.ensures.step.kept ∙ settled-undrafted c.args.node.now c.requires.settled

pub returns-in-Ok-clause-leaves : goal.returns-in-Ok-clause-leaves
returns-in-Ok-clause-leaves g c =
    let good = IsLeaf g.J.Job.good (g.J.Job.setting c.args.job.now) in
    subst (AllSome good) (sym c.rejoin.ensures.places)
    (c.stage.ensures.leaves (g.J.Job.setting c.args.job.now) c.requires.settings (subst (λ m. AllSome good (places m)) (sym (settled-taken c.args.node.now c.requires.settled)) c.requires.leaves))

pub returns-in-Ok-clause-slots : goal.returns-in-Ok-clause-slots
returns-in-Ok-clause-slots g c =
    let slots_are =
    ap (slots c.args.n c.args.start) c.rejoin.ensures.places ∙ c.in-Ok.ensures.slots
    ∙ ap (λ m. advanced c.args.kept c.args.changed.now c.args.news.now (slots c.args.n c.args.start (places m))) (settled-taken c.args.node.now c.requires.settled) in
    on_ok_weaker c.rejoin.result (λ _. slots_are) c.rejoin.ensures.sound

pub returns-in-Ok-clause-rest : goal.returns-in-Ok-clause-rest
returns-in-Ok-clause-rest g c = ap (drop c.args.n) c.rejoin.ensures.places ∙ c.stage.ensures.step.rest ∙ ap (λ m. drop c.args.n (places m)) (settled-taken c.args.node.now c.requires.settled)

pub returns-in-Ok-clause-balanced : goal.returns-in-Ok-clause-balanced
returns-in-Ok-clause-balanced g c =
    let d = pair_digest g.J.Job.encoded in
    subst (λ (ps : List PinName). Balanced c.args.caller.now ps c.rejoin.new.caller (node_pins d c.rejoin.new.node)) c.stage.ensures.step.pins c.rejoin.ensures.balanced

pub returns-in-Ok-clause-given : goal.returns-in-Ok-clause-given
returns-in-Ok-clause-given g c = λ all. c.rejoin.ensures.given (subst (AreGiven c.args.caller.now) (sym c.stage.ensures.step.pins) all)

pub returns-in-Ok-clause-loose : goal.returns-in-Ok-clause-loose
returns-in-Ok-clause-loose g c = λ e. elim (c.rejoin.ensures.loose e) [
  | inl x ↦ inl (subst (λ m. node_loose m ≡ true) (settled-taken c.args.node.now c.requires.settled) (c.stage.ensures.step.loose x))
  | inr m ↦ inr m
]

pub returns-in-Ok-clause-counted : goal.returns-in-Ok-clause-counted
returns-in-Ok-clause-counted g c = λ ts within behind.
    let P = λ (s : SheetOf g.row.J-Val.Denot). IsWithin s.entries ts in
    let plain = settled-taken c.args.node.now c.requires.settled in
    let front : AllSome P (slots c.args.n c.args.start (places (taken c.stage.new.node))) =
    subst (AllSome P) (sym (c.in-Ok.ensures.slots ∙ ap (λ m. advanced c.args.kept c.args.changed.now c.args.news.now (slots c.args.n c.args.start (places m))) plain)) within in
    let rest : AllSome P (drop c.args.n (places (taken c.stage.new.node))) = subst (AllSome P) (sym (c.stage.ensures.step.rest ∙ ap (λ m. drop c.args.n (places m)) plain)) behind in
    redraft-rose (height c.args.node.now) (height c.stage.new.node) (drafts c.args.node.now) (drafts c.stage.new.node) (length c.args.news.now) (distinct_keys ts) _ _
    (height-kept c.stage.new.node c.args.node.now c.stage.ensures.step.kept) (settled-drafts c.args.node.now c.requires.settled) c.stage.ensures.step.few
    (c.rejoin.ensures.counted ts (all-slots P c.args.n c.args.start (places (taken c.stage.new.node)) (omega arith) front rest))

pub returns-in-Err-clause-kept : goal.returns-in-Err-clause-kept
returns-in-Err-clause-kept g c = c.stage.ensures.step.kept ∙ settled-undrafted c.args.node.now c.requires.settled

pub returns-in-Err-clause-leaves : goal.returns-in-Err-clause-leaves
returns-in-Err-clause-leaves g c =
    let good = IsLeaf g.J.Job.good (g.J.Job.setting c.args.job.now) in
    c.stage.ensures.leaves (g.J.Job.setting c.args.job.now) c.requires.settings (subst (λ m. AllSome good (places m)) (sym (settled-taken c.args.node.now c.requires.settled)) c.requires.leaves)

pub returns-in-Err-clause-rest : goal.returns-in-Err-clause-rest
returns-in-Err-clause-rest g c = c.stage.ensures.step.rest ∙ ap (λ m. drop c.args.n (places m)) (settled-taken c.args.node.now c.requires.settled)

pub returns-in-Err-clause-marked : goal.returns-in-Err-clause-marked
returns-in-Err-clause-marked g c = staged-marked c.stage.new.node c.stage.ensures.step.staged

pub returns-in-Err-clause-balanced : goal.returns-in-Err-clause-balanced
returns-in-Err-clause-balanced g c =
    let d = pair_digest g.J.Job.encoded in
    subst (λ (ps : List PinName). Balanced c.args.caller.now (node_pins d c.args.node.now) c.args.caller.now ps) (sym c.stage.ensures.step.pins) (balanced-same c.args.caller.now (node_pins d c.args.node.now))

pub returns-in-Err-clause-given : goal.returns-in-Err-clause-given
returns-in-Err-clause-given g c = λ all. subst (AreGiven c.args.caller.now) (sym c.stage.ensures.step.pins) all

pub returns-in-Err-clause-loose : goal.returns-in-Err-clause-loose
returns-in-Err-clause-loose g c = λ e. inl (subst (λ m. node_loose m ≡ true) (settled-taken c.args.node.now c.requires.settled) (c.stage.ensures.step.loose e))

pub returns-in-Err-clause-counted : goal.returns-in-Err-clause-counted
returns-in-Err-clause-counted g c = λ ts within behind. rose-still (height c.args.node.now * length c.args.news.now) (height c.args.node.now * length c.args.news.now * distinct_keys ts) _
