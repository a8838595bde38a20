use Rattle.std.proofs.Common.{arith, ◌≡◌, ◌++◌, ◌+◌, ◌<◌, Some, [], map, take, drop, length, get_or, slice_set, ap, ◌∙◌, sym}
use Rattle.std.proofs.lemmas.List.{get_or_read, take_all, take-append-drop, append-nil}
use Rattle.tree_laws.specs.Pairs.{pair_digest}
use Rattle.rotating_tree.specs.Nodes.{taken, places}
use Rattle.rotating_tree.specs.Circles.{slots}
use Rattle.rotating_tree.proofs.NodeLaws.{even-kept, size-kept, length-places, size-taken}
use Rattle.rotating_tree.proofs.StageLaws.{staged-none, staged-then, staged-more}
use Rattle.rotating_tree.proofs.SlotLaws.{write_next, length_slots}
use Rattle.rotating_tree.proofs.FoundLaws.{shared-leaf}
use Rattle.rotating_tree.proofs.circle.stage_fresh.Goals as goal

pub fresh-init : goal.fresh-init
fresh-init g c = record {
  even = c.requires.even;
  width = c.requires.width.0;
  step = staged-none (pair_digest g.J.Job.encoded) c.args.n c.args.node.now c.requires.staged;
  slots =
      let row = slots c.args.n c.args.start (places (taken c.args.node.now)) in
      let none : c.args.kept ≡ c.args.kept + 0 = omega arith in
      sym (take-append-drop c.args.kept row) ∙ ap (λ ys. ys ++ drop c.args.kept row) (sym (append-nil (take c.args.kept row))) ∙ ap (λ k. (take c.args.kept row ++ []) ++ drop k row) none;
  leaves = λ setting all old. old;
}

pub fresh-preserved : goal.fresh-preserved
fresh-preserved g c =
    let d = pair_digest g.J.Job.encoded in
    let i = c.fresh.i in
    let news = c.args.fresh.now in
    let first = c.args.node.now in
    let old = c.fresh.node in
    let new = c.put_in_turn.new.node in
    let sheet = c.in_ok-sheet.sheet in
    let in_news : i < length news = omega arith in
    let at : c.index-fresh-i.result ≡ get_or news i sheet = get_or_read news i c.index-fresh-i.result in_news c.index-fresh-i.is sheet in
    let is : sheet ≡ get_or news i sheet = c.in_ok-sheet.ensures.same ∙ at in
    let long : length (places (taken first)) ≡ c.args.width = length-places _ ∙ size-taken _ ∙ sym c.requires.width.0 in
    let room : length (slots c.args.n c.args.start (places (taken first))) ≡ c.args.n = length_slots c.args.n c.args.start _ (omega arith) (omega arith) in
    record {
      even = even-kept new old c.put_in_turn.ensures.step.kept c.fresh.invariant.even;
      width = c.fresh.invariant.width ∙ sym (size-kept new old c.put_in_turn.ensures.step.kept);
      step = staged-then d c.args.n i 1 first old new c.fresh.invariant.step c.put_in_turn.ensures.step;
      slots = c.put_in_turn.ensures.slots
          ∙ ap (λ xs. slice_set xs (c.args.kept + i) (Some sheet)) c.fresh.invariant.slots
          ∙ write_next (slots c.args.n c.args.start (places (taken first))) news c.args.kept i sheet (omega arith) in_news is;
      leaves = λ setting all olds.
          let has : c.index-fresh-i.result.setting ≡ setting = ap (λ s. s.setting) at ∙ all i sheet in_news in
          c.put_in_turn.ensures.leaves setting (shared-leaf g.J.Job.good setting c.index-fresh-i.result sheet c.in_ok-sheet.ensures.same c.in_ok-sheet.ensures.rising c.in_ok-sheet.ensures.good has) (c.fresh.invariant.leaves setting all olds);
    }

pub returns-in_err-sheet-clause-step : goal.returns-in_err-sheet-clause-step
returns-in_err-sheet-clause-step g c = staged-more (pair_digest g.J.Job.encoded) c.args.n c.fresh.i (length c.args.fresh.now) c.args.node.now c.fresh.node (omega arith) c.fresh.invariant.step

pub returns-clause-step : goal.returns-clause-step
returns-clause-step g c = staged-more (pair_digest g.J.Job.encoded) c.args.n c.fresh.i (length c.args.fresh.now) c.args.node.now c.fresh.node (omega arith) c.fresh.invariant.step

pub returns-clause-slots : goal.returns-clause-slots
returns-clause-slots g c =
    let i = c.fresh.i in
    let row = slots c.args.n c.args.start (places (taken c.args.node.now)) in
    let all : i ≡ length c.args.fresh.now = omega arith in
    c.fresh.invariant.slots
    ∙ ap (λ xs. take c.args.kept row ++ map Some xs ++ drop (c.args.kept + i) row) (take_all i c.args.fresh.now (omega arith))
    ∙ ap (λ k. take c.args.kept row ++ map Some c.args.fresh.now ++ drop (c.args.kept + k) row) all
