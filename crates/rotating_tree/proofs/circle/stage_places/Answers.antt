use Rattle.std.proofs.Common.{arith, ◌≡◌, ◌+◌, ◌<◌, Some, map, drop, length, get_or, ap, ◌∙◌, sym, refl}
use Rattle.std.proofs.lemmas.List.{get_or_read, drop_all}
use Rattle.record_text.specs.Shifts.{put_at}
use Rattle.tree_laws.specs.Pairs.{pair_digest}
use Rattle.rotating_tree.specs.Nodes.{taken, places}
use Rattle.rotating_tree.specs.Circles.{slots}
use Rattle.rotating_tree.proofs.NodeLaws.{even-kept, size-kept}
use Rattle.rotating_tree.proofs.StageLaws.{staged-none, staged-then, staged-more}
use Rattle.rotating_tree.proofs.SlotLaws.{place_next}
use Rattle.rotating_tree.proofs.FoundLaws.{shared-leaf}
use Rattle.rotating_tree.proofs.circle.stage_places.Goals as goal

pub places-init : goal.places-init
places-init g c = record {
  even = c.requires.even;
  width = c.requires.width.0;
  step = staged-none (pair_digest g.J.Job.encoded) c.args.n c.args.node.now c.requires.staged;
  slots = refl;
  leaves = λ setting all old. old;
}

pub places-preserved : goal.places-preserved
places-preserved g c =
    let d = pair_digest g.J.Job.encoded in
    let i = c.places.i in
    let news = c.args.news.now in
    let changed = c.args.changed.now in
    let old = c.places.node in
    let new = c.put_in_turn.new.node in
    let sheet = c.in_ok-sheet.sheet in
    let in_places : i < length changed = omega arith in
    let in_news : i < length news = omega arith in
    let at : c.index-news-i.result ≡ get_or news i sheet = get_or_read news i c.index-news-i.result in_news c.index-news-i.is sheet in
    let is : sheet ≡ get_or news i sheet = c.in_ok-sheet.ensures.same ∙ at in
    record {
      even = even-kept new old c.put_in_turn.ensures.step.kept c.places.invariant.even;
      width = c.places.invariant.width ∙ sym (size-kept new old c.put_in_turn.ensures.step.kept);
      step = staged-then d c.args.n i 1 c.args.node.now old new c.places.invariant.step c.put_in_turn.ensures.step;
      slots = ap (put_at (drop (i + 1) changed) (map Some (drop (i + 1) news))) c.put_in_turn.ensures.slots
          ∙ place_next (slots c.args.n c.args.start (places (taken old))) changed news i c.get.result sheet in_places in_news c.get.ensures is
          ∙ c.places.invariant.slots;
      leaves = λ setting all olds.
          let has : c.index-news-i.result.setting ≡ setting = ap (λ s. s.setting) at ∙ all i sheet in_news in
          c.put_in_turn.ensures.leaves setting (shared-leaf g.J.Job.good setting c.index-news-i.result sheet c.in_ok-sheet.ensures.same c.in_ok-sheet.ensures.rising c.in_ok-sheet.ensures.good has) (c.places.invariant.leaves setting all olds);
    }

pub returns-in_err-sheet-clause-step : goal.returns-in_err-sheet-clause-step
returns-in_err-sheet-clause-step g c = staged-more (pair_digest g.J.Job.encoded) c.args.n c.places.i (length c.args.changed.now) c.args.node.now c.places.node (omega arith) c.places.invariant.step

pub returns-clause-step : goal.returns-clause-step
returns-clause-step g c = staged-more (pair_digest g.J.Job.encoded) c.args.n c.places.i (length c.args.changed.now) c.args.node.now c.places.node (omega arith) c.places.invariant.step

pub returns-clause-slots : goal.returns-clause-slots
returns-clause-slots g c =
    let i = c.places.i in
    let row = slots c.args.n c.args.start (places (taken c.places.node)) in
    sym (ap (λ ps. put_at ps (map Some (drop i c.args.news.now)) row) (drop_all i c.args.changed.now (omega arith))) ∙ c.places.invariant.slots
