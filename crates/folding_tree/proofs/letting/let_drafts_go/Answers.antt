use Rattle.std.proofs.Common.{◌≡◌, [], ◌++◌, sym, ap, subst, ◌∙◌, arith}
use Rattle.std.proofs.lemmas.List.{nil_from_length, append-nil}
use Rattle.pin_table.specs.Covers.{Covered}
use Rattle.pin_table.proofs.Covering.{covered-right}
use Rattle.tree_laws.specs.Pairs.{pair_digest}
use Rattle.folding_tree.specs.Folding.{draft_pins, drafts_pins}
use Rattle.tree_laws.specs.Trades.{Trades}
use Rattle.tree_laws.proofs.TradeLaws.{trades-then, trades-beside, trades-covered, trades-same}
use Rattle.folding_tree.proofs.LevelLaws.{drafts-push}
use Rattle.folding_tree.proofs.letting.let_drafts_go.Goals as goal

pub drafts-init : goal.drafts-init
drafts-init g c = record {
  of = c.requires.of;
  covered = c.requires.covered;
  trades = trades-same c.args.caller.now (drafts_pins (pair_digest g.J.Job.encoded) c.args.drafts.now.items);
}

pub let_draft_go-requires-clause-covered : goal.let_draft_go-requires-clause-covered
let_draft_go-requires-clause-covered g c =
    let d = pair_digest g.J.Job.encoded in
    let rest = c.pop.new.self.items in
    let pins : drafts_pins d c.drafts.drafts.items ≡ drafts_pins d rest ++ draft_pins d c.in-Some.draft = ap (drafts_pins d) c.in-Some.ensures.items ∙ drafts-push d rest c.in-Some.draft in
    covered-right c.drafts.caller (drafts_pins d rest) (draft_pins d c.in-Some.draft) (subst (Covered c.drafts.caller) pins c.drafts.invariant.covered)

pub drafts-preserved : goal.drafts-preserved
drafts-preserved g c =
    let d = pair_digest g.J.Job.encoded in
    let v = c.drafts.caller in
    let w = c.let_draft_go.new.caller in
    let rest = c.pop.new.self.items in
    let all = drafts_pins d c.drafts.drafts.items in
    let pins : all ≡ drafts_pins d rest ++ draft_pins d c.in-Some.draft = ap (drafts_pins d) c.in-Some.ensures.items ∙ drafts-push d rest c.in-Some.draft in
    let one : Trades v (drafts_pins d rest ++ draft_pins d c.in-Some.draft) w (drafts_pins d rest) = subst (λ qs. Trades v (drafts_pins d rest ++ draft_pins d c.in-Some.draft) w qs) (append-nil (drafts_pins d rest)) (trades-beside v w (drafts_pins d rest) (draft_pins d c.in-Some.draft) [] c.let_draft_go.ensures) in
    let step : Trades v all w (drafts_pins d rest) = subst (λ ps. Trades v ps w (drafts_pins d rest)) (sym pins) one in
    record {
      of = step.balanced.later.locks ∙ c.drafts.invariant.of;
      covered = trades-covered v w all (drafts_pins d rest) step c.drafts.invariant.covered;
      trades = trades-then c.args.caller.now v w (drafts_pins d c.args.drafts.now.items) all (drafts_pins d rest) c.drafts.invariant.trades step;
    }

pub returns-clause-none : goal.returns-clause-none
returns-clause-none g c =
    let none = c.in_default.ensures.cases in
    nil_from_length c.pop.new.self.items (omega (arith, none.1, c.pop.new.self.ok.0))

pub returns-clause-trades : goal.returns-clause-trades
returns-clause-trades g c =
    let d = pair_digest g.J.Job.encoded in
    let none = c.in_default.ensures.cases in
    let empty : c.drafts.drafts.items ≡ [] = nil_from_length c.drafts.drafts.items (omega (arith, none.0, c.drafts.drafts.ok.0)) in
    subst (λ ds. Trades c.args.caller.now (drafts_pins d c.args.drafts.now.items) c.drafts.caller (drafts_pins d ds)) empty c.drafts.invariant.trades
