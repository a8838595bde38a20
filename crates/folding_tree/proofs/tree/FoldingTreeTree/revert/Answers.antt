use Rattle.std.proofs.Common.{subst}
use Rattle.pin_table.specs.Covers.{Covered}
use Rattle.pin_table.proofs.Covering.{covered-right, balanced-same}
use Rattle.tree_laws.specs.Pairs.{pair_digest}
use Rattle.folding_tree.specs.Folding.{levels_pins, drafts_pins}
use Rattle.tree_laws.proofs.TradeLaws.{trades-covered}
use Rattle.folding_tree.proofs.SeenLaws.{seen-pins, dropped-folding, dropped-tree, dropped-trade, folding-few, seen-plain, seen-few}
use Rattle.folding_tree.proofs.tree.FoldingTreeTree.revert.Goals as goal

pub let_drafts_go-requires-clause-covered : goal.let_drafts_go-requires-clause-covered
let_drafts_go-requires-clause-covered g c =
    let s = c.self.inside in
    let d = pair_digest g.J.Job.encoded in
    covered-right c.args.caller.now (levels_pins d s.levels.items) (drafts_pins d s.drafts.items)
    (subst (Covered c.args.caller.now) (seen-pins g.J.Job.good g.J.Job.joined d s.setting s.places s.at s.draft s.levels.items s.drafts.items c.self.invariant c.args.self.now c.self.view_is) c.requires.covered)

pub invariant_of-self : goal.invariant_of-self
invariant_of-self g c =
    let s = c.self.inside in
    dropped-folding g.J.Job.good g.J.Job.joined (pair_digest g.J.Job.encoded) s.setting s.places s.at s.draft s.levels.items s.drafts.items c.self.invariant c.args.self.now c.self.view_is c.let_drafts_go.new.drafts.items c.let_drafts_go.ensures.none

pub returns-in-Some-clause-reverted : goal.returns-in-Some-clause-reverted
returns-in-Some-clause-reverted g c =
    let s = c.self.inside in
    dropped-tree g.J.Job.good g.J.Job.joined (pair_digest g.J.Job.encoded) s.setting s.places s.at s.draft s.levels.items s.drafts.items c.self.invariant c.args.self.now c.self.view_is c.let_drafts_go.new.drafts.items c.let_drafts_go.ensures.none

pub returns-in-Some-clause-covered : goal.returns-in-Some-clause-covered
returns-in-Some-clause-covered g c =
    let s = c.self.inside in
    let trade = dropped-trade g.J.Job.good g.J.Job.joined (pair_digest g.J.Job.encoded) s.setting s.places s.at s.draft s.levels.items s.drafts.items c.self.invariant c.args.self.now c.self.view_is c.let_drafts_go.new.drafts.items c.let_drafts_go.ensures.none c.args.caller.now c.let_drafts_go.new.caller c.let_drafts_go.ensures.trades in
    trades-covered c.args.caller.now c.let_drafts_go.new.caller c.args.self.now.pins _ trade c.requires.covered

pub returns-in-Some-clause-balanced : goal.returns-in-Some-clause-balanced
returns-in-Some-clause-balanced g c =
    let s = c.self.inside in
    (dropped-trade g.J.Job.good g.J.Job.joined (pair_digest g.J.Job.encoded) s.setting s.places s.at s.draft s.levels.items s.drafts.items c.self.invariant c.args.self.now c.self.view_is c.let_drafts_go.new.drafts.items c.let_drafts_go.ensures.none c.args.caller.now c.let_drafts_go.new.caller c.let_drafts_go.ensures.trades).balanced

pub returns-in-Some-clause-few : goal.returns-in-Some-clause-few
returns-in-Some-clause-few g c =
    let s = c.self.inside in
    let after = dropped-folding g.J.Job.good g.J.Job.joined (pair_digest g.J.Job.encoded) s.setting s.places s.at s.draft s.levels.items s.drafts.items c.self.invariant c.args.self.now c.self.view_is c.let_drafts_go.new.drafts.items c.let_drafts_go.ensures.none in
    folding-few g.J.Job.good g.J.Job.joined (pair_digest g.J.Job.encoded) s.setting s.places s.at _ s.levels.items c.let_drafts_go.new.drafts.items after c.let_drafts_go.ensures.none

pub returns-in-None-clause-reverted : goal.returns-in-None-clause-reverted
returns-in-None-clause-reverted g c =
    let s = c.self.inside in
    seen-plain g.J.Job.good g.J.Job.joined (pair_digest g.J.Job.encoded) s.setting s.places s.at s.draft s.levels.items s.drafts.items c.self.invariant c.args.self.now c.self.view_is c.in-None.is

pub returns-in-None-clause-balanced : goal.returns-in-None-clause-balanced
returns-in-None-clause-balanced g c = balanced-same c.args.caller.now c.args.self.now.pins

pub returns-in-None-clause-few : goal.returns-in-None-clause-few
returns-in-None-clause-few g c =
    let s = c.self.inside in
    seen-few g.J.Job.good g.J.Job.joined (pair_digest g.J.Job.encoded) s.setting s.places s.at s.draft s.levels.items s.drafts.items c.self.invariant c.args.self.now c.self.view_is c.in-None.is
