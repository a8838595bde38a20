use Rattle.std.proofs.Common.{subst}
use Rattle.pin_table.specs.Covers.{Covered}
use Rattle.tree_laws.specs.Pairs.{pair_digest}
use Rattle.tree_laws.proofs.TradeLaws.{trades-covered}
use Rattle.folding_tree.proofs.SeenLaws.{seen-pins, seen-some, some-next, settled-folding, settled-tree, settled-trade, folding-few}
use Rattle.folding_tree.proofs.tree.FoldingTreeTree.settle.Goals as goal

pub settle-requires-clause-covered : goal.settle-requires-clause-covered
settle-requires-clause-covered g c =
    let s = c.self.inside in
    subst (Covered c.args.caller.now) (seen-pins g.J.Job.good g.J.Job.joined (pair_digest g.J.Job.encoded) s.setting s.places s.at s.draft s.levels.items s.drafts.items c.self.invariant c.args.self.now c.self.view_is) c.requires.covered

pub settle-requires-clause-count : goal.settle-requires-clause-count
settle-requires-clause-count g c =
    let s = c.self.inside in
    (some-next g.J.Job.good g.J.Job.joined (pair_digest g.J.Job.encoded) s.setting s.places s.at s.draft s.levels.items s.drafts.items c.self.invariant c.args.self.now c.self.view_is c.in-Some.at c.in-Some.is).deep

pub settle-requires-clause-fit : goal.settle-requires-clause-fit
settle-requires-clause-fit g c =
    let s = c.self.inside in
    (some-next g.J.Job.good g.J.Job.joined (pair_digest g.J.Job.encoded) s.setting s.places s.at s.draft s.levels.items s.drafts.items c.self.invariant c.args.self.now c.self.view_is c.in-Some.at c.in-Some.is).fit

pub settle-requires-clause-room : goal.settle-requires-clause-room
settle-requires-clause-room g c =
    let s = c.self.inside in
    (some-next g.J.Job.good g.J.Job.joined (pair_digest g.J.Job.encoded) s.setting s.places s.at s.draft s.levels.items s.drafts.items c.self.invariant c.args.self.now c.self.view_is c.in-Some.at c.in-Some.is).room

pub invariant_of-self : goal.invariant_of-self
invariant_of-self g c =
    let s = c.self.inside in
    settled-folding g.J.Job.good g.J.Job.joined (pair_digest g.J.Job.encoded) s.setting s.places s.at s.draft s.levels.items s.drafts.items c.self.invariant c.args.self.now c.self.view_is c.in-Some.at c.in-Some.is c.settle.new.levels.items c.settle.new.drafts.items c.settle.ensures.none c.settle.ensures.count c.settle.ensures.rows

pub returns-in-Some-clause-settled : goal.returns-in-Some-clause-settled
returns-in-Some-clause-settled g c =
    let s = c.self.inside in
    settled-tree g.J.Job.good g.J.Job.joined (pair_digest g.J.Job.encoded) s.setting s.places s.at s.draft s.levels.items s.drafts.items c.self.invariant c.args.self.now c.self.view_is c.in-Some.at c.in-Some.is c.settle.new.levels.items c.settle.new.drafts.items c.settle.ensures.none c.settle.ensures.count c.settle.ensures.rows

pub returns-in-Some-clause-covered : goal.returns-in-Some-clause-covered
returns-in-Some-clause-covered g c =
    let s = c.self.inside in
    let trade = settled-trade g.J.Job.good g.J.Job.joined (pair_digest g.J.Job.encoded) s.setting s.places s.at s.draft s.levels.items s.drafts.items c.self.invariant c.args.self.now c.self.view_is c.in-Some.at c.in-Some.is c.settle.new.levels.items c.settle.new.drafts.items c.settle.ensures.none c.settle.ensures.count c.settle.ensures.rows c.args.caller.now c.settle.new.caller c.settle.ensures.trades in
    trades-covered c.args.caller.now c.settle.new.caller c.args.self.now.pins _ trade c.requires.covered

pub returns-in-Some-clause-balanced : goal.returns-in-Some-clause-balanced
returns-in-Some-clause-balanced g c =
    let s = c.self.inside in
    (settled-trade g.J.Job.good g.J.Job.joined (pair_digest g.J.Job.encoded) s.setting s.places s.at s.draft s.levels.items s.drafts.items c.self.invariant c.args.self.now c.self.view_is c.in-Some.at c.in-Some.is c.settle.new.levels.items c.settle.new.drafts.items c.settle.ensures.none c.settle.ensures.count c.settle.ensures.rows c.args.caller.now c.settle.new.caller c.settle.ensures.trades).balanced

pub returns-in-Some-clause-few : goal.returns-in-Some-clause-few
returns-in-Some-clause-few g c =
    let s = c.self.inside in
    let after = settled-folding g.J.Job.good g.J.Job.joined (pair_digest g.J.Job.encoded) s.setting s.places s.at s.draft s.levels.items s.drafts.items c.self.invariant c.args.self.now c.self.view_is c.in-Some.at c.in-Some.is c.settle.new.levels.items c.settle.new.drafts.items c.settle.ensures.none c.settle.ensures.count c.settle.ensures.rows in
    folding-few g.J.Job.good g.J.Job.joined (pair_digest g.J.Job.encoded) s.setting s.places c.in-Some.at _ c.settle.new.levels.items c.settle.new.drafts.items after c.settle.ensures.none

pub unreachable-requires : goal.unreachable-requires
unreachable-requires g c =
    let s = c.self.inside in
    seen-some g.J.Job.good g.J.Job.joined (pair_digest g.J.Job.encoded) s.setting s.places s.at s.draft s.levels.items s.drafts.items c.self.invariant c.args.self.now c.self.view_is c.in-None.is c.requires.draft
