use Rattle.std.proofs.Common.{◌≡◌, ℕ, ◌*◌, Some, None, length, sym, ap, subst, ◌∙◌}
use Rattle.record_text.specs.declared.kind.Kind.TheVariants.{Buckets}
use Rattle.record_text.specs.declared.shift.Shift.{Shift}
use Rattle.record_text.specs.Shifts.{FitsShift, shifted}
use Rattle.sheets.specs.United.{tables_of}
use Rattle.job_laws.specs.Counted.{RoseBy}
use Rattle.pin_table.specs.OwnEvents.{Met}
use Rattle.tree_laws.specs.Pairs.{pair_digest}
use Rattle.tree_laws.specs.Trees.{IsDrafted, distinct_keys}
use Rattle.folding_tree.specs.Shapes.{shaped, merges_of}
use Rattle.folding_tree.specs.Folding.{IsTree, IsAdvanced, rows_of, rows_after, leaves_of, seen_of}
use Rattle.tree_laws.proofs.TradeLaws.{trades-covered}
use Rattle.folding_tree.proofs.SeenLaws.{seen-none, seen-fits, seen-counted, no-drafts, advanced-trade, advanced-folding, advanced-drafted, advanced-loose, refused-folding, refused-tree, refused-loose, folding-few}
use Rattle.folding_tree.proofs.tree.FoldingTreeTree.advance.Goals as goal

pub advance-requires-clause-none : goal.advance-requires-clause-none
advance-requires-clause-none g c =
    let s = c.self.inside in
    no-drafts g.J.Job.good g.J.Job.joined (pair_digest g.J.Job.encoded) s.setting s.places s.at s.draft s.levels.items s.drafts.items c.self.invariant c.args.self.now c.self.view_is (seen-none g.J.Job.good g.J.Job.joined (pair_digest g.J.Job.encoded) s.setting s.places s.at s.draft s.levels.items s.drafts.items c.self.invariant c.args.self.now c.self.view_is c.requires.no_draft)

pub advance-requires-clause-deep : goal.advance-requires-clause-deep
advance-requires-clause-deep g c =
    let s = c.self.inside in
    c.self.invariant.deep

pub advance-requires-clause-tree : goal.advance-requires-clause-tree
advance-requires-clause-tree g c =
    let s = c.self.inside in
    let of = ap (λ t. t.tree.setting) c.self.view_is ∙ sym c.requires.job in
    subst (λ (k : ℕ). IsTree g.J.Job.good g.J.Job.joined k s.at (rows_of s.levels.items)) of c.self.invariant.now

pub advance-requires-clause-within : goal.advance-requires-clause-within
advance-requires-clause-within g c =
    let s = c.self.inside in
    let f = seen-fits g.J.Job.good g.J.Job.joined (pair_digest g.J.Job.encoded) s.setting s.places s.at s.draft s.levels.items s.drafts.items c.self.invariant c.args.self.now c.self.view_is c.in-Slide.first c.in-Slide.gone c.in-Slide.came (length c.args.fresh.now) c.in-Slide.places
    (subst (λ (h : Shift). FitsShift Buckets c.args.self.now.tree.places c.args.self.now.tree.leaves.first (length c.args.self.now.tree.leaves.tables) (length c.args.fresh.now) h) c.in-Slide.is c.requires.fits) in
    f.within

pub advance-requires-clause-changed : goal.advance-requires-clause-changed
advance-requires-clause-changed g c =
    let s = c.self.inside in
    let f = seen-fits g.J.Job.good g.J.Job.joined (pair_digest g.J.Job.encoded) s.setting s.places s.at s.draft s.levels.items s.drafts.items c.self.invariant c.args.self.now c.self.view_is c.in-Slide.first c.in-Slide.gone c.in-Slide.came (length c.args.fresh.now) c.in-Slide.places
    (subst (λ (h : Shift). FitsShift Buckets c.args.self.now.tree.places c.args.self.now.tree.leaves.first (length c.args.self.now.tree.leaves.tables) (length c.args.fresh.now) h) c.in-Slide.is c.requires.fits) in
    f.places_are

pub advance-requires-clause-news : goal.advance-requires-clause-news
advance-requires-clause-news g c =
    let s = c.self.inside in
    let f = seen-fits g.J.Job.good g.J.Job.joined (pair_digest g.J.Job.encoded) s.setting s.places s.at s.draft s.levels.items s.drafts.items c.self.invariant c.args.self.now c.self.view_is c.in-Slide.first c.in-Slide.gone c.in-Slide.came (length c.args.fresh.now) c.in-Slide.places
    (subst (λ (h : Shift). FitsShift Buckets c.args.self.now.tree.places c.args.self.now.tree.leaves.first (length c.args.self.now.tree.leaves.tables) (length c.args.fresh.now) h) c.in-Slide.is c.requires.fits) in
    f.news_are

pub advance-requires-clause-settings : goal.advance-requires-clause-settings
advance-requires-clause-settings g c = λ k x lt. c.requires.settings k x lt ∙ sym c.requires.job

pub invariant_of-self : goal.invariant_of-self
invariant_of-self g c =
    let s = c.self.inside in
    let of = ap (λ t. t.tree.setting) c.self.view_is ∙ sym c.requires.job in
    let ok = subst (λ (k : ℕ). IsAdvanced g.J.Job.good g.J.Job.joined k s.at c.in-Slide.first c.in-Slide.gone c.in-Slide.places c.in-Slide.came c.args.fresh.now s.levels.items c.advance.new.levels.items c.advance.new.drafts.items c.in-Ok.at) (sym of) c.in-Ok.ensures.ok in
    advanced-folding g.J.Job.good g.J.Job.joined (pair_digest g.J.Job.encoded) s.setting s.places s.at s.draft s.levels.items s.drafts.items c.self.invariant c.args.self.now c.self.view_is (seen-none g.J.Job.good g.J.Job.joined (pair_digest g.J.Job.encoded) s.setting s.places s.at s.draft s.levels.items s.drafts.items c.self.invariant c.args.self.now c.self.view_is c.requires.no_draft) c.advance.new.levels.items c.advance.new.drafts.items c.advance.ensures.deep c.advance.ensures.rows c.advance.ensures.pins c.in-Slide.first c.in-Slide.gone c.in-Slide.came c.in-Slide.places c.args.fresh.now c.in-Ok.at ok

pub returns-in-Ok-clause-ok : goal.returns-in-Ok-clause-ok
returns-in-Ok-clause-ok g c =
    let s = c.self.inside in
    let of = ap (λ t. t.tree.setting) c.self.view_is ∙ sym c.requires.job in
    let ok = subst (λ (k : ℕ). IsAdvanced g.J.Job.good g.J.Job.joined k s.at c.in-Slide.first c.in-Slide.gone c.in-Slide.places c.in-Slide.came c.args.fresh.now s.levels.items c.advance.new.levels.items c.advance.new.drafts.items c.in-Ok.at) (sym of) c.in-Ok.ensures.ok in
    subst (λ (h : Shift). IsDrafted shaped h c.args.fresh.now c.args.self.now.tree (seen_of (pair_digest g.J.Job.encoded) s.setting s.places s.at (Some c.in-Ok.at) c.advance.new.levels.items c.advance.new.drafts.items).tree) (sym c.in-Slide.is) (advanced-drafted g.J.Job.good g.J.Job.joined (pair_digest g.J.Job.encoded) s.setting s.places s.at s.draft s.levels.items s.drafts.items c.self.invariant c.args.self.now c.self.view_is (seen-none g.J.Job.good g.J.Job.joined (pair_digest g.J.Job.encoded) s.setting s.places s.at s.draft s.levels.items s.drafts.items c.self.invariant c.args.self.now c.self.view_is c.requires.no_draft) c.advance.new.levels.items c.advance.new.drafts.items c.advance.ensures.deep c.advance.ensures.rows c.advance.ensures.pins c.in-Slide.first c.in-Slide.gone c.in-Slide.came c.in-Slide.places c.args.fresh.now c.in-Ok.at ok)

pub returns-in-Ok-clause-covered : goal.returns-in-Ok-clause-covered
returns-in-Ok-clause-covered g c =
    let s = c.self.inside in
    let trade = advanced-trade g.J.Job.good g.J.Job.joined (pair_digest g.J.Job.encoded) s.setting s.places s.at s.draft s.levels.items s.drafts.items c.self.invariant c.args.self.now c.self.view_is (seen-none g.J.Job.good g.J.Job.joined (pair_digest g.J.Job.encoded) s.setting s.places s.at s.draft s.levels.items s.drafts.items c.self.invariant c.args.self.now c.self.view_is c.requires.no_draft) c.advance.new.levels.items c.advance.new.drafts.items c.advance.ensures.deep c.advance.ensures.rows c.advance.ensures.pins c.args.caller.now c.advance.new.caller c.advance.ensures.trades in
    trades-covered c.args.caller.now c.advance.new.caller c.args.self.now.pins _ trade c.requires.covered

pub returns-in-Ok-clause-balanced : goal.returns-in-Ok-clause-balanced
returns-in-Ok-clause-balanced g c =
    let s = c.self.inside in
    (advanced-trade g.J.Job.good g.J.Job.joined (pair_digest g.J.Job.encoded) s.setting s.places s.at s.draft s.levels.items s.drafts.items c.self.invariant c.args.self.now c.self.view_is (seen-none g.J.Job.good g.J.Job.joined (pair_digest g.J.Job.encoded) s.setting s.places s.at s.draft s.levels.items s.drafts.items c.self.invariant c.args.self.now c.self.view_is c.requires.no_draft) c.advance.new.levels.items c.advance.new.drafts.items c.advance.ensures.deep c.advance.ensures.rows c.advance.ensures.pins c.args.caller.now c.advance.new.caller c.advance.ensures.trades).balanced

pub returns-in-Ok-clause-counted : goal.returns-in-Ok-clause-counted
returns-in-Ok-clause-counted g c =
    let s = c.self.inside in
    subst (λ (h : Shift). RoseBy 0 (merges_of c.args.self.now.tree.leaves.shape h) (merges_of c.args.self.now.tree.leaves.shape h * distinct_keys (shifted h (tables_of c.args.fresh.now) c.args.self.now.tree.leaves.tables)) (g.J.Meter.Meter.counts c.args.m.now) (g.J.Meter.Meter.counts c.advance.new.m)) (sym c.in-Slide.is)
    (seen-counted g.J.Job.good g.J.Job.joined (pair_digest g.J.Job.encoded) s.setting s.places s.at s.draft s.levels.items s.drafts.items c.self.invariant c.args.self.now c.self.view_is c.in-Slide.first c.in-Slide.gone c.in-Slide.came c.in-Slide.places c.args.fresh.now (g.J.Meter.Meter.counts c.args.m.now) (g.J.Meter.Meter.counts c.advance.new.m) c.advance.ensures.counted)

pub returns-in-Ok-clause-tight : goal.returns-in-Ok-clause-tight
returns-in-Ok-clause-tight g c =
    let s = c.self.inside in
    let counted =
    subst (λ (h : Shift). RoseBy 0 (merges_of c.args.self.now.tree.leaves.shape h) (merges_of c.args.self.now.tree.leaves.shape h * distinct_keys (shifted h (tables_of c.args.fresh.now) c.args.self.now.tree.leaves.tables)) (g.J.Meter.Meter.counts c.args.m.now) (g.J.Meter.Meter.counts c.advance.new.m)) (sym c.in-Slide.is)
    (seen-counted g.J.Job.good g.J.Job.joined (pair_digest g.J.Job.encoded) s.setting s.places s.at s.draft s.levels.items s.drafts.items c.self.invariant c.args.self.now c.self.view_is c.in-Slide.first c.in-Slide.gone c.in-Slide.came c.in-Slide.places c.args.fresh.now (g.J.Meter.Meter.counts c.args.m.now) (g.J.Meter.Meter.counts c.advance.new.m) c.advance.ensures.counted) in
    λ plain unmet. counted.merges

pub returns-in-Err-clause-covered : goal.returns-in-Err-clause-covered
returns-in-Err-clause-covered g c =
    let s = c.self.inside in
    let trade = advanced-trade g.J.Job.good g.J.Job.joined (pair_digest g.J.Job.encoded) s.setting s.places s.at s.draft s.levels.items s.drafts.items c.self.invariant c.args.self.now c.self.view_is (seen-none g.J.Job.good g.J.Job.joined (pair_digest g.J.Job.encoded) s.setting s.places s.at s.draft s.levels.items s.drafts.items c.self.invariant c.args.self.now c.self.view_is c.requires.no_draft) c.advance.new.levels.items c.advance.new.drafts.items c.advance.ensures.deep c.advance.ensures.rows c.advance.ensures.pins c.args.caller.now c.advance.new.caller c.advance.ensures.trades in
    trades-covered c.args.caller.now c.advance.new.caller c.args.self.now.pins _ trade c.requires.covered

pub returns-in-Err-clause-balanced : goal.returns-in-Err-clause-balanced
returns-in-Err-clause-balanced g c =
    let s = c.self.inside in
    (advanced-trade g.J.Job.good g.J.Job.joined (pair_digest g.J.Job.encoded) s.setting s.places s.at s.draft s.levels.items s.drafts.items c.self.invariant c.args.self.now c.self.view_is (seen-none g.J.Job.good g.J.Job.joined (pair_digest g.J.Job.encoded) s.setting s.places s.at s.draft s.levels.items s.drafts.items c.self.invariant c.args.self.now c.self.view_is c.requires.no_draft) c.advance.new.levels.items c.advance.new.drafts.items c.advance.ensures.deep c.advance.ensures.rows c.advance.ensures.pins c.args.caller.now c.advance.new.caller c.advance.ensures.trades).balanced

pub returns-in-Err-clause-counted : goal.returns-in-Err-clause-counted
returns-in-Err-clause-counted g c =
    let s = c.self.inside in
    subst (λ (h : Shift). RoseBy 0 (merges_of c.args.self.now.tree.leaves.shape h) (merges_of c.args.self.now.tree.leaves.shape h * distinct_keys (shifted h (tables_of c.args.fresh.now) c.args.self.now.tree.leaves.tables)) (g.J.Meter.Meter.counts c.args.m.now) (g.J.Meter.Meter.counts c.advance.new.m)) (sym c.in-Slide.is)
    (seen-counted g.J.Job.good g.J.Job.joined (pair_digest g.J.Job.encoded) s.setting s.places s.at s.draft s.levels.items s.drafts.items c.self.invariant c.args.self.now c.self.view_is c.in-Slide.first c.in-Slide.gone c.in-Slide.came c.in-Slide.places c.args.fresh.now (g.J.Meter.Meter.counts c.args.m.now) (g.J.Meter.Meter.counts c.advance.new.m) c.advance.ensures.counted)

pub returns-in-Err-clause-tight : goal.returns-in-Err-clause-tight
returns-in-Err-clause-tight g c =
    let s = c.self.inside in
    let counted =
    subst (λ (h : Shift). RoseBy 0 (merges_of c.args.self.now.tree.leaves.shape h) (merges_of c.args.self.now.tree.leaves.shape h * distinct_keys (shifted h (tables_of c.args.fresh.now) c.args.self.now.tree.leaves.tables)) (g.J.Meter.Meter.counts c.args.m.now) (g.J.Meter.Meter.counts c.advance.new.m)) (sym c.in-Slide.is)
    (seen-counted g.J.Job.good g.J.Job.joined (pair_digest g.J.Job.encoded) s.setting s.places s.at s.draft s.levels.items s.drafts.items c.self.invariant c.args.self.now c.self.view_is c.in-Slide.first c.in-Slide.gone c.in-Slide.came c.in-Slide.places c.args.fresh.now (g.J.Meter.Meter.counts c.args.m.now) (g.J.Meter.Meter.counts c.advance.new.m) c.advance.ensures.counted) in
    λ plain unmet. counted.merges

pub returns-in-Ok-clause-few : goal.returns-in-Ok-clause-few
returns-in-Ok-clause-few g c =
    let s = c.self.inside in
    λ none. absurd (let no : Some (leaves_of c.in-Ok.at (rows_after c.advance.new.levels.items c.advance.new.drafts.items)) ≡ None = none in cc)

pub returns-in-Ok-clause-loose : goal.returns-in-Ok-clause-loose
returns-in-Ok-clause-loose g c =
    let s = c.self.inside in
    advanced-loose g.J.Job.good g.J.Job.joined (pair_digest g.J.Job.encoded) s.setting s.places s.at s.draft s.levels.items s.drafts.items c.self.invariant c.args.self.now c.self.view_is (seen-none g.J.Job.good g.J.Job.joined (pair_digest g.J.Job.encoded) s.setting s.places s.at s.draft s.levels.items s.drafts.items c.self.invariant c.args.self.now c.self.view_is c.requires.no_draft) c.advance.new.levels.items c.advance.new.drafts.items c.advance.ensures.deep c.advance.ensures.rows c.advance.ensures.pins (Met c.args.caller.now c.advance.new.caller) c.in-Ok.at c.in-Ok.ensures.loose

pub invariant_of-self-in-Err : goal.invariant_of-self-in-Err
invariant_of-self-in-Err g c =
    let s = c.self.inside in
    refused-folding g.J.Job.good g.J.Job.joined (pair_digest g.J.Job.encoded) s.setting s.places s.at s.draft s.levels.items s.drafts.items c.self.invariant c.args.self.now c.self.view_is (seen-none g.J.Job.good g.J.Job.joined (pair_digest g.J.Job.encoded) s.setting s.places s.at s.draft s.levels.items s.drafts.items c.self.invariant c.args.self.now c.self.view_is c.requires.no_draft) c.advance.new.levels.items c.advance.new.drafts.items c.advance.ensures.deep c.advance.ensures.rows c.advance.ensures.pins c.in-Err.ensures.err

pub returns-in-Err-clause-err : goal.returns-in-Err-clause-err
returns-in-Err-clause-err g c =
    let s = c.self.inside in
    refused-tree g.J.Job.good g.J.Job.joined (pair_digest g.J.Job.encoded) s.setting s.places s.at s.draft s.levels.items s.drafts.items c.self.invariant c.args.self.now c.self.view_is (seen-none g.J.Job.good g.J.Job.joined (pair_digest g.J.Job.encoded) s.setting s.places s.at s.draft s.levels.items s.drafts.items c.self.invariant c.args.self.now c.self.view_is c.requires.no_draft) c.advance.new.levels.items c.advance.new.drafts.items c.advance.ensures.deep c.advance.ensures.rows c.advance.ensures.pins

pub returns-in-Err-clause-few : goal.returns-in-Err-clause-few
returns-in-Err-clause-few g c =
    let s = c.self.inside in
    let after = refused-folding g.J.Job.good g.J.Job.joined (pair_digest g.J.Job.encoded) s.setting s.places s.at s.draft s.levels.items s.drafts.items c.self.invariant c.args.self.now c.self.view_is (seen-none g.J.Job.good g.J.Job.joined (pair_digest g.J.Job.encoded) s.setting s.places s.at s.draft s.levels.items s.drafts.items c.self.invariant c.args.self.now c.self.view_is c.requires.no_draft) c.advance.new.levels.items c.advance.new.drafts.items c.advance.ensures.deep c.advance.ensures.rows c.advance.ensures.pins c.in-Err.ensures.err in
    λ none. folding-few g.J.Job.good g.J.Job.joined (pair_digest g.J.Job.encoded) s.setting s.places s.at s.draft c.advance.new.levels.items c.advance.new.drafts.items after c.in-Err.ensures.err

pub returns-in-Err-clause-loose : goal.returns-in-Err-clause-loose
returns-in-Err-clause-loose g c =
    let s = c.self.inside in
    refused-loose g.J.Job.good g.J.Job.joined (pair_digest g.J.Job.encoded) s.setting s.places s.at s.draft s.levels.items s.drafts.items c.self.invariant c.args.self.now c.self.view_is (seen-none g.J.Job.good g.J.Job.joined (pair_digest g.J.Job.encoded) s.setting s.places s.at s.draft s.levels.items s.drafts.items c.self.invariant c.args.self.now c.self.view_is c.requires.no_draft) c.advance.new.levels.items c.advance.new.drafts.items c.advance.ensures.deep c.advance.ensures.rows c.advance.ensures.pins (Met c.args.caller.now c.advance.new.caller) c.requires.no_draft
