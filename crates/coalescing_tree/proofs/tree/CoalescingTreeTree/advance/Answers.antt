use Rattle.std.proofs.Common.{[], ◌∙◌}
use Rattle.std.specs.Option.{option_copied}
use Rattle.pin_table.specs.OwnEvents.{Met}
use Rattle.pin_table.proofs.Covering.{balanced-same}
use Rattle.tree_laws.specs.Pairs.{pair_digest}
use Rattle.tree_laws.proofs.LeafLaws.{rose-still}
use Rattle.coalescing_tree.proofs.AdvanceLaws.{kept-sound, kept-view, kept-few, kept-loose, kept-balanced, kept-covered, grown-balanced, grown-covered, grown-cut, grown-sound, grown-drafted, grown-counted, grown-loose, grown-some, read-leaves, read-within, read-top}
use Rattle.coalescing_tree.proofs.tree.CoalescingTreeTree.advance.Goals as goal

pub invariant_of-self : goal.invariant_of-self
invariant_of-self g c =
    let t = c.self.inside in
    kept-sound g.J.Job.good g.J.Job.joined (pair_digest g.J.Job.encoded) t.setting t.places t.leaves.items t.standing t.top t.draft c.args.self.now c.self.view_is c.self.invariant c.requires.no_draft c.share_all.new.leaves.items c.in-Err.ensures.err

pub returns-in-Err-clause-err : goal.returns-in-Err-clause-err
returns-in-Err-clause-err g c =
    let t = c.self.inside in
    kept-view g.J.Job.good g.J.Job.joined (pair_digest g.J.Job.encoded) t.setting t.places t.leaves.items t.standing t.top t.draft c.args.self.now c.self.view_is c.self.invariant c.requires.no_draft c.share_all.new.leaves.items c.in-Err.ensures.err

pub returns-in-Err-clause-covered : goal.returns-in-Err-clause-covered
returns-in-Err-clause-covered g c =
    let t = c.self.inside in
    kept-covered g.J.Job.good g.J.Job.joined (pair_digest g.J.Job.encoded) t.setting t.places t.leaves.items t.standing t.top t.draft c.args.self.now c.self.view_is c.self.invariant c.requires.no_draft c.args.caller.now c.args.caller.now c.requires.covered (balanced-same c.args.caller.now [])

pub returns-in-Err-clause-balanced : goal.returns-in-Err-clause-balanced
returns-in-Err-clause-balanced g c =
    let t = c.self.inside in
    kept-balanced g.J.Job.good g.J.Job.joined (pair_digest g.J.Job.encoded) t.setting t.places t.leaves.items t.standing t.top t.draft c.args.self.now c.self.view_is c.self.invariant c.requires.no_draft c.args.caller.now c.args.caller.now c.requires.covered (balanced-same c.args.caller.now [])

pub returns-in-Err-clause-few : goal.returns-in-Err-clause-few
returns-in-Err-clause-few g c =
    let t = c.self.inside in
    λ none. kept-few g.J.Job.good g.J.Job.joined (pair_digest g.J.Job.encoded) t.setting t.places t.leaves.items t.standing t.top t.draft c.args.self.now c.self.view_is c.self.invariant c.requires.no_draft c.share_all.new.leaves.items c.in-Err.ensures.err

pub returns-in-Err-clause-loose : goal.returns-in-Err-clause-loose
returns-in-Err-clause-loose g c =
    let t = c.self.inside in
    kept-loose g.J.Job.good g.J.Job.joined (pair_digest g.J.Job.encoded) t.setting t.places t.leaves.items t.standing t.top t.draft c.args.self.now c.self.view_is c.self.invariant c.requires.no_draft c.share_all.new.leaves.items c.in-Err.ensures.err (Met c.args.caller.now c.args.caller.now)

pub returns-in-Err-clause-counted : goal.returns-in-Err-clause-counted
returns-in-Err-clause-counted g c =
    rose-still _ _ (g.J.Meter.Meter.counts c.args.m.now)

pub returns-in-Err-clause-tight : goal.returns-in-Err-clause-tight
returns-in-Err-clause-tight g c =
    λ plain unmet. (rose-still _ 0 (g.J.Meter.Meter.counts c.args.m.now)).merges

pub draft_over-requires-clause-within : goal.draft_over-requires-clause-within
draft_over-requires-clause-within g c =
    let t = c.self.inside in
    read-within g.J.Job.good g.J.Job.joined (pair_digest g.J.Job.encoded) t.setting t.places t.leaves.items t.standing t.top t.draft c.args.self.now c.self.view_is c.self.invariant c.requires.no_draft c.share_all.new.leaves.items c.args.fresh.now c.in-Ok.ensures.ok c.in-Ok.ensures.sound c.requires.settings (g.J.Job.setting c.args.job.now) c.requires.job c.as_slice.result.now c.as_slice.ensures.value

pub draft_over-requires-clause-leaves : goal.draft_over-requires-clause-leaves
draft_over-requires-clause-leaves g c =
    let t = c.self.inside in
    read-leaves g.J.Job.good g.J.Job.joined (pair_digest g.J.Job.encoded) t.setting t.places t.leaves.items t.standing t.top t.draft c.args.self.now c.self.view_is c.self.invariant c.requires.no_draft c.share_all.new.leaves.items c.args.fresh.now c.in-Ok.ensures.ok c.in-Ok.ensures.sound c.requires.settings (g.J.Job.setting c.args.job.now) c.requires.job c.as_slice.result.now c.as_slice.ensures.value

pub draft_over-requires-clause-top : goal.draft_over-requires-clause-top
draft_over-requires-clause-top g c =
    let t = c.self.inside in
    read-top g.J.Job.good g.J.Job.joined (pair_digest g.J.Job.encoded) t.setting t.places t.leaves.items t.standing t.top t.draft c.args.self.now c.self.view_is c.self.invariant c.requires.no_draft c.share_all.new.leaves.items c.args.fresh.now c.in-Ok.ensures.ok c.in-Ok.ensures.sound c.requires.settings (g.J.Job.setting c.args.job.now) c.requires.job c.as_slice.result.now c.as_slice.ensures.value (option_copied c.as_ref.result) c.as_ref.ensures.value

pub invariant_of-self-in-Ok-draft_over : goal.invariant_of-self-in-Ok-draft_over
invariant_of-self-in-Ok-draft_over g c =
    let t = c.self.inside in
    grown-sound g.J.Job.good g.J.Job.joined (pair_digest g.J.Job.encoded) t.setting t.places t.leaves.items t.standing t.top t.draft c.args.self.now c.self.view_is c.self.invariant c.requires.no_draft c.share_all.new.leaves.items c.args.fresh.now c.in-Ok.ensures.ok c.in-Ok.ensures.sound c.requires.settings (g.J.Job.setting c.args.job.now) c.requires.job c.as_slice.result.now c.as_slice.ensures.value c.in-Ok-draft_over.draft c.in-Ok-draft_over.ensures.sound

pub returns-in-Ok-draft_over-clause-ok : goal.returns-in-Ok-draft_over-clause-ok
returns-in-Ok-draft_over-clause-ok g c =
    let t = c.self.inside in
    grown-drafted g.J.Job.good g.J.Job.joined (pair_digest g.J.Job.encoded) t.setting t.places t.leaves.items t.standing t.top t.draft c.args.self.now c.self.view_is c.self.invariant c.requires.no_draft c.share_all.new.leaves.items c.args.fresh.now c.in-Ok.ensures.ok c.args._shift.now c.requires.fits c.in-Ok-draft_over.draft

pub returns-in-Ok-draft_over-clause-covered : goal.returns-in-Ok-draft_over-clause-covered
returns-in-Ok-draft_over-clause-covered g c =
    let t = c.self.inside in
    grown-covered g.J.Job.good g.J.Job.joined (pair_digest g.J.Job.encoded) t.setting t.places t.leaves.items t.standing t.top t.draft c.args.self.now c.self.view_is c.self.invariant c.requires.no_draft c.args.caller.now c.draft_over.new.caller c.requires.covered c.in-Ok-draft_over.draft c.in-Ok-draft_over.ensures.got

pub returns-in-Ok-draft_over-clause-balanced : goal.returns-in-Ok-draft_over-clause-balanced
returns-in-Ok-draft_over-clause-balanced g c =
    let t = c.self.inside in
    grown-balanced g.J.Job.good g.J.Job.joined (pair_digest g.J.Job.encoded) t.setting t.places t.leaves.items t.standing t.top t.draft c.args.self.now c.self.view_is c.self.invariant c.requires.no_draft c.args.caller.now c.draft_over.new.caller c.requires.covered c.in-Ok-draft_over.draft c.in-Ok-draft_over.ensures.got

pub returns-in-Ok-draft_over-clause-few : goal.returns-in-Ok-draft_over-clause-few
returns-in-Ok-draft_over-clause-few g c =
    let t = c.self.inside in
    λ none. grown-some g.J.Job.good g.J.Job.joined (pair_digest g.J.Job.encoded) t.setting t.places t.leaves.items t.standing t.top t.draft c.args.self.now c.self.view_is c.self.invariant c.requires.no_draft c.share_all.new.leaves.items c.args.fresh.now c.in-Ok.ensures.ok c.in-Ok-draft_over.draft none

pub returns-in-Ok-draft_over-clause-loose : goal.returns-in-Ok-draft_over-clause-loose
returns-in-Ok-draft_over-clause-loose g c =
    let t = c.self.inside in
    grown-loose g.J.Job.good g.J.Job.joined (pair_digest g.J.Job.encoded) t.setting t.places t.leaves.items t.standing t.top t.draft c.args.self.now c.self.view_is c.self.invariant c.requires.no_draft c.share_all.new.leaves.items c.args.fresh.now c.in-Ok.ensures.ok (Met c.args.caller.now c.draft_over.new.caller) c.in-Ok-draft_over.draft c.in-Ok-draft_over.ensures.loose

pub returns-in-Ok-draft_over-clause-counted : goal.returns-in-Ok-draft_over-clause-counted
returns-in-Ok-draft_over-clause-counted g c =
    let t = c.self.inside in
    grown-counted g.J.Job.good g.J.Job.joined (pair_digest g.J.Job.encoded) t.setting t.places t.leaves.items t.standing t.top t.draft c.args.self.now c.self.view_is c.self.invariant c.requires.no_draft c.share_all.new.leaves.items c.args.fresh.now c.in-Ok.ensures.ok c.args._shift.now c.requires.fits c.as_slice.result.now (g.J.Meter.Meter.counts c.args.m.now) (g.J.Meter.Meter.counts c.draft_over.new.m) c.as_slice.ensures.value c.draft_over.ensures.counted

pub returns-in-Ok-draft_over-clause-tight : goal.returns-in-Ok-draft_over-clause-tight
returns-in-Ok-draft_over-clause-tight g c =
    let t = c.self.inside in
    λ plain unmet. (grown-counted g.J.Job.good g.J.Job.joined (pair_digest g.J.Job.encoded) t.setting t.places t.leaves.items t.standing t.top t.draft c.args.self.now c.self.view_is c.self.invariant c.requires.no_draft c.share_all.new.leaves.items c.args.fresh.now c.in-Ok.ensures.ok c.args._shift.now c.requires.fits c.as_slice.result.now (g.J.Meter.Meter.counts c.args.m.now) (g.J.Meter.Meter.counts c.draft_over.new.m) c.as_slice.ensures.value c.draft_over.ensures.counted).merges

pub invariant_of-self-in-Err-draft_over : goal.invariant_of-self-in-Err-draft_over
invariant_of-self-in-Err-draft_over g c =
    let t = c.self.inside in
    let cut = c.truncate.ensures.items ∙ grown-cut g.J.Job.good g.J.Job.joined (pair_digest g.J.Job.encoded) t.setting t.places t.leaves.items t.standing t.top t.draft c.args.self.now c.self.view_is c.self.invariant c.requires.no_draft c.share_all.new.leaves.items c.args.fresh.now c.in-Ok.ensures.ok in
    kept-sound g.J.Job.good g.J.Job.joined (pair_digest g.J.Job.encoded) t.setting t.places t.leaves.items t.standing t.top t.draft c.args.self.now c.self.view_is c.self.invariant c.requires.no_draft c.truncate.new.self.items cut

pub returns-in-Err-draft_over-clause-err : goal.returns-in-Err-draft_over-clause-err
returns-in-Err-draft_over-clause-err g c =
    let t = c.self.inside in
    let cut = c.truncate.ensures.items ∙ grown-cut g.J.Job.good g.J.Job.joined (pair_digest g.J.Job.encoded) t.setting t.places t.leaves.items t.standing t.top t.draft c.args.self.now c.self.view_is c.self.invariant c.requires.no_draft c.share_all.new.leaves.items c.args.fresh.now c.in-Ok.ensures.ok in
    kept-view g.J.Job.good g.J.Job.joined (pair_digest g.J.Job.encoded) t.setting t.places t.leaves.items t.standing t.top t.draft c.args.self.now c.self.view_is c.self.invariant c.requires.no_draft c.truncate.new.self.items cut

pub returns-in-Err-draft_over-clause-covered : goal.returns-in-Err-draft_over-clause-covered
returns-in-Err-draft_over-clause-covered g c =
    let t = c.self.inside in
    kept-covered g.J.Job.good g.J.Job.joined (pair_digest g.J.Job.encoded) t.setting t.places t.leaves.items t.standing t.top t.draft c.args.self.now c.self.view_is c.self.invariant c.requires.no_draft c.args.caller.now c.draft_over.new.caller c.requires.covered c.in-Err-draft_over.ensures.err

pub returns-in-Err-draft_over-clause-balanced : goal.returns-in-Err-draft_over-clause-balanced
returns-in-Err-draft_over-clause-balanced g c =
    let t = c.self.inside in
    kept-balanced g.J.Job.good g.J.Job.joined (pair_digest g.J.Job.encoded) t.setting t.places t.leaves.items t.standing t.top t.draft c.args.self.now c.self.view_is c.self.invariant c.requires.no_draft c.args.caller.now c.draft_over.new.caller c.requires.covered c.in-Err-draft_over.ensures.err

pub returns-in-Err-draft_over-clause-few : goal.returns-in-Err-draft_over-clause-few
returns-in-Err-draft_over-clause-few g c =
    let t = c.self.inside in
    let cut = c.truncate.ensures.items ∙ grown-cut g.J.Job.good g.J.Job.joined (pair_digest g.J.Job.encoded) t.setting t.places t.leaves.items t.standing t.top t.draft c.args.self.now c.self.view_is c.self.invariant c.requires.no_draft c.share_all.new.leaves.items c.args.fresh.now c.in-Ok.ensures.ok in
    λ none. kept-few g.J.Job.good g.J.Job.joined (pair_digest g.J.Job.encoded) t.setting t.places t.leaves.items t.standing t.top t.draft c.args.self.now c.self.view_is c.self.invariant c.requires.no_draft c.truncate.new.self.items cut

pub returns-in-Err-draft_over-clause-loose : goal.returns-in-Err-draft_over-clause-loose
returns-in-Err-draft_over-clause-loose g c =
    let t = c.self.inside in
    let cut = c.truncate.ensures.items ∙ grown-cut g.J.Job.good g.J.Job.joined (pair_digest g.J.Job.encoded) t.setting t.places t.leaves.items t.standing t.top t.draft c.args.self.now c.self.view_is c.self.invariant c.requires.no_draft c.share_all.new.leaves.items c.args.fresh.now c.in-Ok.ensures.ok in
    kept-loose g.J.Job.good g.J.Job.joined (pair_digest g.J.Job.encoded) t.setting t.places t.leaves.items t.standing t.top t.draft c.args.self.now c.self.view_is c.self.invariant c.requires.no_draft c.truncate.new.self.items cut (Met c.args.caller.now c.draft_over.new.caller)

pub returns-in-Err-draft_over-clause-counted : goal.returns-in-Err-draft_over-clause-counted
returns-in-Err-draft_over-clause-counted g c =
    let t = c.self.inside in
    grown-counted g.J.Job.good g.J.Job.joined (pair_digest g.J.Job.encoded) t.setting t.places t.leaves.items t.standing t.top t.draft c.args.self.now c.self.view_is c.self.invariant c.requires.no_draft c.share_all.new.leaves.items c.args.fresh.now c.in-Ok.ensures.ok c.args._shift.now c.requires.fits c.as_slice.result.now (g.J.Meter.Meter.counts c.args.m.now) (g.J.Meter.Meter.counts c.draft_over.new.m) c.as_slice.ensures.value c.draft_over.ensures.counted

pub returns-in-Err-draft_over-clause-tight : goal.returns-in-Err-draft_over-clause-tight
returns-in-Err-draft_over-clause-tight g c =
    let t = c.self.inside in
    λ plain unmet. (grown-counted g.J.Job.good g.J.Job.joined (pair_digest g.J.Job.encoded) t.setting t.places t.leaves.items t.standing t.top t.draft c.args.self.now c.self.view_is c.self.invariant c.requires.no_draft c.share_all.new.leaves.items c.args.fresh.now c.in-Ok.ensures.ok c.args._shift.now c.requires.fits c.as_slice.result.now (g.J.Meter.Meter.counts c.args.m.now) (g.J.Meter.Meter.counts c.draft_over.new.m) c.as_slice.ensures.value c.draft_over.ensures.counted).merges
