use Rattle.std.proofs.Common.{◌≡◌, true, false, List, length, refl, sym, ap, ◌∙◌, inl, inr}
use Rattle.pin_table.specs.Placing.{shard_at}
use Rattle.pin_table.specs.OwnEvents.{there, Quiet}
use Rattle.pin_table.proofs.Answering.{faults-got}
use Rattle.pin_table.proofs.OwnEvents.{hit-gained, absent-quiet, clash-quiet, quiet-worn, worn-there, absent-missed, clash-missed, clash-met, met-later}
use Rattle.pin_table.proofs.Knowing.{known-not-absent}
use Rattle.tree_laws.specs.Pairs.{IsMergeOf, pair_digest}
use Rattle.tree_laws.proofs.MergeLaws.{hit-held, kept-held, kept-unheld, kept-missed, kept-unhit, kept-worn, kept-later}
use Rattle.tree_laws.proofs.merging.merge_pair.Goals as goal

pub returns-in-Ok-Hit-clause-held : goal.returns-in-Ok-Hit-clause-held
returns-in-Ok-Hit-clause-held g c =
    hit-held g.J.Job.joined (pair_digest g.J.Job.encoded) c.args.run c.args.pair c.args.caller.now c.look.new.caller c.number.ensures.fits c.in-Ok-Hit.pin (rw c.in-Ok-Hit.field-0-is at c.in-Ok-Hit.ensures.looked)

pub returns-in-Ok-Hit-clause-made : goal.returns-in-Ok-Hit-clause-made
returns-in-Ok-Hit-clause-made g c = λ none.
    let hit = hit-gained (IsMergeOf g.J.Job.joined) (pair_digest g.J.Job.encoded) c.args.run c.args.pair c.args.caller.now c.look.new.caller c.in-Ok-Hit.pin (rw c.in-Ok-Hit.field-0-is at c.in-Ok-Hit.ensures.looked) in
    absurd (let both : true ≡ false = sym hit ∙ none in cc)

pub returns-in-Ok-Absent-clause-held : goal.returns-in-Ok-Absent-clause-held
returns-in-Ok-Absent-clause-held g c =
    let d = pair_digest g.J.Job.encoded in
    let v = c.args.caller.now in
    let w = c.look.new.caller in
    let q = absent-quiet (IsMergeOf g.J.Job.joined) d c.args.run c.args.pair v w c.number.ensures.fits (rw c.in-Ok-Absent.field-0-is at c.in-Ok-Absent.ensures.looked) in
    kept-held d c.args.pair v w c.merge_and_keep.new.caller _ q c.merge_and_keep.result c.merge_and_keep.ensures.held c.merge_and_keep.ensures.unheld

pub returns-in-Ok-Absent-clause-unheld : goal.returns-in-Ok-Absent-clause-unheld
returns-in-Ok-Absent-clause-unheld g c =
    let d = pair_digest g.J.Job.encoded in
    let v = c.args.caller.now in
    let w = c.look.new.caller in
    let q = absent-quiet (IsMergeOf g.J.Job.joined) d c.args.run c.args.pair v w c.number.ensures.fits (rw c.in-Ok-Absent.field-0-is at c.in-Ok-Absent.ensures.looked) in
    kept-unheld d c.args.pair v w c.merge_and_keep.new.caller _ q c.merge_and_keep.result c.merge_and_keep.ensures.held c.merge_and_keep.ensures.unheld

pub returns-in-Ok-Absent-clause-looked : goal.returns-in-Ok-Absent-clause-looked
returns-in-Ok-Absent-clause-looked g c =
    let d = pair_digest g.J.Job.encoded in
    let v = c.args.caller.now in
    let w = c.look.new.caller in
    let q = absent-quiet (IsMergeOf g.J.Job.joined) d c.args.run c.args.pair v w c.number.ensures.fits (rw c.in-Ok-Absent.field-0-is at c.in-Ok-Absent.ensures.looked) in
    λ rose. inl (kept-missed d c.args.pair v w c.merge_and_keep.new.caller _ q c.merge_and_keep.result c.merge_and_keep.ensures.held c.merge_and_keep.ensures.unheld (absent-missed v.number c.args.run (d c.args.pair)))

pub returns-in-Ok-Absent-clause-hit : goal.returns-in-Ok-Absent-clause-hit
returns-in-Ok-Absent-clause-hit g c =
    let d = pair_digest g.J.Job.encoded in
    let v = c.args.caller.now in
    let w = c.look.new.caller in
    let q = absent-quiet (IsMergeOf g.J.Job.joined) d c.args.run c.args.pair v w c.number.ensures.fits (rw c.in-Ok-Absent.field-0-is at c.in-Ok-Absent.ensures.looked) in
    λ h. absurd (kept-unhit d c.args.pair v w c.merge_and_keep.new.caller _ q c.merge_and_keep.result c.merge_and_keep.ensures.held c.merge_and_keep.ensures.unheld refl c.merge_and_keep.ensures.quiet h)

pub returns-in-Ok-Clash-clause-held : goal.returns-in-Ok-Clash-clause-held
returns-in-Ok-Clash-clause-held g c =
    let d = pair_digest g.J.Job.encoded in
    let v = c.args.caller.now in
    let w = c.look.new.caller in
    let q = clash-quiet (IsMergeOf g.J.Job.joined) d c.args.run c.args.pair v w _ c.number.ensures.fits (rw c.in-Ok-Clash.field-0-is at c.in-Ok-Clash.ensures.looked) in
    kept-held d c.args.pair v w c.merge_and_keep-in-Ok-Clash.new.caller _ q c.merge_and_keep-in-Ok-Clash.result c.merge_and_keep-in-Ok-Clash.ensures.held c.merge_and_keep-in-Ok-Clash.ensures.unheld

pub returns-in-Ok-Clash-clause-unheld : goal.returns-in-Ok-Clash-clause-unheld
returns-in-Ok-Clash-clause-unheld g c =
    let d = pair_digest g.J.Job.encoded in
    let v = c.args.caller.now in
    let w = c.look.new.caller in
    let q = clash-quiet (IsMergeOf g.J.Job.joined) d c.args.run c.args.pair v w _ c.number.ensures.fits (rw c.in-Ok-Clash.field-0-is at c.in-Ok-Clash.ensures.looked) in
    kept-unheld d c.args.pair v w c.merge_and_keep-in-Ok-Clash.new.caller _ q c.merge_and_keep-in-Ok-Clash.result c.merge_and_keep-in-Ok-Clash.ensures.held c.merge_and_keep-in-Ok-Clash.ensures.unheld

pub returns-in-Ok-Clash-clause-looked : goal.returns-in-Ok-Clash-clause-looked
returns-in-Ok-Clash-clause-looked g c =
    let d = pair_digest g.J.Job.encoded in
    let v = c.args.caller.now in
    let w = c.look.new.caller in
    let q = clash-quiet (IsMergeOf g.J.Job.joined) d c.args.run c.args.pair v w _ c.number.ensures.fits (rw c.in-Ok-Clash.field-0-is at c.in-Ok-Clash.ensures.looked) in
    λ rose. inl (kept-missed d c.args.pair v w c.merge_and_keep-in-Ok-Clash.new.caller _ q c.merge_and_keep-in-Ok-Clash.result c.merge_and_keep-in-Ok-Clash.ensures.held c.merge_and_keep-in-Ok-Clash.ensures.unheld (clash-missed v.number c.args.run c.in-Ok-Clash.field-0-0.id (d c.args.pair)))

pub returns-in-Ok-Clash-clause-hit : goal.returns-in-Ok-Clash-clause-hit
returns-in-Ok-Clash-clause-hit g c =
    let d = pair_digest g.J.Job.encoded in
    let v = c.args.caller.now in
    let w = c.look.new.caller in
    let q = clash-quiet (IsMergeOf g.J.Job.joined) d c.args.run c.args.pair v w _ c.number.ensures.fits (rw c.in-Ok-Clash.field-0-is at c.in-Ok-Clash.ensures.looked) in
    λ h. absurd (kept-unhit d c.args.pair v w c.merge_and_keep-in-Ok-Clash.new.caller _ q c.merge_and_keep-in-Ok-Clash.result c.merge_and_keep-in-Ok-Clash.ensures.held c.merge_and_keep-in-Ok-Clash.ensures.unheld refl c.merge_and_keep-in-Ok-Clash.ensures.quiet h)

pub returns-in-Err-Worn-clause-held : goal.returns-in-Err-Worn-clause-held
returns-in-Err-Worn-clause-held g c =
    let d = pair_digest g.J.Job.encoded in
    let v = c.args.caller.now in
    let w = c.look.new.caller in
    let q = quiet-worn (d c.args.pair) _ (shard_at (d c.args.pair) (length c.args.memo.now.locks)) v w (rw c.in-Err-Worn.field-0-is at c.in-Err-Worn.ensures.fault) in
    kept-held d c.args.pair v w c.merge_and_keep-in-Err-Worn.new.caller _ q c.merge_and_keep-in-Err-Worn.result c.merge_and_keep-in-Err-Worn.ensures.held c.merge_and_keep-in-Err-Worn.ensures.unheld

pub returns-in-Err-Worn-clause-unheld : goal.returns-in-Err-Worn-clause-unheld
returns-in-Err-Worn-clause-unheld g c =
    let d = pair_digest g.J.Job.encoded in
    let v = c.args.caller.now in
    let w = c.look.new.caller in
    let q = quiet-worn (d c.args.pair) _ (shard_at (d c.args.pair) (length c.args.memo.now.locks)) v w (rw c.in-Err-Worn.field-0-is at c.in-Err-Worn.ensures.fault) in
    kept-unheld d c.args.pair v w c.merge_and_keep-in-Err-Worn.new.caller _ q c.merge_and_keep-in-Err-Worn.result c.merge_and_keep-in-Err-Worn.ensures.held c.merge_and_keep-in-Err-Worn.ensures.unheld

pub returns-in-Err-Worn-clause-looked : goal.returns-in-Err-Worn-clause-looked
returns-in-Err-Worn-clause-looked g c =
    let d = pair_digest g.J.Job.encoded in
    let v = c.args.caller.now in
    let w = c.look.new.caller in
    let q = quiet-worn (d c.args.pair) _ (shard_at (d c.args.pair) (length c.args.memo.now.locks)) v w (rw c.in-Err-Worn.field-0-is at c.in-Err-Worn.ensures.fault) in
    λ rose. inr (kept-worn d c.args.pair v w c.merge_and_keep-in-Err-Worn.new.caller _ q c.merge_and_keep-in-Err-Worn.result c.merge_and_keep-in-Err-Worn.ensures.held c.merge_and_keep-in-Err-Worn.ensures.unheld (shard_at (d c.args.pair) (length c.args.memo.now.locks)) (ap (λ ls. shard_at (d c.args.pair) (length ls)) c.requires.of) (worn-there _ _ v w (rw c.in-Err-Worn.field-0-is at c.in-Err-Worn.ensures.fault)))

pub returns-in-Err-Worn-clause-hit : goal.returns-in-Err-Worn-clause-hit
returns-in-Err-Worn-clause-hit g c =
    let d = pair_digest g.J.Job.encoded in
    let v = c.args.caller.now in
    let w = c.look.new.caller in
    let q = quiet-worn (d c.args.pair) _ (shard_at (d c.args.pair) (length c.args.memo.now.locks)) v w (rw c.in-Err-Worn.field-0-is at c.in-Err-Worn.ensures.fault) in
    λ h. absurd (kept-unhit d c.args.pair v w c.merge_and_keep-in-Err-Worn.new.caller _ q c.merge_and_keep-in-Err-Worn.result c.merge_and_keep-in-Err-Worn.ensures.held c.merge_and_keep-in-Err-Worn.ensures.unheld refl c.merge_and_keep-in-Err-Worn.ensures.quiet h)

pub returns-in-Err-Mem-clause-unheld : goal.returns-in-Err-Mem-clause-unheld
returns-in-Err-Mem-clause-unheld g c = faults-got _ _ c.args.caller.now c.look.new.caller c.in-Err-Mem.ensures.fault

pub returns-in-Ok-Absent-clause-known : goal.returns-in-Ok-Absent-clause-known
returns-in-Ok-Absent-clause-known g c =
    let d = pair_digest g.J.Job.encoded in
    let v = c.args.caller.now in
    let w = c.look.new.caller in
    λ known. absurd (known-not-absent v.number c.args.run (d c.args.pair) v w c.number.ensures.fits refl known (rw c.in-Ok-Absent.field-0-is at c.in-Ok-Absent.ensures.looked))

pub returns-in-Ok-Clash-clause-known : goal.returns-in-Ok-Clash-clause-known
returns-in-Ok-Clash-clause-known g c =
    let d = pair_digest g.J.Job.encoded in
    let v = c.args.caller.now in
    let w = c.look.new.caller in
    let looked = rw c.in-Ok-Clash.field-0-is at c.in-Ok-Clash.ensures.looked in
    let q = clash-quiet (IsMergeOf g.J.Job.joined) d c.args.run c.args.pair v w _ c.number.ensures.fits looked in
    let later = kept-later d c.args.pair v w c.merge_and_keep-in-Ok-Clash.new.caller _ q c.merge_and_keep-in-Ok-Clash.result c.merge_and_keep-in-Ok-Clash.ensures.held c.merge_and_keep-in-Ok-Clash.ensures.unheld in
    λ known. inr (there (d c.args.pair) v, met-later (there (d c.args.pair) v) v w c.merge_and_keep-in-Ok-Clash.new.caller later (clash-met (IsMergeOf g.J.Job.joined) d c.args.run c.args.pair v w _ looked))

pub returns-in-Err-Worn-clause-known : goal.returns-in-Err-Worn-clause-known
returns-in-Err-Worn-clause-known g c =
    let d = pair_digest g.J.Job.encoded in
    let v = c.args.caller.now in
    let w = c.look.new.caller in
    let q = quiet-worn (d c.args.pair) _ (shard_at (d c.args.pair) (length c.args.memo.now.locks)) v w (rw c.in-Err-Worn.field-0-is at c.in-Err-Worn.ensures.fault) in
    λ known. inr (there (d c.args.pair) v, inr (kept-worn d c.args.pair v w c.merge_and_keep-in-Err-Worn.new.caller _ q c.merge_and_keep-in-Err-Worn.result c.merge_and_keep-in-Err-Worn.ensures.held c.merge_and_keep-in-Err-Worn.ensures.unheld (shard_at (d c.args.pair) (length c.args.memo.now.locks)) (ap (λ ls. shard_at (d c.args.pair) (length ls)) c.requires.of) (worn-there _ _ v w (rw c.in-Err-Worn.field-0-is at c.in-Err-Worn.ensures.fault))))
