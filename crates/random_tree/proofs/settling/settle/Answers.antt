use Rattle.std.proofs.Common.{◌++◌, ◌+◌, refl, sym, subst, ◌∙◌}
use Rattle.std.proofs.lemmas.List.{nil_from_length}
use Rattle.pin_table.specs.Covers.{Covered, Balanced}
use Rattle.tree_laws.specs.Pairs.{pair_digest}
use Rattle.random_tree.specs.Levels.{groups_pins}
use Rattle.random_tree.proofs.SpliceLaws.{lost-count, cut, cut-within}
use Rattle.random_tree.proofs.PinLaws.{kept, lost, replaced-covered, replaced-balanced}
use Rattle.random_tree.proofs.settling.settle.Goals as goal

pub drop_last-requires-clause-covered : goal.drop_last-requires-clause-covered
drop_last-requires-clause-covered g c =
    let d = pair_digest g.J.Job.encoded in
    let l = c.args.level.now in
    subst (λ hs. Covered c.args.caller.now (groups_pins d hs)) (sym c.replace.ensures.items) (replaced-covered d l.draft.first l.draft.gone l.groups.items l.draft.fresh.items c.args.caller.now c.requires.covered)

pub drop_last-requires-clause-within : goal.drop_last-requires-clause-within
drop_last-requires-clause-within g c =
    let d = pair_digest g.J.Job.encoded in
    let l = c.args.level.now in
    cut-within c.replace.new.list.items (kept d l.draft.first l.draft.gone l.groups.items l.draft.fresh.items) (lost d l.draft.first l.draft.gone l.groups.items l.draft.fresh.items) l.draft.gone c.replace.ensures.items (lost-count l.groups.items l.draft.first l.draft.gone c.requires.fits)

pub returns-clause-taken : goal.returns-clause-taken
returns-clause-taken g c =
    let d = pair_digest g.J.Job.encoded in
    let l = c.args.level.now in
    c.drop_last.ensures.items ∙ cut c.replace.new.list.items (kept d l.draft.first l.draft.gone l.groups.items l.draft.fresh.items) (lost d l.draft.first l.draft.gone l.groups.items l.draft.fresh.items) l.draft.gone c.replace.ensures.items (lost-count l.groups.items l.draft.first l.draft.gone c.requires.fits)

pub returns-clause-undrafted : goal.returns-clause-undrafted
returns-clause-undrafted g c = (refl, refl, nil_from_length c.replace.new.fresh.items c.replace.ensures.fresh)

pub returns-clause-balanced : goal.returns-clause-balanced
returns-clause-balanced g c =
    let d = pair_digest g.J.Job.encoded in
    let l = c.args.level.now in
    let u = c.args.caller.now in
    let w = c.drop_last.new.caller in
    let gs = l.groups.items in
    let fresh = l.draft.fresh.items in
    let stays = kept d l.draft.first l.draft.gone gs fresh in
    let goes = lost d l.draft.first l.draft.gone gs fresh in
    let none = c.replace.new.fresh.items in
    let same = c.drop_last.ensures.items ∙ cut c.replace.new.list.items stays goes l.draft.gone c.replace.ensures.items (lost-count gs l.draft.first l.draft.gone c.requires.fits) in
    let dropped : Balanced u (groups_pins d (stays ++ goes)) w (groups_pins d stays) =
    subst (λ hs. Balanced u (groups_pins d (stays ++ goes)) w (groups_pins d hs)) same
    (subst (λ hs. Balanced u (groups_pins d hs) w (groups_pins d c.drop_last.new.groups.items)) c.replace.ensures.items c.drop_last.ensures.balanced) in
    subst (λ hs. Balanced u (groups_pins d gs ++ groups_pins d fresh) w (groups_pins d hs ++ groups_pins d none)) (sym same)
    (replaced-balanced d l.draft.first l.draft.gone gs fresh u w none (nil_from_length none c.replace.ensures.fresh) dropped)
