use Rattle.std.proofs.Common.{◌≡◌, length, sym, ap}
use Rattle.pin_table.specs.Placing.{shard_at}
use Rattle.pin_table.specs.OwnEvents.{there}
use Rattle.pin_table.proofs.Answering.{faults-got}
use Rattle.map_tasks.specs.Inputs.{input_digest}
use Rattle.map_tasks.specs.Leaves.{AreSheetsOf}
use Rattle.map_tasks.specs.Lanes.{KeptOrClashed}
use Rattle.map_tasks.proofs.Outcomes.{ok-const, ok-map}
use Rattle.map_tasks.specs.Texts.{digest_of_input, maybe_pins}
use Rattle.map_tasks.proofs.Keeping.{hit-brought, look-clash-brought, worn-brought, absent-then, clash-looked, worn-looked}
use Rattle.map_tasks.proofs.fetching.fetch.Goals as goal

pub returns-in-Ok-Hit-clause-pin : goal.returns-in-Ok-Hit-clause-pin
returns-in-Ok-Hit-clause-pin g c =
    let h = rw c.in-Ok-Hit.field-0-is at c.in-Ok-Hit.ensures.looked in
    (hit-brought (λ i out. AreSheetsOf g.J.Job i out.items) c.args.run c.args.input.now c.args.caller.now c.look.new.caller c.number.ensures.fits c.in-Ok-Hit.pin h).0

pub returns-in-Ok-Hit-clause-got : goal.returns-in-Ok-Hit-clause-got
returns-in-Ok-Hit-clause-got g c =
    let h = rw c.in-Ok-Hit.field-0-is at c.in-Ok-Hit.ensures.looked in
    (hit-brought (λ i out. AreSheetsOf g.J.Job i out.items) c.args.run c.args.input.now c.args.caller.now c.look.new.caller c.number.ensures.fits c.in-Ok-Hit.pin h).1

pub returns-in-Ok-Hit-clause-given : goal.returns-in-Ok-Hit-clause-given
returns-in-Ok-Hit-clause-given g c =
    let h = rw c.in-Ok-Hit.field-0-is at c.in-Ok-Hit.ensures.looked in
    (hit-brought (λ i out. AreSheetsOf g.J.Job i out.items) c.args.run c.args.input.now c.args.caller.now c.look.new.caller c.number.ensures.fits c.in-Ok-Hit.pin h).2

pub returns-in-Ok-Hit-clause-kept : goal.returns-in-Ok-Hit-clause-kept
returns-in-Ok-Hit-clause-kept g c =
    let h = rw c.in-Ok-Hit.field-0-is at c.in-Ok-Hit.ensures.looked in
    ok-const c.shared_leaf-leaf.result (KeptOrClashed (input_digest c.args.input.now.text) c.args.caller.now c.look.new.caller)
    (hit-brought (λ i out. AreSheetsOf g.J.Job i out.items) c.args.run c.args.input.now c.args.caller.now c.look.new.caller c.number.ensures.fits c.in-Ok-Hit.pin h).3

pub returns-in-Ok-Absent-clause-got : goal.returns-in-Ok-Absent-clause-got
returns-in-Ok-Absent-clause-got g c =
    let h = rw c.in-Ok-Absent.field-0-is at c.in-Ok-Absent.ensures.looked in
    (absent-then c.args.input.now c.args.run (maybe_pins c.map_and_keep.result.pin) c.args.caller.now c.look.new.caller c.map_and_keep.new.caller c.number.ensures.fits h c.map_and_keep.ensures.got).0

pub returns-in-Ok-Absent-clause-looked : goal.returns-in-Ok-Absent-clause-looked
returns-in-Ok-Absent-clause-looked g c =
    let h = rw c.in-Ok-Absent.field-0-is at c.in-Ok-Absent.ensures.looked in
    λ rose. (absent-then c.args.input.now c.args.run (maybe_pins c.map_and_keep.result.pin) c.args.caller.now c.look.new.caller c.map_and_keep.new.caller c.number.ensures.fits h c.map_and_keep.ensures.got).1

pub returns-in-Ok-Absent-clause-kept : goal.returns-in-Ok-Absent-clause-kept
returns-in-Ok-Absent-clause-kept g c =
    let h = rw c.in-Ok-Absent.field-0-is at c.in-Ok-Absent.ensures.looked in
    ok-map c.map_and_keep.result.leaf (KeptOrClashed (input_digest c.args.input.now.text) c.look.new.caller c.map_and_keep.new.caller) (KeptOrClashed (input_digest c.args.input.now.text) c.args.caller.now c.map_and_keep.new.caller)
    (absent-then c.args.input.now c.args.run (maybe_pins c.map_and_keep.result.pin) c.args.caller.now c.look.new.caller c.map_and_keep.new.caller c.number.ensures.fits h c.map_and_keep.ensures.got).2 c.map_and_keep.ensures.kept

pub returns-in-Ok-Clash-clause-got : goal.returns-in-Ok-Clash-clause-got
returns-in-Ok-Clash-clause-got g c =
    let h = rw c.in-Ok-Clash.field-0-is at c.in-Ok-Clash.ensures.looked in
    (look-clash-brought (λ i out. AreSheetsOf g.J.Job i out.items) c.args.run c.args.input.now c.args.caller.now c.look.new.caller c.number.ensures.fits c.in-Ok-Clash.field-0-0 h).1

pub returns-in-Ok-Clash-clause-kept : goal.returns-in-Ok-Clash-clause-kept
returns-in-Ok-Clash-clause-kept g c =
    let h = rw c.in-Ok-Clash.field-0-is at c.in-Ok-Clash.ensures.looked in
    ok-const c.mapped_leaf-leaf.result (KeptOrClashed (input_digest c.args.input.now.text) c.args.caller.now c.look.new.caller)
    (look-clash-brought (λ i out. AreSheetsOf g.J.Job i out.items) c.args.run c.args.input.now c.args.caller.now c.look.new.caller c.number.ensures.fits c.in-Ok-Clash.field-0-0 h).3

pub returns-in-Ok-Clash-clause-looked : goal.returns-in-Ok-Clash-clause-looked
returns-in-Ok-Clash-clause-looked g c =
    let h = rw c.in-Ok-Clash.field-0-is at c.in-Ok-Clash.ensures.looked in
    λ rose. clash-looked (λ i out. AreSheetsOf g.J.Job i out.items) c.args.run c.args.input.now c.args.caller.now c.look.new.caller c.number.ensures.fits c.in-Ok-Clash.field-0-0 h

pub returns-in-Err-Worn-clause-got : goal.returns-in-Err-Worn-clause-got
returns-in-Err-Worn-clause-got g c = faults-got _ (shard_at (digest_of_input c.args.input.now) (length c.args.memo.now.locks)) c.args.caller.now c.look.new.caller c.in-Err-Worn.ensures.fault

pub returns-in-Err-Worn-clause-kept : goal.returns-in-Err-Worn-clause-kept
returns-in-Err-Worn-clause-kept g c =
    let at = rw c.in-Err-Worn.field-0-is at c.in-Err-Worn.ensures.fault in
    let s = shard_at (digest_of_input c.args.input.now) (length c.args.memo.now.locks) in
    let place : s ≡ there (digest_of_input c.args.input.now) c.args.caller.now = ap (λ ls. shard_at (digest_of_input c.args.input.now) (length ls)) (sym c.requires.of) in
    ok-const c.mapped_leaf-leaf-in-Err-Worn.result (KeptOrClashed (input_digest c.args.input.now.text) c.args.caller.now c.look.new.caller)
    (worn-brought c.args.input.now c.in-Err-Worn.field-0-0 s c.args.caller.now c.look.new.caller place at).3

pub returns-in-Err-Worn-clause-looked : goal.returns-in-Err-Worn-clause-looked
returns-in-Err-Worn-clause-looked g c =
    let at = rw c.in-Err-Worn.field-0-is at c.in-Err-Worn.ensures.fault in
    let s = shard_at (digest_of_input c.args.input.now) (length c.args.memo.now.locks) in
    let place : s ≡ there (digest_of_input c.args.input.now) c.args.caller.now = ap (λ ls. shard_at (digest_of_input c.args.input.now) (length ls)) (sym c.requires.of) in
    λ rose. worn-looked c.args.input.now c.in-Err-Worn.field-0-0 s c.args.caller.now c.look.new.caller place at

pub returns-in-Err-Mem-clause-got : goal.returns-in-Err-Mem-clause-got
returns-in-Err-Mem-clause-got g c = faults-got _ (shard_at (digest_of_input c.args.input.now) (length c.args.memo.now.locks)) c.args.caller.now c.look.new.caller c.in-Err-Mem.ensures.fault
