use Rattle.std.proofs.Common.{◌≡◌, length, sym, ap}
use Rattle.pin_table.specs.Placing.{shard_at}
use Rattle.pin_table.specs.OwnEvents.{there}
use Rattle.pin_table.proofs.Answering.{faults-got}
use Rattle.map_tasks.specs.Leaves.{AreSheetsOf}
use Rattle.map_tasks.specs.Texts.{digest_of_input}
use Rattle.map_tasks.proofs.Keeping.{stored-brought, found-brought, keep-clash-brought, worn-brought}
use Rattle.map_tasks.proofs.fetching.keep_shared.Goals as goal

pub returns-in-Ok-Stored : goal.returns-in-Ok-Stored
returns-in-Ok-Stored g c =
    let h = rw c.in-Ok-Stored.field-0-is at c.in-Ok-Stored.ensures.kept in
    let b = stored-brought (λ i out. AreSheetsOf g.J.Job i out.items) c.args.run c.args.input c.args.caller.now c.keep.new.caller c.number.ensures.fits c.args.sheets c.in-Ok-Stored.pin h in
    record { leaf = c.requires.leaf; pin = b.0; got = b.1; given = b.2; kept = b.3 }

pub returns-in-Ok-Found : goal.returns-in-Ok-Found
returns-in-Ok-Found g c =
    let h = rw c.in-Ok-Found.field-0-is at c.in-Ok-Found.ensures.kept in
    let b = found-brought (λ i out. AreSheetsOf g.J.Job i out.items) c.args.run c.args.input c.args.caller.now c.keep.new.caller c.number.ensures.fits c.args.sheets c.in-Ok-Found.pin h in
    record { leaf = c.requires.leaf; pin = b.0; got = b.1; given = b.2; kept = b.3 }

pub returns-in-Ok-Clash : goal.returns-in-Ok-Clash
returns-in-Ok-Clash g c =
    let h = rw c.in-Ok-Clash.field-0-is at c.in-Ok-Clash.ensures.kept in
    let b = keep-clash-brought (λ i out. AreSheetsOf g.J.Job i out.items) c.args.run c.args.input c.args.caller.now c.keep.new.caller c.number.ensures.fits c.args.sheets c.in-Ok-Clash.field-0-0 c.in-Ok-Clash.field-0-1 c.in-Ok-Clash.field-0-2 h in
    record { leaf = c.requires.leaf; pin = b.0; got = b.1; given = b.2; kept = b.3 }

pub returns-in-Worn : goal.returns-in-Worn
returns-in-Worn g c =
    let at = rw c.in-Worn.is at c.in-Err.ensures.fault in
    let s = shard_at (digest_of_input c.args.input) (length c.args.memo.now.locks) in
    let place : s ≡ there (digest_of_input c.args.input) c.args.caller.now = ap (λ ls. shard_at (digest_of_input c.args.input) (length ls)) (sym c.requires.of) in
    let b = worn-brought c.args.input c.in-Worn.ticket s c.args.caller.now c.keep.new.caller place at in
    record { leaf = c.requires.leaf; pin = b.0; got = b.1; given = b.2; kept = b.3 }

pub returns-in-Mem-clause-got : goal.returns-in-Mem-clause-got
returns-in-Mem-clause-got g c = faults-got c.in-Err.refused.fault (shard_at (digest_of_input c.args.input) (length c.args.memo.now.locks)) c.args.caller.now c.keep.new.caller c.in-Err.ensures.fault
