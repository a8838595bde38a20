use Rattle.std.proofs.Common.{length, ap, sym, ◌∙◌}
use Rattle.memo_server.specs.declared.answers.ShardKeep.TheVariants.{Stored, Found, Clash}
use Rattle.pin_table.specs.Placing.{shard_at}
use Rattle.pin_table.proofs.Replies.{placed, keep-answered, keep-missed}
use Rattle.pin_table.proofs.memo.Memo.keep.Goals as goal

pub returns-in-Ok-Keep-Ok-Stored-clause-kept : goal.returns-in-Ok-Keep-Ok-Stored-clause-kept
returns-in-Ok-Keep-Ok-Stored-clause-kept g c =
    let d = g.R.Recipe.digest_of in
    keep-answered {R = g.row.R.Denot} g.R.Recipe.fits d c.args.caller.now c.turn.new.caller c.shard_of-shard.result c.number-number.result c.args.run c.number-number.ensures.number c.args.input c.args.out
    (placed (d c.args.input) c.digest.result c.shards.result (length c.args.caller.now.locks) c.shard_of-shard.result c.shard_of-shard.ensures.place c.digest.ensures (c.shards.ensures.count ∙ ap length (sym c.requires.of)))
    (Stored c.in-Ok-Keep-Ok-Stored.entry) (rw (c.in-Ok-Keep-Ok-Stored.field-0-is, c.in-Ok-Keep-Ok-Stored.field-0-0-is, c.in-Ok-Keep-Ok-Stored.field-0-0-0-is) at c.in-Ok-Keep-Ok-Stored.ensures.took)

pub returns-in-Ok-Keep-Ok-Found-clause-kept : goal.returns-in-Ok-Keep-Ok-Found-clause-kept
returns-in-Ok-Keep-Ok-Found-clause-kept g c =
    let d = g.R.Recipe.digest_of in
    keep-answered {R = g.row.R.Denot} g.R.Recipe.fits d c.args.caller.now c.turn.new.caller c.shard_of-shard.result c.number-number.result c.args.run c.number-number.ensures.number c.args.input c.args.out
    (placed (d c.args.input) c.digest.result c.shards.result (length c.args.caller.now.locks) c.shard_of-shard.result c.shard_of-shard.ensures.place c.digest.ensures (c.shards.ensures.count ∙ ap length (sym c.requires.of)))
    (Found c.in-Ok-Keep-Ok-Found.entry) (rw (c.in-Ok-Keep-Ok-Found.field-0-is, c.in-Ok-Keep-Ok-Found.field-0-0-is, c.in-Ok-Keep-Ok-Found.field-0-0-0-is) at c.in-Ok-Keep-Ok-Found.ensures.took)

pub returns-in-Ok-Keep-Ok-Clash-clause-kept : goal.returns-in-Ok-Keep-Ok-Clash-clause-kept
returns-in-Ok-Keep-Ok-Clash-clause-kept g c =
    let d = g.R.Recipe.digest_of in
    keep-answered {R = g.row.R.Denot} g.R.Recipe.fits d c.args.caller.now c.turn.new.caller c.shard_of-shard.result c.number-number.result c.args.run c.number-number.ensures.number c.args.input c.args.out
    (placed (d c.args.input) c.digest.result c.shards.result (length c.args.caller.now.locks) c.shard_of-shard.result c.shard_of-shard.ensures.place c.digest.ensures (c.shards.ensures.count ∙ ap length (sym c.requires.of)))
    (Clash c.in-Ok-Keep-Ok-Clash.entry c.in-Ok-Keep-Ok-Clash.input c.in-Ok-Keep-Ok-Clash.out) (rw (c.in-Ok-Keep-Ok-Clash.field-0-is, c.in-Ok-Keep-Ok-Clash.field-0-0-is, c.in-Ok-Keep-Ok-Clash.field-0-0-0-is) at c.in-Ok-Keep-Ok-Clash.ensures.took)

pub returns-in-Ok-Keep-Err-clause-fault : goal.returns-in-Ok-Keep-Err-clause-fault
returns-in-Ok-Keep-Err-clause-fault g c =
    let d = g.R.Recipe.digest_of in
    keep-missed g.row.R.Denot g.R.Recipe.fits d c.args.caller.now c.turn.new.caller c.shard_of-shard.result (shard_at (d c.args.input) (length c.args.self.now.locks))
    (placed (d c.args.input) c.digest.result c.shards.result (length c.args.self.now.locks) c.shard_of-shard.result c.shard_of-shard.ensures.place c.digest.ensures c.shards.ensures.count)
    c.args.run c.args.input c.args.out _ (rw (c.in-Ok-Keep-Err.field-0-is, c.in-Ok-Keep-Err.field-0-0-is) at c.in-Ok-Keep-Err.ensures.took)
