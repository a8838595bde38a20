use Rattle.std.proofs.Common.{◌<◌, length, ap, sym, subst, ◌∙◌}
use Rattle.memo_server.specs.declared.answers.ShardLook.TheVariants.{Hit, Absent, Clash}
use Rattle.pin_table.specs.Known.{AtShard, Missed}
use Rattle.pin_table.specs.Placing.{shard_at}
use Rattle.pin_table.proofs.Replies.{placed, missed-none, look-answered, look-missed}
use Rattle.pin_table.proofs.memo.Memo.look.Goals as goal

pub returns-in-Err-clause-fault : goal.returns-in-Err-clause-fault
returns-in-Err-clause-fault g c =
    let d = g.R.Recipe.digest_of in
    subst (λ s. AtShard (Missed c.args.caller.now.number) s c.args.caller.now c.args.caller.now)
    (placed (d c.args.input.now) c.digest.result c.shards.result (length c.args.self.now.locks) c.shard_of-shard.result c.shard_of-shard.ensures.place c.digest.ensures c.shards.ensures.count)
    (missed-none c.shard_of-shard.result c.args.caller.now c.number-number.ensures.fits (subst (λ n. c.shard_of-shard.result < n) (c.shards.ensures.count ∙ ap length (sym c.requires.of)) c.shard_of-shard.ensures.within))

pub returns-in-Ok-Look-Ok-Hit-clause-looked : goal.returns-in-Ok-Look-Ok-Hit-clause-looked
returns-in-Ok-Look-Ok-Hit-clause-looked g c =
    let d = g.R.Recipe.digest_of in
    look-answered {R = g.row.R.Denot} g.R.Recipe.fits d c.args.caller.now c.turn.new.caller c.shard_of-shard.result c.number-number.result c.args.run c.number-number.ensures.number c.args.input.now c.in-Ok.input c.in-Ok.ensures
    (placed (d c.args.input.now) c.digest.result c.shards.result (length c.args.caller.now.locks) c.shard_of-shard.result c.shard_of-shard.ensures.place c.digest.ensures (c.shards.ensures.count ∙ ap length (sym c.requires.of)))
    (Hit c.in-Ok-Look-Ok-Hit.entry) (rw (c.in-Ok-Look-Ok-Hit.field-0-is, c.in-Ok-Look-Ok-Hit.field-0-0-is, c.in-Ok-Look-Ok-Hit.field-0-0-0-is) at c.in-Ok-Look-Ok-Hit.ensures.took)

pub returns-in-Ok-Look-Ok-Absent-clause-looked : goal.returns-in-Ok-Look-Ok-Absent-clause-looked
returns-in-Ok-Look-Ok-Absent-clause-looked g c =
    let d = g.R.Recipe.digest_of in
    look-answered {R = g.row.R.Denot} g.R.Recipe.fits d c.args.caller.now c.turn.new.caller c.shard_of-shard.result c.number-number.result c.args.run c.number-number.ensures.number c.args.input.now c.in-Ok.input c.in-Ok.ensures
    (placed (d c.args.input.now) c.digest.result c.shards.result (length c.args.caller.now.locks) c.shard_of-shard.result c.shard_of-shard.ensures.place c.digest.ensures (c.shards.ensures.count ∙ ap length (sym c.requires.of)))
    Absent (rw (c.in-Ok-Look-Ok-Absent.field-0-is, c.in-Ok-Look-Ok-Absent.field-0-0-is, c.in-Ok-Look-Ok-Absent.field-0-0-0-is) at c.in-Ok-Look-Ok-Absent.ensures.took)

pub returns-in-Ok-Look-Ok-Clash-clause-looked : goal.returns-in-Ok-Look-Ok-Clash-clause-looked
returns-in-Ok-Look-Ok-Clash-clause-looked g c =
    let d = g.R.Recipe.digest_of in
    look-answered {R = g.row.R.Denot} g.R.Recipe.fits d c.args.caller.now c.turn.new.caller c.shard_of-shard.result c.number-number.result c.args.run c.number-number.ensures.number c.args.input.now c.in-Ok.input c.in-Ok.ensures
    (placed (d c.args.input.now) c.digest.result c.shards.result (length c.args.caller.now.locks) c.shard_of-shard.result c.shard_of-shard.ensures.place c.digest.ensures (c.shards.ensures.count ∙ ap length (sym c.requires.of)))
    (Clash c.in-Ok-Look-Ok-Clash.entry) (rw (c.in-Ok-Look-Ok-Clash.field-0-is, c.in-Ok-Look-Ok-Clash.field-0-0-is, c.in-Ok-Look-Ok-Clash.field-0-0-0-is) at c.in-Ok-Look-Ok-Clash.ensures.took)

pub returns-in-Ok-Look-Err-clause-fault : goal.returns-in-Ok-Look-Err-clause-fault
returns-in-Ok-Look-Err-clause-fault g c =
    let d = g.R.Recipe.digest_of in
    look-missed g.row.R.Denot g.R.Recipe.fits d c.args.caller.now c.turn.new.caller c.shard_of-shard.result (shard_at (d c.args.input.now) (length c.args.self.now.locks))
    (placed (d c.args.input.now) c.digest.result c.shards.result (length c.args.self.now.locks) c.shard_of-shard.result c.shard_of-shard.ensures.place c.digest.ensures c.shards.ensures.count)
    c.args.run c.in-Ok.input _ (rw (c.in-Ok-Look-Err.field-0-is, c.in-Ok-Look-Err.field-0-0-is) at c.in-Ok-Look-Err.ensures.took)
