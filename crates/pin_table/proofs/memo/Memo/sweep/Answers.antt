use Rattle.std.proofs.Common.{refl}
use Rattle.pin_table.proofs.Replies.{swept, sweep-missed}
use Rattle.pin_table.proofs.memo.Memo.sweep.Goals as goal

pub returns-in-Ok-Sweep-Ok-clause-swept : goal.returns-in-Ok-Sweep-Ok-clause-swept
returns-in-Ok-Sweep-Ok-clause-swept g c = swept g.row.R.Denot g.R.Recipe.fits g.R.Recipe.digest_of c.args.caller.now c.turn.new.caller c.args.shard c.args.shard refl c.args.horizon c.in-Ok-Sweep-Ok.dropped (rw (c.in-Ok-Sweep-Ok.field-0-is, c.in-Ok-Sweep-Ok.field-0-0-is) at c.in-Ok-Sweep-Ok.ensures.took)

pub returns-in-Ok-Sweep-Err-clause-fault : goal.returns-in-Ok-Sweep-Err-clause-fault
returns-in-Ok-Sweep-Err-clause-fault g c = sweep-missed g.row.R.Denot g.R.Recipe.fits g.R.Recipe.digest_of c.args.caller.now c.turn.new.caller c.args.shard c.args.shard refl c.args.horizon _ (rw (c.in-Ok-Sweep-Err.field-0-is, c.in-Ok-Sweep-Err.field-0-0-is) at c.in-Ok-Sweep-Err.ensures.took)
