use Rattle.std.proofs.Common.{[]}
use Rattle.pin_table.specs.Covers.{name_of}
use Rattle.pin_table.proofs.Covering.{covered-held}
use Rattle.pin_table.proofs.Answering.{releases, lets-go}
use Rattle.pin_table.proofs.memo.Memo.give_up.Goals as goal

pub release-requires-clause-own : goal.release-requires-clause-own
release-requires-clause-own g c = c.requires.covered.given.0.caller

pub release-requires-clause-held : goal.release-requires-clause-held
release-requires-clause-held g c = covered-held c.args.caller.now (name_of g.R.Recipe.digest_of c.args.pin) [] c.requires.covered

pub returns-in-Ok : goal.returns-in-Ok
returns-in-Ok g c = λ ps. releases c.args.caller.now c.release.new.caller (name_of g.R.Recipe.digest_of c.args.pin) ps c.number.ensures.fits c.in-Ok.ensures.released

pub returns-in-Err : goal.returns-in-Err
returns-in-Err g c = λ ps. lets-go _ c.args.caller.now c.release.new.caller (name_of g.R.Recipe.digest_of c.args.pin) ps c.in-Err.ensures.worn
