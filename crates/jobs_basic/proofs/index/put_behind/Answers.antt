use Rattle.std.proofs.Common.{◌<◌, length, arith}
use Rattle.job_laws.proofs.Gains.{gains_next}
use Rattle.jobs_basic.specs.Index.{after_comma}
use Rattle.jobs_basic.proofs.index.put_behind.Goals as goal

pub returns-in-Err-clause-err : goal.returns-in-Err-clause-err
returns-in-Err-clause-err c =
    let docs = c.args.docs.now in
    let i = c.docs.doc-index in
    let within : i < length docs = grind arith in
    gains_next after_comma docs i 0 within c.args.out.now.items c.docs.out.items c.put_next.new.out.items c.docs.invariant c.in-Err.ensures.err
