use Rattle.std.proofs.Common.{◌≡◌, ◌≤◌, ◌-◌, ◌++◌, [], length, take, drop, get_or, arith}
use Rattle.std.specs.Prelude.{decimal}
use Rattle.job_laws.proofs.Gains.{gains_within}
use Rattle.jobs_basic.specs.Index.{behind_commas, with_commas}
use Rattle.jobs_basic.proofs.IndexSteps.{commas_first}
use Rattle.jobs_basic.proofs.index.put_docs.Goals as goal

pub returns-in-Err-clause-err : goal.returns-in-Err-clause-err
returns-in-Err-clause-err c =
    let docs = c.args.docs.now in
    let some : 1 ≤ length docs = c.in-len1-up.len_at_least in
    let number = decimal (get_or docs 0 0) in
    let more = take (length docs - 1) (drop 1 docs) in
    let written : c.extend_from_slice.new.self.items ≡ c.args.out.now.items ++ number = grind arith in
    gains_within number (behind_commas more) [] (with_commas docs) c.args.out.now.items c.extend_from_slice.new.self.items c.put_behind.new.out.items
    (commas_first docs 0 some) written c.in-Err.ensures.err
