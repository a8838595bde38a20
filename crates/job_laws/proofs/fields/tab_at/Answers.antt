use Rattle.std.proofs.Common.{◌≡◌, ◌<◌, length, nat_lt, true, false, arith, get_or}
use Rattle.job_laws.proofs.FirstTab.{split_found, split_none}
use Rattle.job_laws.proofs.fields.tab_at.Goals as goal

pub returns-then-r-i-eq9-clause-fields : goal.returns-then-r-i-eq9-clause-fields
returns-then-r-i-eq9-clause-fields c =
    let r = c.args.r.now in
    let i = c.bytes.i in
    let lt : i < length r = omega arith in
    let within : nat_lt i (length r) ≡ true = grind arith in
    let is : get_or r i 0 ≡ 9 = grind arith in
    rw within (split_found r i lt c.bytes.invariant is)

pub returns-clause-fields : goal.returns-clause-fields
returns-clause-fields c =
    let r = c.args.r.now in
    let ended : c.bytes.i ≡ length r = omega arith in
    let past : nat_lt (length r) (length r) ≡ false = grind arith in
    rw past (split_none r (λ j l. c.bytes.invariant j (omega (arith, l))))
