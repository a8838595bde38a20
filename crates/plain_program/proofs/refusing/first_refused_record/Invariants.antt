use Rattle.std.proofs.Common.{◌≡◌, drop}
use Rattle.window_manager.specs.Windows.{first_refused, refused_from}
use Rattle.plain_program.proofs.refusing.first_refused_record.Given as goal

abbrev pub invariant-records : goal.invariant-records
invariant-records g l =
    let accepts = g.J.Job.accepts (g.J.Job.setting l.job) in
    refused_from accepts l.i (drop l.i l.records) ≡ first_refused accepts l.records
