use Rattle.std.proofs.Common.{◌≡◌, ◌∙◌}
use Rattle.definitions.proofs.TableLaws.{is_table}
use Rattle.sheets.proofs.grouping.grouped.Goals as goal

pub returns-clause-ok : goal.returns-clause-ok
returns-clause-ok g c =
    let made = c.in_ok-entries.ensures in
    is_table (g.J.Job.joined (g.J.Job.setting c.args.job.now)) c.in_ok-entries.entries.items c.args.pairs.now made.rising (λ q. made.values q ∙ c.in_ok-groups.ensures.ok q)
