use Rattle.std.proofs.Common.{sym, subst}
use Rattle.definitions.specs.Tables.{table_of}
use Rattle.definitions.specs.Answer.{pairs_of}
use Rattle.sheets.specs.United.{Apart, tables_of}
use Rattle.sheets.proofs.PartUnion.{parts-apart, sheets-parts}
use Rattle.sheets.proofs.tests.answer_in_parts.Goals as goal

pub answer_of-requires-clause-apart : goal.answer_of-requires-clause-apart
answer_of-requires-clause-apart g c =
    let s = g.J.Job.setting c.args.job.now in
    let table = table_of (g.J.Job.joined s) (pairs_of (g.J.Job.emits s) c.args.records.now) in
    let roots = c.in_ok-roots.roots.items in
    subst (λ l. Apart (tables_of l)) (sym c.as_slice.ensures.value) (parts-apart 16 table (tables_of roots) (sheets-parts 16 s table roots c.in_ok-roots.ensures.ok))
