use Rattle.std.proofs.Common.{length, sym, ap, subst, ◌∙◌, arith}
use Rattle.definitions.specs.Tables.{IsRising, HasGoodValues, table_of}
use Rattle.definitions.specs.Answer.{pairs_of}
use Rattle.definitions.proofs.TableLaws.{IsRising-table, good-table}
use Rattle.job_laws.specs.Counted.{RoseBy}
use Rattle.job_laws.proofs.CountLaws.{rose_then}
use Rattle.sheets.proofs.PairLaws.{good_pairs}
use Rattle.sheets.proofs.mapping.map_sheets.Goals as goal

pub grouped-requires : goal.grouped-requires
grouped-requires g c =
    let laws = g.met.J.Job in
    let s = g.J.Job.setting c.args.job.now in
    subst (HasGoodValues (g.J.Job.good s)) (sym c.in_ok-pairs.ensures.ok) (good_pairs (g.J.Job.emits s) (g.J.Job.good s) (g.J.Job.accepts s) (laws.emits_good s) c.args.records.now c.requires.accepted)

pub sheets_of_parts-requires-clause-rising : goal.sheets_of_parts-requires-clause-rising
sheets_of_parts-requires-clause-rising g c =
    subst IsRising (sym c.in_ok-entries.ensures.ok) (IsRising-table (g.J.Job.joined (g.J.Job.setting c.args.job.now)) c.in_ok-pairs.pairs)

pub sheets_of_parts-requires-clause-good : goal.sheets_of_parts-requires-clause-good
sheets_of_parts-requires-clause-good g c =
    let laws = g.met.J.Job in
    let s = g.J.Job.setting c.args.job.now in
    let pairs = good_pairs (g.J.Job.emits s) (g.J.Job.good s) (g.J.Job.accepts s) (laws.emits_good s) c.args.records.now c.requires.accepted in
    let table = good-table (laws.join_laws s) (pairs_of (g.J.Job.emits s) c.args.records.now) pairs in
    subst (λ n. HasGoodValues (g.J.Job.good n) c.in_ok-entries.entries.items) (sym c.setting.ensures) (subst (HasGoodValues (g.J.Job.good s)) (sym (c.in_ok-entries.ensures.ok ∙ ap (table_of (g.J.Job.joined s)) (c.in_ok-pairs.ensures.ok))) table)
