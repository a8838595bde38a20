use Rattle.std.proofs.Common.{◌≡◌, ◌∙◌, List, ℕ, ◌++◌, length, sym, subst}
use Rattle.std.specs.Prelude.{IfOk}
use Rattle.definitions.specs.Tables.{table_of}
use Rattle.definitions.specs.Answer.{pairs_of, lines_of}
use Rattle.definitions.proofs.TableLaws.{IsRising-table}
use Rattle.sheets.specs.United.{Apart, tables_of, united}
use Rattle.sheets.proofs.PartUnion.{parts-apart, parts-united, sheets-parts}
use Rattle.marker_chunker.specs.Cuts.{joined}
use Rattle.job_laws.specs.Meanings.{meaning_of}
use Rattle.slider_session.specs.Output.{header}
use Rattle.slider_session.proofs.Tables.{piece_is}
use Rattle.slider_session.proofs.answering.piece_of.Goals as goal

pub answer_of-requires-clause-apart : goal.answer_of-requires-clause-apart
answer_of-requires-clause-apart g c =
    let e = c.args.engine.now in
    let s = g.J.Job.setting e.job in
    let table = table_of (g.J.Job.joined s) (pairs_of (g.J.Job.emits s) (joined e.leaves)) in
    let roots = c.in_ok-roots.roots.items in
    subst (λ l. Apart (tables_of l)) (sym c.as_slice.ensures.value) (parts-apart c.args.parts table (tables_of roots) (sheets-parts c.args.parts s table roots c.in_ok-roots.ensures))

pub returns : goal.returns
returns g c =
    let e = c.args.engine.now in
    let s = g.J.Job.setting e.job in
    let j = meaning_of g.J.Job e.job in
    let records = joined e.leaves in
    let table = table_of j.joined (pairs_of j.emits records) in
    let roots = c.in_ok-roots.roots.items in
    let rows = united (tables_of roots) in
    let all : rows ≡ table = parts-united c.args.parts table (tables_of roots) c.requires.some.0 (IsRising-table j.joined (pairs_of j.emits records)) (sheets-parts c.args.parts s table roots c.in_ok-roots.ensures) in
    let same = c.as_slice.ensures.value in
    let keys : c.in_ok-keys.keys ≡ length rows = c.in_ok-keys.ensures.count ∙ (λ i. length (united (tables_of (same i)))) in
    let lines : c.as_slice-2.result.now ≡ lines_of j.text rows =
    c.as_slice-2.ensures.value ∙ c.in_ok-keys.ensures.ok ∙ (λ i. c.new-lines.ensures.items i ++ lines_of (g.J.Job.text (g.J.Job.setting (c.job.ensures i))) (united (tables_of (same i)))) in
    subst (λ (l : List ℕ). IfOk c.bytes_of.result (λ bytes. bytes.items ≡ l)) ((λ i. header c.args.run (keys i) ++ lines i) ∙ piece_is j c.args.run records rows all) c.bytes_of.ensures
