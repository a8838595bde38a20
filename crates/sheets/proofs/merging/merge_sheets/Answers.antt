use Rattle.std.proofs.Common.{◌≡◌, ◌∙◌, arith}
use Rattle.std.proofs.lemmas.Result.{IfOk-weaker}
use Rattle.definitions.specs.Tables.{merged}
use Rattle.sheets.proofs.MergedLaws.{tied_at, merged_at, rising_merged, good_merged}
use Rattle.sheets.proofs.RoseLaws.{merge_rose}
use Rattle.sheets.proofs.merging.merge_sheets.Goals as goal

pub of-requires : goal.of-requires
of-requires g c =
    let x = c.args.a.now.entries in
    let y = c.args.b.now.entries in
    let join = g.J.Job.joined (g.J.Job.setting c.args.job.now) in
    let rising_x = c.entries.ensures.rising in
    let rising_y = c.entries-2.ensures.rising in
    rising_merged join x y c.in_ok-entries.entries.items (c.in_ok-entries.ensures.ok ∙ merged_at join c.as_slice.result.now c.as_slice-2.result.now x y (c.as_slice.ensures.value ∙ c.entries.ensures.value) (c.as_slice-2.ensures.value ∙ c.entries-2.ensures.value) rising_x rising_y)

pub of-requires-2 : goal.of-requires-2
of-requires-2 g c =
    let laws = g.met.J.Job in
    let s = g.J.Job.setting c.args.job.now in
    let x = c.args.a.now.entries in
    let y = c.args.b.now.entries in
    let join = g.J.Job.joined s in
    let rising_x = c.entries.ensures.rising in
    let rising_y = c.entries-2.ensures.rising in
    good_merged g.J.Job.good join s c.args.a.now.setting c.args.b.now.setting c.setting.result x y c.of.result (laws.join_laws s) c.setting.ensures c.requires.left c.requires.right c.entries.ensures.good c.entries-2.ensures.good (c.of.ensures ∙ c.in_ok-entries.ensures.ok ∙ merged_at join c.as_slice.result.now c.as_slice-2.result.now x y (c.as_slice.ensures.value ∙ c.entries.ensures.value) (c.as_slice-2.ensures.value ∙ c.entries-2.ensures.value) rising_x rising_y)

pub returns-clause-entries : goal.returns-clause-entries
returns-clause-entries g c =
    let x = c.args.a.now.entries in
    let y = c.args.b.now.entries in
    let join = g.J.Job.joined (g.J.Job.setting c.args.job.now) in
    let rising_x = c.entries.ensures.rising in
    let rising_y = c.entries-2.ensures.rising in
    IfOk-weaker c.of-2.result (λ sheet. sheet.entries ≡ c.of.result) (λ sheet. sheet.entries ≡ merged join x y) (λ sheet made. made ∙ c.of.ensures ∙ c.in_ok-entries.ensures.ok ∙ merged_at join c.as_slice.result.now c.as_slice-2.result.now x y (c.as_slice.ensures.value ∙ c.entries.ensures.value) (c.as_slice-2.ensures.value ∙ c.entries-2.ensures.value) rising_x rising_y) c.of-2.ensures.entries

pub returns-in_err-entries-clause-counted : goal.returns-in_err-entries-clause-counted
returns-in_err-entries-clause-counted g c =
    let x = c.args.a.now.entries in
    let y = c.args.b.now.entries in
    let count = g.J.Meter.Meter.counts in
    let rising_x = c.entries.ensures.rising in
    let rising_y = c.entries-2.ensures.rising in
    let tied = tied_at c.as_slice.result.now c.as_slice-2.result.now x y (c.as_slice.ensures.value ∙ c.entries.ensures.value) (c.as_slice-2.ensures.value ∙ c.entries-2.ensures.value) rising_x rising_y in
    merge_rose (count c.args.m.now) (count c.merge.new.self) (count c.merge_entries.new.m) tied c.merge.ensures c.merge_entries.ensures.counted

pub returns-clause-counted : goal.returns-clause-counted
returns-clause-counted g c =
    let x = c.args.a.now.entries in
    let y = c.args.b.now.entries in
    let count = g.J.Meter.Meter.counts in
    let rising_x = c.entries.ensures.rising in
    let rising_y = c.entries-2.ensures.rising in
    let tied = tied_at c.as_slice.result.now c.as_slice-2.result.now x y (c.as_slice.ensures.value ∙ c.entries.ensures.value) (c.as_slice-2.ensures.value ∙ c.entries-2.ensures.value) rising_x rising_y in
    merge_rose (count c.args.m.now) (count c.merge.new.self) (count c.merge_entries.new.m) tied c.merge.ensures c.merge_entries.ensures.counted
