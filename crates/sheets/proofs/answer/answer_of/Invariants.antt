use Rattle.std.proofs.Common.{◌≡◌, ◌+◌, length, All}
use Rattle.definitions.specs.Tables.{HasGoodValues, IsRising}
use Rattle.definitions.specs.Answer.{lines_of}
use Rattle.sheets.specs.United.{Apart, united}
use Rattle.sheets.proofs.AnswerSteps.{Written}
use Rattle.sheets.proofs.answer.answer_of.Given as goal

abbrev pub invariant-entries : goal.invariant-entries
invariant-entries g l =
    let s = g.J.Job.setting l.job in
    record {
      rising : All IsRising l.rests.items;
      good : All (HasGoodValues (g.J.Job.good s)) l.rests.items;
      apart : Apart l.rests.items;
      count : l.count + length (united l.rests.items) ≡ length (united l.initial.rests.items);
      written : Written (g.J.Job.text s) l.initial.out.items l.out.items (lines_of (g.J.Job.text s) (united l.initial.rests.items)) (united l.rests.items);
    }

abbrev pub decreases-entries : goal.decreases-entries
decreases-entries g l = length (united l.rests.items)
