use Rattle.std.proofs.Common.{◌≡◌, ◌+◌, ℕ, List, sym, ap, ◌∙◌, subst, refl, arith, rules}
use Rattle.std.specs.Prelude.{Option}
use Rattle.definitions.specs.Outside.{Told}
use Rattle.record_text.specs.Reader.{reading_of, source_of}
use Rattle.record_text.specs.Script.{commands}
use Rattle.definitions.specs.Limits.{most_script}
use Rattle.slider_program.specs.Summaries.{runs_of}
use Rattle.slider_program.proofs.RunCounts.{RunsCounted, none_counted, one_counted, all_counted, one_at_most}
use Rattle.slider_program.proofs.summary.count_runs.Goals as goal

pub commands-init : goal.commands-init
commands-init g c =
    let n = c.new-reader.ensures in
    record {
      same = refl;
      sound = rw n.now n.sound;
      few = omega arith;
      counts = none_counted (reading_of c.new-reader.result) (g.S.Source.left (source_of c.new-reader.result).now) n.commands;
    }

pub commands-preserved : goal.commands-preserved
commands-preserved g c =
    let inv = c.commands.invariant in
    let e = c.in-Ok-Some.ensures in
    let told = rw c.in-Ok-Some.field-0-is at e.told in
    let moved = (rw c.in-Ok-Some.field-0-is at e.moved) refl in
    let before = inv.few in
    let one = one_at_most c.in-Ok-Some.command in
    let runs = c.runs_in-runs.ensures in
    record {
      same = e.same ∙ inv.same;
      sound = e.sound;
      few = omega (arith, before, one, runs, moved);
      counts = subst (λ (n : ℕ). RunsCounted (c.commands.runs + n) (reading_of c.next.new.self) (g.S.Source.left (source_of c.new-reader.result).now) (g.S.Source.left (source_of c.next.new.self).now)) (sym runs)
          (one_counted c.commands.runs (reading_of c.commands.reader) (reading_of c.next.new.self) (g.S.Source.left (source_of c.new-reader.result).now) (g.S.Source.left (source_of c.commands.reader).now) (g.S.Source.left (source_of c.next.new.self).now) inv.counts c.in-Ok-Some.command told);
    }

pub returns-in-Ok-None : goal.returns-in-Ok-None
returns-in-Ok-None g c =
    let counted = all_counted c.commands.runs (reading_of c.commands.reader) (reading_of c.next.new.self) (g.S.Source.left (source_of c.new-reader.result).now) (g.S.Source.left (source_of c.commands.reader).now) (g.S.Source.left (source_of c.next.new.self).now)
    c.commands.invariant.counts (rw c.in-Ok-None.field-0-is at c.in-Ok-None.ensures.told) in
    let counted_here = subst (λ (o : Option (List ℕ)). Told o (g.S.Source.left (source_of c.next.new.self).now) (λ script after. c.commands.runs ≡ runs_of (commands most_script script))) (ap g.S.Source.left c.new-reader.ensures.now) counted in
    search (counted_here, rules)
