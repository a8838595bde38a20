use Rattle.std.proofs.Common.{◌≡◌, ℕ, ◌+◌, List, refl, ap, ◌∙◌, subst, arith, rules}
use Rattle.std.specs.Prelude.{Ok, Err}
use Rattle.std.specs.declared.option.Option.TheVariants.{Some}
use Rattle.definitions.specs.Limits.{most_script}
use Rattle.record_text.specs.Reader.{reading_of, source_of}
use Rattle.record_text.specs.Script.{commands}
use Rattle.record_text.specs.declared.command.Command.TheVariants.{Run}
use Rattle.record_text.proofs.ReadLaws.{uses_none}
use Rattle.job_laws.specs.Meanings.{meaning_of}
use Rattle.window_manager.specs.Windows.{empty_window}
use Rattle.window_manager.specs.Views.{no_leaves}
use Rattle.run_engine.specs.Runs.{RunWorked}
use Rattle.slider_session.specs.Calls.{Steps, RunSaid}
use Rattle.slider_session.specs.Costs.{ScriptCosts}
use Rattle.slider_session.specs.Devices.{source_view, sink_view}
use Rattle.slider_session.specs.Serving.{Serves, ScriptSaid}
use Rattle.slider_session.specs.WorkLines.{work_of, work_between}
use Rattle.slider_session.proofs.CostLaws.{new_shape, cost_begins, cost_nothing, cost_here, cost_on, cost_at_halt, rose_on}
use Rattle.slider_session.proofs.Sayings.{said_begins, said_nothing, said_at_end, said_at_stop, said_on, said_at_halt}
use Rattle.slider_session.proofs.Stepping.{step_comes, step_later, step_kind, engine_stays}
use Rattle.slider_session.proofs.Walks.{begins, nothing_yet, goes_on, at_close, at_stop, at_halt}
use Rattle.slider_session.proofs.serving.serve.Goals as goal

pub commands-init : goal.commands-init
commands-init g c =
    let w = empty_window g.T.Tree.KIND c.args.settings.places in
    let j = meaning_of g.J.Job c.args.job in
    let n = c.new-reader.ensures in
    let session = c.in-Ok.session in
    let reading = reading_of c.new-reader.result in
    let left = g.S.Source.left (source_of c.new-reader.result).now in
    let engine = c.in-Ok.ensures.engine in
    let window = c.in-Ok.ensures.window in
    let zero = engine.runs in
    let state = ap (λ v. v.window) window in
    record {
      same = refl;
      sound = rw n.now n.sound;
      clear = n.fault;
      job = engine.job_is;
      settings = engine.settings_are;
      runs = omega (arith, zero);
      accepted = let none = ap (λ v. v.slid.accepted) window in omega (arith, none);
      source_later = omega arith;
      sink_later = omega arith;
      quiet = λ off. refl;
      stands = begins j w most_script reading session left (g.K.Sink.held c.args.out.now) zero state n.line n.commands (uses_none reading left);
      costs = cost_begins j g.T.Tree.bound g.T.Tree.tight g.T.Tree.shaped g.T.Tree.view g.J.Meter.Meter.counts (no_leaves g.T.Tree.KIND c.args.settings.places) most_script session reading c.args.meters.now left
          (new_shape g.T.Tree.view g.J.Job g.T.Tree.pins g.T.Tree.KIND c.args.job c.args.settings session engine window) engine.leaves window n.commands;
      said = said_begins j g.T.Tree.view g.T.Tree.shaped g.J.Meter.Meter.counts c.args.settings.work w most_script session reading c.args.meters.now left (sink_view g.E.Sink c.args.err.now) zero state n.commands;
    }

pub commands-preserved : goal.commands-preserved
commands-preserved g c =
    let w = empty_window g.T.Tree.KIND c.args.settings.places in
    let j = meaning_of g.J.Job c.args.job in
    let view = g.T.Tree.view in
    let shaped = g.T.Tree.shaped in
    let counts = g.J.Meter.Meter.counts in
    let inv = c.commands.invariant in
    let e = c.in-Ok-Some.ensures in
    let s = c.in-Ok-step.ensures in
    let told = rw c.in-Ok-Some.field-0-is at e.told in
    let old = c.commands.session in
    let new = c.step.new.self in
    let command = c.in-Ok-Some.command in
    let r = reading_of c.commands.reader in
    let next = reading_of c.next.new.self in
    let before = sink_view g.K.Sink c.commands.out in
    let now = sink_view g.K.Sink c.step.new.out in
    let at_job = subst (λ k. Steps (meaning_of g.J.Job k) view shaped old new command c.line.result before now (Ok c.in-Ok-step.field-0)) inv.job s.steps in
    let steps = subst (λ (n : ℕ). Steps j view shaped old new command n before now (Ok c.in-Ok-step.field-0)) c.line.ensures at_job in
    let first = source_view g.S.Source (source_of c.new-reader.result).now in
    let left = source_view g.S.Source (source_of c.commands.reader).now in
    let rest = source_view g.S.Source (source_of c.next.new.self).now in
    let worked = λ (is : command ≡ Run). subst (λ k. RunWorked counts (meaning_of g.J.Job k) g.T.Tree.bound g.T.Tree.tight view old.window c.commands.meters c.step.new.meters old.engine new.engine) inv.job (s.worked is) in
    let said = λ (is : command ≡ Run). subst (λ t. RunSaid t.work (old.engine.runs + 1) (work_between (work_of counts c.commands.meters) (work_of counts c.step.new.meters)) (sink_view g.E.Sink c.commands.err) (sink_view g.E.Sink c.step.new.err) (Ok c.in-Ok-step.field-0)) inv.settings (s.said is) in
    let kind = step_kind j view shaped old new command next.last before now (Ok c.in-Ok-step.field-0) steps in
    let taken = rw c.in-Ok-Some.field-0-is at e.taken in
    let moved = (rw c.in-Ok-Some.field-0-is at e.moved) refl in
    let comes = step_comes j view shaped old new command next.last before now (Ok c.in-Ok-step.field-0) steps in
    let rose = step_later j view shaped old new command next.last before now (Ok c.in-Ok-step.field-0) steps in
    let stays = engine_stays j view shaped old new command next.last before now c.in-Ok-step.field-0 kind (λ is. (s.worked is).same) in
    record {
      same = e.same ∙ inv.same;
      sound = e.sound;
      clear = e.clear;
      job = stays.0 ∙ inv.job;
      settings = stays.1 ∙ inv.settings;
      runs = let more = comes.runs in let past = inv.runs in omega (arith, more, past, moved);
      accepted = let more = comes.accepted in let past = inv.accepted in omega (arith, more, past, moved);
      source_later = let past = inv.source_later in let later = e.later in omega (arith, past, later);
      sink_later = let past = inv.sink_later in omega (arith, past, rose);
      quiet = λ off. s.quiet (ap (λ t. t.work) inv.settings ∙ off) ∙ inv.quiet off;
      stands = goes_on j w most_script (reading_of c.new-reader.result) old r first.bytes left.bytes (g.K.Sink.held c.args.out.now) before.bytes inv.stands new next command rest.bytes now.bytes told (taken inv.clear) comes;
      costs = cost_on j g.T.Tree.bound g.T.Tree.tight g.T.Tree.shaped g.T.Tree.view g.J.Meter.Meter.counts (no_leaves g.T.Tree.KIND c.args.settings.places) most_script old new r next c.args.meters.now c.commands.meters c.step.new.meters first.bytes left.bytes rest.bytes inv.costs command next.last before now told worked (λ other. (s.untouched other).2) c.in-Ok-step.field-0 kind;
      said = said_on j g.T.Tree.view g.T.Tree.shaped g.J.Meter.Meter.counts c.args.settings.work w most_script old r c.args.meters.now c.commands.meters first.bytes left.bytes (sink_view g.E.Sink c.args.err.now) (sink_view g.E.Sink c.commands.err) inv.said new next command c.step.new.meters rest.bytes (sink_view g.E.Sink c.step.new.err) told next.last before now c.in-Ok-step.field-0 kind said (λ other. (ap (sink_view g.E.Sink) (s.untouched other).1, (s.untouched other).2)) s.more;
    }

pub returns-in-Ok-None-clause-serves : goal.returns-in-Ok-None-clause-serves
returns-in-Ok-None-clause-serves g c =
    let w = empty_window g.T.Tree.KIND c.args.settings.places in
    let j = meaning_of g.J.Job c.args.job in
    let inv = c.commands.invariant in
    let e = c.in-Ok-None.ensures in
    let first = source_view g.S.Source (source_of c.new-reader.result).now in
    let left = source_view g.S.Source (source_of c.commands.reader).now in
    let rest = source_view g.S.Source (source_of c.next.new.self).now in
    let before = sink_view g.K.Sink c.args.out.now in
    let now = sink_view g.K.Sink c.commands.out in
    let ended : Serves j w most_script first rest before now (Ok tt) = record {
      ends = at_close j w most_script (reading_of c.new-reader.result) c.commands.session (reading_of c.commands.reader) first left before now inv.stands (reading_of c.next.new.self) rest
          (rw c.in-Ok-None.field-0-is at e.told) ((rw c.in-Ok-None.field-0-is at e.taken) inv.clear) e.sound;
      source_later = let before = inv.source_later in let now = e.later in omega (arith, before, now);
      sink_later = inv.sink_later;
    } in
    let served = subst (λ o. Serves j w most_script (source_view g.S.Source o) rest before now (Ok tt)) c.new-reader.ensures.now ended in
    search (served, rules)

pub returns-in-Ok-None-clause-costs : goal.returns-in-Ok-None-clause-costs
returns-in-Ok-None-clause-costs g c =
    let j = meaning_of g.J.Job c.args.job in
    let first = g.S.Source.left (source_of c.new-reader.result).now in
    let left = g.S.Source.left (source_of c.commands.reader).now in
    let costs = cost_here j g.T.Tree.bound g.T.Tree.tight g.T.Tree.shaped g.T.Tree.view g.J.Meter.Meter.counts (no_leaves g.T.Tree.KIND c.args.settings.places) most_script c.commands.session (reading_of c.commands.reader) c.args.meters.now c.commands.meters first left c.commands.invariant.costs in
    subst (λ o. (script : List ℕ) → g.S.Source.left o ≡ Some script → ScriptCosts j g.T.Tree.bound g.T.Tree.shaped g.J.Meter.Meter.counts (no_leaves g.T.Tree.KIND c.args.settings.places) (commands most_script script).0 c.args.meters.now c.commands.meters) c.new-reader.ensures.now costs

pub returns-in-Ok-None-clause-said : goal.returns-in-Ok-None-clause-said
returns-in-Ok-None-clause-said g c =
    let w = empty_window g.T.Tree.KIND c.args.settings.places in
    let j = meaning_of g.J.Job c.args.job in
    let inv = c.commands.invariant in
    let e = c.in-Ok-None.ensures in
    let first = source_view g.S.Source (source_of c.new-reader.result).now in
    let left = source_view g.S.Source (source_of c.commands.reader).now in
    let rest = source_view g.S.Source (source_of c.next.new.self).now in
    let ended = said_at_end j g.T.Tree.view g.T.Tree.shaped g.J.Meter.Meter.counts c.args.settings.work w most_script c.commands.session (reading_of c.commands.reader) c.args.meters.now c.commands.meters first.bytes left.bytes (sink_view g.E.Sink c.args.err.now) (sink_view g.E.Sink c.commands.err) inv.said (reading_of c.next.new.self) rest.bytes (rw c.in-Ok-None.field-0-is at e.told) in
    let told = subst (λ o. ScriptSaid j w most_script g.J.Meter.Meter.counts c.args.settings.work (g.S.Source.left o) c.args.meters.now c.commands.meters (sink_view g.E.Sink c.args.err.now) (sink_view g.E.Sink c.commands.err) (Ok tt)) c.new-reader.ensures.now ended in
    search (told, rules)

pub returns-in-Err-next-clause-serves : goal.returns-in-Err-next-clause-serves
returns-in-Err-next-clause-serves g c =
    let w = empty_window g.T.Tree.KIND c.args.settings.places in
    let j = meaning_of g.J.Job c.args.job in
    let inv = c.commands.invariant in
    let n = c.new-reader.ensures in
    let e = c.in-Err-next.ensures in
    let first = source_view g.S.Source (source_of c.new-reader.result).now in
    let left = source_view g.S.Source (source_of c.commands.reader).now in
    let rest = source_view g.S.Source (source_of c.next.new.self).now in
    let before = sink_view g.K.Sink c.args.out.now in
    let now = sink_view g.K.Sink c.commands.out in
    let stopped : Serves j w most_script first rest before now (Err c.halt_of.result) = record {
      ends = at_stop j w most_script (reading_of c.new-reader.result) c.commands.session (reading_of c.commands.reader) first left before now inv.stands (reading_of c.next.new.self) rest
          n.ahead n.room n.open c.in-Err-next.fault c.halt_of.result c.halt_of.ensures inv.source_later (e.failed inv.clear) e.told (e.taken inv.clear);
      source_later = let before = inv.source_later in let now = e.later in omega (arith, before, now);
      sink_later = inv.sink_later;
    } in
    let served = subst (λ o. Serves j w most_script (source_view g.S.Source o) rest before now (Err c.halt_of.result)) n.now stopped in
    search (served, rules)

pub returns-in-Err-next-clause-costs : goal.returns-in-Err-next-clause-costs
returns-in-Err-next-clause-costs g c =
    let j = meaning_of g.J.Job c.args.job in
    let first = g.S.Source.left (source_of c.new-reader.result).now in
    let left = g.S.Source.left (source_of c.commands.reader).now in
    let costs = cost_here j g.T.Tree.bound g.T.Tree.tight g.T.Tree.shaped g.T.Tree.view g.J.Meter.Meter.counts (no_leaves g.T.Tree.KIND c.args.settings.places) most_script c.commands.session (reading_of c.commands.reader) c.args.meters.now c.commands.meters first left c.commands.invariant.costs in
    subst (λ o. (script : List ℕ) → g.S.Source.left o ≡ Some script → ScriptCosts j g.T.Tree.bound g.T.Tree.shaped g.J.Meter.Meter.counts (no_leaves g.T.Tree.KIND c.args.settings.places) (commands most_script script).0 c.args.meters.now c.commands.meters) c.new-reader.ensures.now costs

pub returns-in-Err-next-clause-said : goal.returns-in-Err-next-clause-said
returns-in-Err-next-clause-said g c =
    let w = empty_window g.T.Tree.KIND c.args.settings.places in
    let j = meaning_of g.J.Job c.args.job in
    let inv = c.commands.invariant in
    let n = c.new-reader.ensures in
    let e = c.in-Err-next.ensures in
    let first = source_view g.S.Source (source_of c.new-reader.result).now in
    let left = source_view g.S.Source (source_of c.commands.reader).now in
    let rest = source_view g.S.Source (source_of c.next.new.self).now in
    let stopped = said_at_stop j g.T.Tree.view g.T.Tree.shaped g.J.Meter.Meter.counts c.args.settings.work w most_script c.commands.session (reading_of c.commands.reader) c.args.meters.now c.commands.meters first.bytes left.bytes (sink_view g.E.Sink c.args.err.now) (sink_view g.E.Sink c.commands.err) inv.said (reading_of c.next.new.self) rest.bytes c.in-Err-next.fault c.halt_of.result c.halt_of.ensures e.told in
    let told = subst (λ o. ScriptSaid j w most_script g.J.Meter.Meter.counts c.args.settings.work (g.S.Source.left o) c.args.meters.now c.commands.meters (sink_view g.E.Sink c.args.err.now) (sink_view g.E.Sink c.commands.err) (Err c.halt_of.result)) n.now stopped in
    search (told, rules)

pub returns-in-Err-step-clause-serves : goal.returns-in-Err-step-clause-serves
returns-in-Err-step-clause-serves g c =
    let w = empty_window g.T.Tree.KIND c.args.settings.places in
    let j = meaning_of g.J.Job c.args.job in
    let view = g.T.Tree.view in
    let shaped = g.T.Tree.shaped in
    let inv = c.commands.invariant in
    let e = c.in-Ok-Some.ensures in
    let s = c.in-Err-step.ensures in
    let told = rw c.in-Ok-Some.field-0-is at e.told in
    let old = c.commands.session in
    let new = c.step.new.self in
    let command = c.in-Ok-Some.command in
    let r = reading_of c.commands.reader in
    let next = reading_of c.next.new.self in
    let before = sink_view g.K.Sink c.commands.out in
    let now = sink_view g.K.Sink c.step.new.out in
    let at_job = subst (λ k. Steps (meaning_of g.J.Job k) view shaped old new command c.line.result before now (Err c.in-Err-step.halt)) inv.job s.steps in
    let steps = subst (λ (n : ℕ). Steps j view shaped old new command n before now (Err c.in-Err-step.halt)) c.line.ensures at_job in
    let first = source_view g.S.Source (source_of c.new-reader.result).now in
    let left = source_view g.S.Source (source_of c.commands.reader).now in
    let rest = source_view g.S.Source (source_of c.next.new.self).now in
    let start = sink_view g.K.Sink c.args.out.now in
    let comes = step_comes j view shaped old new command next.last before now (Err c.in-Err-step.halt) steps in
    let rose = step_later j view shaped old new command next.last before now (Err c.in-Err-step.halt) steps in
    let halted : Serves j w most_script first rest start now (Err c.in-Err-step.halt) = record {
      ends = at_halt j w most_script (reading_of c.new-reader.result) old r first left start before inv.stands next rest new command now c.in-Err-step.halt inv.sink_later told comes;
      source_later = let past = inv.source_later in let later = e.later in omega (arith, past, later);
      sink_later = let past = inv.sink_later in omega (arith, past, rose);
    } in
    let served = subst (λ o. Serves j w most_script (source_view g.S.Source o) rest start now (Err c.in-Err-step.halt)) c.new-reader.ensures.now halted in
    search (served, rules)

pub returns-in-Err-step-clause-rose : goal.returns-in-Err-step-clause-rose
returns-in-Err-step-clause-rose g c =
    let w = empty_window g.T.Tree.KIND c.args.settings.places in
    let j = meaning_of g.J.Job c.args.job in
    let view = g.T.Tree.view in
    let shaped = g.T.Tree.shaped in
    let counts = g.J.Meter.Meter.counts in
    let inv = c.commands.invariant in
    let e = c.in-Ok-Some.ensures in
    let s = c.in-Err-step.ensures in
    let told = rw c.in-Ok-Some.field-0-is at e.told in
    let old = c.commands.session in
    let new = c.step.new.self in
    let command = c.in-Ok-Some.command in
    let r = reading_of c.commands.reader in
    let next = reading_of c.next.new.self in
    let before = sink_view g.K.Sink c.commands.out in
    let now = sink_view g.K.Sink c.step.new.out in
    let at_job = subst (λ k. Steps (meaning_of g.J.Job k) view shaped old new command c.line.result before now (Err c.in-Err-step.halt)) inv.job s.steps in
    let steps = subst (λ (n : ℕ). Steps j view shaped old new command n before now (Err c.in-Err-step.halt)) c.line.ensures at_job in
    let first = source_view g.S.Source (source_of c.new-reader.result).now in
    let left = source_view g.S.Source (source_of c.commands.reader).now in
    let rest = source_view g.S.Source (source_of c.next.new.self).now in
    let worked = λ (is : command ≡ Run). subst (λ k. RunWorked counts (meaning_of g.J.Job k) g.T.Tree.bound g.T.Tree.tight view old.window c.commands.meters c.step.new.meters old.engine new.engine) inv.job (s.worked is) in
    let kind = step_kind j view shaped old new command next.last before now (Err c.in-Err-step.halt) steps in
    let rose = rose_on j g.T.Tree.bound g.T.Tree.tight g.T.Tree.shaped g.T.Tree.view g.J.Meter.Meter.counts (no_leaves g.T.Tree.KIND c.args.settings.places) most_script old new r next c.args.meters.now c.commands.meters c.step.new.meters first.bytes left.bytes rest.bytes inv.costs command next.last before now told worked (λ other. (s.untouched other).2) (Err c.in-Err-step.halt) kind in
    search (rose, rules)

pub returns-in-Err-step-clause-costs : goal.returns-in-Err-step-clause-costs
returns-in-Err-step-clause-costs g c =
    let w = empty_window g.T.Tree.KIND c.args.settings.places in
    let j = meaning_of g.J.Job c.args.job in
    let view = g.T.Tree.view in
    let shaped = g.T.Tree.shaped in
    let counts = g.J.Meter.Meter.counts in
    let inv = c.commands.invariant in
    let e = c.in-Ok-Some.ensures in
    let s = c.in-Err-step.ensures in
    let told = rw c.in-Ok-Some.field-0-is at e.told in
    let old = c.commands.session in
    let new = c.step.new.self in
    let command = c.in-Ok-Some.command in
    let r = reading_of c.commands.reader in
    let next = reading_of c.next.new.self in
    let before = sink_view g.K.Sink c.commands.out in
    let now = sink_view g.K.Sink c.step.new.out in
    let at_job = subst (λ k. Steps (meaning_of g.J.Job k) view shaped old new command c.line.result before now (Err c.in-Err-step.halt)) inv.job s.steps in
    let steps = subst (λ (n : ℕ). Steps j view shaped old new command n before now (Err c.in-Err-step.halt)) c.line.ensures at_job in
    let first = source_view g.S.Source (source_of c.new-reader.result).now in
    let left = source_view g.S.Source (source_of c.commands.reader).now in
    let rest = source_view g.S.Source (source_of c.next.new.self).now in
    let worked = λ (is : command ≡ Run). subst (λ k. RunWorked counts (meaning_of g.J.Job k) g.T.Tree.bound g.T.Tree.tight view old.window c.commands.meters c.step.new.meters old.engine new.engine) inv.job (s.worked is) in
    let kind = step_kind j view shaped old new command next.last before now (Err c.in-Err-step.halt) steps in
    let costs = cost_at_halt j g.T.Tree.bound g.T.Tree.tight g.T.Tree.shaped g.T.Tree.view g.J.Meter.Meter.counts (no_leaves g.T.Tree.KIND c.args.settings.places) most_script old new r next c.args.meters.now c.commands.meters c.step.new.meters first.bytes left.bytes rest.bytes inv.costs command next.last before now told worked (λ other. (s.untouched other).2) c.in-Err-step.halt kind in
    subst (λ o. (script : List ℕ) → g.S.Source.left o ≡ Some script → ScriptCosts j g.T.Tree.bound shaped counts (no_leaves g.T.Tree.KIND c.args.settings.places) (commands most_script script).0 c.args.meters.now c.step.new.meters) c.new-reader.ensures.now costs

pub returns-in-Err-step-clause-said : goal.returns-in-Err-step-clause-said
returns-in-Err-step-clause-said g c =
    let w = empty_window g.T.Tree.KIND c.args.settings.places in
    let j = meaning_of g.J.Job c.args.job in
    let view = g.T.Tree.view in
    let shaped = g.T.Tree.shaped in
    let counts = g.J.Meter.Meter.counts in
    let inv = c.commands.invariant in
    let e = c.in-Ok-Some.ensures in
    let s = c.in-Err-step.ensures in
    let told = rw c.in-Ok-Some.field-0-is at e.told in
    let old = c.commands.session in
    let new = c.step.new.self in
    let command = c.in-Ok-Some.command in
    let r = reading_of c.commands.reader in
    let next = reading_of c.next.new.self in
    let before = sink_view g.K.Sink c.commands.out in
    let now = sink_view g.K.Sink c.step.new.out in
    let at_job = subst (λ k. Steps (meaning_of g.J.Job k) view shaped old new command c.line.result before now (Err c.in-Err-step.halt)) inv.job s.steps in
    let steps = subst (λ (n : ℕ). Steps j view shaped old new command n before now (Err c.in-Err-step.halt)) c.line.ensures at_job in
    let first = source_view g.S.Source (source_of c.new-reader.result).now in
    let left = source_view g.S.Source (source_of c.commands.reader).now in
    let rest = source_view g.S.Source (source_of c.next.new.self).now in
    let said = λ (is : command ≡ Run). subst (λ t. RunSaid t.work (old.engine.runs + 1) (work_between (work_of counts c.commands.meters) (work_of counts c.step.new.meters)) (sink_view g.E.Sink c.commands.err) (sink_view g.E.Sink c.step.new.err) (Err c.in-Err-step.halt)) inv.settings (s.said is) in
    let kind = step_kind j view shaped old new command next.last before now (Err c.in-Err-step.halt) steps in
    let stopped = said_at_halt j g.T.Tree.view g.T.Tree.shaped g.J.Meter.Meter.counts c.args.settings.work w most_script old r c.args.meters.now c.commands.meters first.bytes left.bytes (sink_view g.E.Sink c.args.err.now) (sink_view g.E.Sink c.commands.err) inv.said new next command c.step.new.meters rest.bytes (sink_view g.E.Sink c.step.new.err) told next.last before now c.in-Err-step.halt kind said (λ other. (ap (sink_view g.E.Sink) (s.untouched other).1, (s.untouched other).2)) s.more in
    let all = subst (λ o. ScriptSaid j w most_script counts c.args.settings.work (g.S.Source.left o) c.args.meters.now c.step.new.meters (sink_view g.E.Sink c.args.err.now) (sink_view g.E.Sink c.step.new.err) (Err c.in-Err-step.halt)) c.new-reader.ensures.now stopped in
    search (all, rules)

pub returns-in-Err-clause-serves : goal.returns-in-Err-clause-serves
returns-in-Err-clause-serves g c = nothing_yet (meaning_of g.J.Job c.args.job) (empty_window g.T.Tree.KIND c.args.settings.places) most_script (source_view g.S.Source c.args.source.now) (sink_view g.K.Sink c.args.out.now)

pub returns-in-Err-clause-said : goal.returns-in-Err-clause-said
returns-in-Err-clause-said g c =
    let w = empty_window g.T.Tree.KIND c.args.settings.places in
    let j = meaning_of g.J.Job c.args.job in
    said_nothing j g.J.Meter.Meter.counts c.args.settings.work w most_script c.args.meters.now (g.S.Source.left c.args.source.now) (sink_view g.E.Sink c.args.err.now)

pub returns-in-Err-clause-costs : goal.returns-in-Err-clause-costs
returns-in-Err-clause-costs g c = λ script is. cost_nothing (meaning_of g.J.Job c.args.job) g.T.Tree.bound g.T.Tree.shaped (no_leaves g.T.Tree.KIND c.args.settings.places) most_script g.J.Meter.Meter.counts c.args.meters.now script
