-- Memory ran out before anything was touched.
use Rattle.std.proofs.Common.{◌≡◌, ℕ, List, [], ◌∷◌, refl, sym, append-nil, inl, inr}
use Rattle.std.specs.Prelude.{Option, Result, Ok, Err}
use Rattle.std.specs.declared.option.Option.TheVariants.{Some, None}
use Rattle.definitions.specs.Limits.{most_script}
use Rattle.job_laws.specs.declared.meter.Counts.{Counts}
use Rattle.job_laws.specs.Meanings.{Meaning}
use Rattle.job_laws.specs.Rows.{Row}
use Rattle.job_laws.proofs.RowLaws.{row_same}
use Rattle.record_text.specs.declared.command.Command.{Command}
use Rattle.record_text.specs.declared.kind.Kind.{Kind}
use Rattle.record_text.specs.declared.shift.Shift.{Shift}
use Rattle.record_text.specs.Script.{commands}
use Rattle.window_manager.specs.Windows.{WindowState, empty_window}
use Rattle.window_manager.specs.Views.{WindowView, no_leaves}
use Rattle.tree_laws.specs.Trees.{Shape}
use Rattle.slider_session.specs.Costs.{Standing, CommandsCost, ScriptCosts, no_costs, before_runs}
use Rattle.slider_session.proofs.CostLaws.{at_most_none}
use Rattle.program_words.specs.declared.plan.JobName.{JobName}
use Rattle.program_words.specs.declared.plan.JobName.TheVariants.{Count, Index, Latest, TopK}
use Rattle.program_words.specs.declared.plan.Plan.{Plan}
use Rattle.program_words.specs.declared.plan.Field.{Field}
use Rattle.program_words.specs.Plans.{kind_of}
use Rattle.program_words.specs.Usages.{line_for}
use Rattle.slider_program.specs.Summaries.{summary_of}
use Rattle.slider_program.specs.Trees.{bound_for, shape_for}
use Rattle.slider_program.specs.Program.{Outside, Seen, Jobs, AnsweredBy, Planned, PlannedFor, Ran, generated_by, script_for}
use Rattle.slider_program.proofs.Statuses.{untouched_answered, nothing_gained, nothing_summed}
use Rattle.slider_program.proofs.ErrLines.{unsaid}

-- no command was carried out
none_cost : {V : Type 0} (j : Meaning V) (bound : ℕ → Shape → ℕ → Shift → ℕ) (shaped : Shape → Shift → Shape) (s : Standing) (cs : List (Command × ℕ)) → CommandsCost j bound shaped s cs no_costs
none_cost j bound shaped s [] = refl
none_cost j bound shaped s (c ∷ cs) = inl refl

-- nothing was counted
pub cost_nothing : {V M : Type 0} (j : Meaning V) (bound : ℕ → Shape → ℕ → Shift → ℕ) (shaped : Shape → Shift → Shape) (counts : M → Counts) (w : WindowView) (cs : List (Command × ℕ)) (row : Row M) → ScriptCosts j bound shaped counts w cs row row
cost_nothing j bound shaped counts w cs row = (no_costs, none_cost j bound shaped (before_runs w) cs, at_most_none counts row)

answered_nothing : {V : Type 0} (j : Meaning V) (w : WindowState) (script : Option (List ℕ)) (old : Seen) → AnsweredBy j w script old old 6
answered_nothing j w None old = untouched_answered j w old
answered_nothing j w (Some script) old = record { source = refl; sums = nothing_summed (summary_of j w script) old.out }

module _ {S K E M : Type 0} (counts : M → Counts) (see : Outside S K E M → Seen) where
  -- a plan was made, and memory ran out
  pub planned_nothing : {V : Type 0} (j : Meaning V) (kind : Kind) (bound : ℕ → Shape → ℕ → Shift → ℕ) (shaped : Shape → Shift → Shape) (plan : Plan) (old : Outside S K E M) → Planned counts see j kind bound shaped plan old old 6
  planned_nothing j kind bound shaped plan old = record {
    answered = answered_nothing j (empty_window kind plan.settings.places) (generated_by plan) (see old);
    said = unsaid j (empty_window kind plan.settings.places) counts plan.settings.work (script_for (generated_by plan) (see old).source.bytes) old.meters (see old).err;
    rose = row_same counts old.meters;
    costs = λ script is. cost_nothing j bound shaped counts (no_leaves kind plan.settings.places) (commands most_script script).0 old.meters;
    generated = λ seed. (refl, λ work. refl);
    quiet = λ work a b. refl;
  }

  planned_for : {C I L T : Type 0} (jobs : Jobs C I L T) (job : JobName) (plan : Plan) (old : Outside S K E M) → PlannedFor counts see jobs job plan old old 6
  planned_for jobs Count plan old = planned_nothing jobs.count (kind_of plan.tree) (bound_for plan.tree) (shape_for plan.tree) plan old
  planned_for jobs Index plan old = planned_nothing jobs.index (kind_of plan.tree) (bound_for plan.tree) (shape_for plan.tree) plan old
  planned_for jobs Latest plan old = planned_nothing jobs.latest (kind_of plan.tree) (bound_for plan.tree) (shape_for plan.tree) plan old
  planned_for jobs TopK plan old = planned_nothing (jobs.topk plan.k) (kind_of plan.tree) (bound_for plan.tree) (shape_for plan.tree) plan old

  -- memory ran out, whatever the arguments ask for
  pub untouched : {C I L T : Type 0} (jobs : Jobs C I L T) (asked : Result Plan Field) (old : Outside S K E M) → Ran counts see jobs asked old old 6
  untouched jobs (Ok plan) old = planned_for jobs plan.job plan old
  untouched jobs (Err field) old = record {
    source = refl;
    out = refl;
    meters = refl;
    known = inr refl;
    tried = λ e. cc;
    prefix = nothing_gained (line_for field) (see old).err.bytes;
  }
