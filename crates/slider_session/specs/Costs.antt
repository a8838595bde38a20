-- What the runs of a script cost at most: each by the leaves that are new since the run before it, and by the trees'
-- bound for its shift.
use Rattle.std.specs.Prelude.{◌≡◌, ℕ, ◌+◌, ◌*◌, List, [], ◌∷◌, length, slice_index_or, ◌⊎◌}
use Rattle.definitions.specs.Tables.{keys_of}
use Rattle.definitions.specs.Answer.{pairs_of}
use Rattle.job_laws.specs.declared.meter.Counts.{Counts}
use Rattle.job_laws.specs.Counted.{RoseWithin}
use Rattle.job_laws.specs.Meanings.{Meaning}
use Rattle.job_laws.specs.Rows.{Row, RowRose, sum_of}
use Rattle.record_text.specs.declared.command.Command.{Command}
use Rattle.record_text.specs.declared.command.Command.TheVariants.{Run}
use Rattle.record_text.specs.declared.shift.Shift.{Shift}
use Rattle.window_manager.specs.Windows.{Leaf, present}
use Rattle.window_manager.specs.Views.{WindowView, IsDone, shift_of, view_anew}
use Rattle.tree_laws.specs.Trees.{Shape, no_shape}
use Rattle.run_engine.specs.NewTexts.{new_records}

-- The shape of all trees and the leaves at the last run, and the window since then.
pub record Standing : Type 0 where
  pub shape : Shape
  pub leaves : List Leaf
  pub window : WindowView

-- Before the first run of a window.
abbrev pub before_runs : WindowView → Standing
before_runs w = record { shape = no_shape; leaves = []; window = w }

-- The most that meters may count: maps and joins of all lanes together, merges of each part, and joins of all parts
-- together.
pub record Costs : Type 0 where
  pub maps : ℕ
  pub lane_joins : ℕ
  pub merges : ℕ
  pub part_joins : ℕ

-- Nothing.
abbrev pub no_costs : Costs
no_costs = record { maps = 0; lane_joins = 0; merges = 0; part_joins = 0 }

-- The sum of two costs.
abbrev pub with_costs : Costs → Costs → Costs
with_costs a b = record { maps = a.maps + b.maps; lane_joins = a.lane_joins + b.lane_joins; merges = a.merges + b.merges; part_joins = a.part_joins + b.part_joins }

-- The meters increased by no more than the costs.
pub record CostAtMost {M : Type 0} (counts : M → Counts) (cost : Costs) (old new : Row M) : Type 0 where
  pub rose : RowRose counts old new
  pub maps : RoseWithin cost.maps (sum_of (λ m. (counts m).maps) old.lanes) (sum_of (λ m. (counts m).maps) new.lanes)
  pub lane_joins : RoseWithin cost.lane_joins (sum_of (λ m. (counts m).joins) old.lanes) (sum_of (λ m. (counts m).joins) new.lanes)
  pub merges : (p : ℕ) (d : M) → RoseWithin cost.merges (counts (slice_index_or old.parts p d)).merges (counts (slice_index_or new.parts p d)).merges
  pub part_joins : RoseWithin cost.part_joins (sum_of (λ m. (counts m).joins) old.parts) (sum_of (λ m. (counts m).joins) new.parts)

module _ {V : Type 0} (j : Meaning V) (bound : ℕ → Shape → ℕ → Shift → ℕ) (shaped : Shape → Shift → Shape) where
  -- The most merges of each part in the next run.
  abbrev pub run_bound : Standing → ℕ
  run_bound s = bound s.window.window.places s.shape (length s.leaves) (shift_of s.window)

  -- The most that the next run costs: a map for each new record, a join for each pair that the new records emit, the trees'
  -- bound of merges, and for each of these a join for each key of the window.
  abbrev pub run_costs : Standing → Costs
  run_costs s = record {
    maps = length (new_records s.leaves s.window.window.leaves);
    lane_joins = length (pairs_of j.emits (new_records s.leaves s.window.window.leaves));
    merges = run_bound s;
    part_joins = run_bound s * length (keys_of (pairs_of j.emits (present s.window.window)));
  }

  -- After the next run.
  abbrev pub after_run : Standing → Standing
  after_run s = record { shape = shaped s.shape (shift_of s.window); leaves = s.window.window.leaves; window = view_anew s.window }

  -- What a command and those after it cost: a run its own costs, any other command nothing.
  abbrev pub CommandCosts : Command → Standing → Costs → Standing → Type 0
  CommandCosts Run s cost t = (cost ≡ run_costs s) × (t ≡ after_run s)
  CommandCosts c s cost t = (cost ≡ no_costs) × IsDone s.window t.window c × (t ≡ record s { window = t.window })

  -- What the first commands cost together, up to some command or all of them.
  abbrev pub CommandsCost : Standing → List (Command × ℕ) → Costs → Type 0
  CommandsCost s [] cost = cost ≡ no_costs
  CommandsCost s (c ∷ cs) cost = (cost ≡ no_costs) ⊎ ((first : Costs) × (t : Standing) × (rest : Costs) × CommandCosts c.0 s first t × CommandsCost t cs rest × (cost ≡ with_costs first rest))

  -- The meters increased by no more than the first commands cost.
  abbrev pub ScriptCosts : {M : Type 0} → (M → Counts) → WindowView → List (Command × ℕ) → Row M → Row M → Type 0
  ScriptCosts counts w commands old new = (cost : Costs) × CommandsCost (before_runs w) commands cost × CostAtMost counts cost old new
