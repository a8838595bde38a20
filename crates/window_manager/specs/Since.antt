-- How a window leads on from the leaves of an earlier run, which the engine relies on.
use Rattle.std.specs.Prelude.{◌≡◌, ◌≢◌, ℕ, ◌+◌, ◌≤◌, Bool, List, [], length, Ok}
use Rattle.std.specs.List.{sum_by}
use Rattle.record_text.specs.Shifts.{brought, first_after, left, shifted, FitsShift}
use Rattle.record_text.specs.declared.command.Command.{Command}
use Rattle.record_text.specs.declared.kind.Kind.{Kind}
use Rattle.record_text.specs.declared.kind.Kind.TheVariants as Kinds
use Rattle.record_text.specs.declared.shift.Shift.{Shift}
use Rattle.window_manager.specs.Windows.{Leaf, refusal_of}
use Rattle.window_manager.specs.Views.{Done, WindowView, no_leaves, shift_of, view_anew}

-- The leaves that the window's shift brings.
abbrev pub fresh_leaves : WindowView → List Leaf
fresh_leaves w = brought [] (shift_of w) w.window.leaves

-- The window's shift leads to its leaves from these, of which the first has the number `first`: at the last run the
-- window held them. The other fields are about what the window counts.
pub record IsSince (first : ℕ) (leaves : List Leaf) (w : WindowView) : Type 0 where
  pub leads : w.window.leaves ≡ shifted (shift_of w) (fresh_leaves w) leaves
  pub fits : FitsShift w.window.kind w.window.places first (length leaves) (length (fresh_leaves w)) (shift_of w)
  pub stood : w.slid.stood ≡ length leaves
  pub counted : w.window.kind ≢ Kinds.Document → length w.window.leaves ≤ w.slid.accepted

-- What holds of every window: it leads on from some leaves.
abbrev pub LeadsOn : WindowView → Type 0
LeadsOn w = (first : ℕ) × (leaves : List Leaf) × IsSince first leaves w

-- Before the first command a window leads on from no leaves.
abbrev pub SinceNew : Type 0
SinceNew = (kind : Kind) (places : ℕ) → IsSince 0 [] (no_leaves kind places)

-- After a run it leads on from the leaves that it holds.
abbrev pub SinceAnew : Type 0
SinceAnew = (first : ℕ) (leaves : List Leaf) (w : WindowView) → IsSince first leaves w → IsSince (first_after (shift_of w) first) w.window.leaves (view_anew w)

-- After a command that it carried out it leads on from the same leaves.
abbrev pub SinceOn : Type 0
SinceOn = (accepts : List ℕ → Bool) (first : ℕ) (leaves : List Leaf) (old new : WindowView) (c : Command) → IsSince first leaves old → Done (refusal_of accepts old.window c) old new c (Ok tt) → IsSince first leaves new

-- For any weight of leaves: what is there after a shift, together with what it takes away, weighs as much as what was
-- there before, together with what it brings. So each text is there as often as these say.
abbrev pub ShiftBalances : Type 0
ShiftBalances = (weight : Leaf → ℕ) (kind : Kind) (places first : ℕ) (news olds : List Leaf) (shift : Shift) → FitsShift kind places first (length olds) (length news) shift → sum_by weight (shifted shift news olds) + sum_by weight (left [] shift olds) ≡ sum_by weight olds + sum_by weight news
