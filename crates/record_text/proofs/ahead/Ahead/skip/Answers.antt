use Rattle.std.proofs.Common.{◌≤◌, ◌+◌, ℕ, List, length, sym, subst}
use Rattle.record_text.specs.Ahead.{IsHeld}
use Rattle.record_text.proofs.AheadLaws.{skipped}
use Rattle.record_text.proofs.ahead.Ahead.skip.Goals as goal

pub invariant_of-self : goal.invariant_of-self
invariant_of-self c =
    let s = c.self.inside in
    subst (λ (k : ℕ). IsHeld s.held.items (s.at + c.args.n) k) (sym c.saturating_sub-self-inside.ensures)
    (skipped s.held.items s.at s.seen c.args.n c.self.invariant (subst (λ (l : List ℕ). c.args.n ≤ length l) (sym c.self.view_is) c.requires))
