use Rattle.std.proofs.Common.{◌≡◌, ◌<◌, ℕ, ◌+◌, ◌*◌, ◌%◌, ◌^◌, List, ◌++◌, length, take, drop, sym, ap, ◌∙◌, arith, rules}
use Rattle.marker_chunker.specs.Markers.{window_hash}
use Rattle.marker_chunker.proofs.Rolls.{more_hash, ring_grows, ring_hash}
use Rattle.std.proofs.Common.{◌⊎◌, inl, inr}
use Rattle.marker_chunker.proofs.roll.Roll.push.Goals.{then-head-eq15, else-head-eq15}
use Rattle.marker_chunker.proofs.roll.Roll.push.Goals as goal

pub invariant_of-self : goal.invariant_of-self
invariant_of-self c =
    let l : length c.self.inside.bytes ≡ 16 = search rules in
    let w = ring_grows c.self.inside.bytes c.self.inside.len c.self.inside.head c.args.b l (omega arith) (c.self.invariant.2 (omega arith)) in
    let window : List ℕ = take c.self.inside.len (drop c.self.inside.head c.self.inside.bytes ++ take c.self.inside.head c.self.inside.bytes) in
    let zero : c.self.inside.hash * 16777619 + c.args.b + 0 * 3416554943 ≡ c.self.inside.hash * 16777619 + c.args.b = omega arith in (
      omega arith,
      omega arith,
      (λ h. c.self.invariant.2 (omega arith)),
      c.rolled-self-inside.ensures ∙ ap (λ k. k % 2 ^ 32) zero ∙ ap (λ k. (k * 16777619 + c.args.b) % 2 ^ 32) c.self.invariant.3 ∙ more_hash window c.args.b ∙ ap window_hash (sym w),
    )

pub invariant_of-self-2 : goal.invariant_of-self-2
invariant_of-self-2 c =
    let l : length c.self.inside.bytes ≡ 16 = search rules in
    let which : ((c.self.inside.head ≡ 15) × (c.if-head-eq15.self ≡ 0)) ⊎ ((c.self.inside.head < 15) × (c.if-head-eq15.self ≡ c.self.inside.head + 1)) =
    elim c.if-head-eq15.branch [ then-head-eq15 w ↦ inl (omega arith, omega arith) | else-head-eq15 w ↦ inr (omega arith, omega arith) ] in
    let low : c.if-head-eq15.self < 16 = elim which [ inl e ↦ omega arith | inr e ↦ omega arith ] in (
      low,
      omega arith,
      (λ h. absurd (omega arith)),
      c.rolled-self-inside-2.ensures ∙ ring_hash c.self.inside.bytes c.self.inside.head c.if-head-eq15.self c.args.b c.self.inside.len c.self.inside.hash l (omega arith) (omega arith) which c.self.invariant.3,
    )
