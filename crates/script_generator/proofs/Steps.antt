-- A step n times, and round after round.
use Rattle.std.proofs.Common.{◌≡◌, ℕ, ◌+◌, ◌*◌, ◌%◌, ◌^◌, refl, sym, ap, ◌∙◌, add-one}
use Rattle.std.proofs.Math.Nat.{mod-add-mod}
use Rattle.program_words.specs.declared.plan.JobName.{JobName}
use Rattle.program_words.specs.declared.plan.TreeName.{TreeName}
use Rattle.script_generator.specs.Draws.{next_state}
use Rattle.script_generator.specs.Generated.{Draft, times, with_round, with_rounds}

-- a step that is not taken leaves the draft
pub times_none : (step : Draft → Draft) (d : Draft) → times 0 step d ≡ d
unfolding times
times_none step d = refl

-- one step more
pub times_more : (n : ℕ) (step : Draft → Draft) (d : Draft) → times (n + 1) step d ≡ step (times n step d)
unfolding times
times_more n step d = ap (λ k. times k step d) (add-one n)

-- no round leaves the draft
pub rounds_none : (job : JobName) (tree : TreeName) (d : Draft) → with_rounds job tree 0 d ≡ d
unfolding with_rounds
rounds_none job tree d = refl

-- one round more
pub rounds_more : (n : ℕ) (job : JobName) (tree : TreeName) (d : Draft) → with_rounds job tree (n + 1) d ≡ with_round job tree (n + 1) (with_rounds job tree n d)
unfolding with_rounds
rounds_more n job tree d = ap (λ k. with_rounds job tree k d) (add-one n) ∙ ap (λ k. with_round job tree k (with_rounds job tree n d)) (sym (add-one n))

-- a product and a sum modulo 2^64, each by itself
pub next_is : (x : ℕ) → (x * 6364136223846793005 % 2 ^ 64 + 1442695040888963407) % 2 ^ 64 ≡ next_state x
unfolding next_state
next_is x = mod-add-mod (x * 6364136223846793005) (2 ^ 64) 1442695040888963407
