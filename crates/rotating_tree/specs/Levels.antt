-- How many nodes are over a place of a circle.
use Rattle.std.specs.Prelude.{ℕ, suc, zero, ◌+◌, ◌-◌, ◌^◌, min}

-- How many of the first powers of two are below n.
abbrev pub powers_below : ℕ → ℕ → ℕ
powers_below zero n = 0
powers_below (suc k) n = powers_below k n + min 1 (n - 2 ^ k)

-- The greatest number s with 2 ^ s < 2 * n.
abbrev pub levels : ℕ → ℕ
levels n = powers_below n n
