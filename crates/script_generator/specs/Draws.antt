-- Pseudo-random numbers: a linear congruential generator modulo 2^64.
use Rattle.std.specs.Prelude.{ℕ, ◌+◌, ◌*◌, ◌/◌, ◌%◌, ◌^◌}

-- The state after a draw.
unfoldable pub next_state : ℕ → ℕ
next_state x = (x * 6364136223846793005 + 1442695040888963407) % 2 ^ 64

-- The number below m that is drawn from a state: the upper 31 bits of the next state, modulo m.
unfoldable pub drawn : ℕ → ℕ → ℕ
drawn m x = next_state x / 2 ^ 33 % m
