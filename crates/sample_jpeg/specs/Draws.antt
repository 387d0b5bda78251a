-- Statement: the generator that a sample is drawn from, a linear congruence modulo 2^64 (docs/SAMPLE.md, The
-- generator).
use Rattle.std.specs.Prelude.{ℕ, ◌+◌, ◌*◌, ◌/◌, ◌%◌, ◌^◌}

-- the state after a draw
abbrev pub state_after : ℕ → ℕ
state_after state = (state * 6364136223846793005 + 1442695040888963407) % 2 ^ 64

-- the number that a draw gives: the highest 31 bits of the state after it
abbrev pub draw : ℕ → ℕ
draw state = state_after state / 2 ^ 33
