-- Statement: how large the values of a block are (ITU-T T.81, F.1.2.2; docs/FORMAT.md, The events of a block).
use Rattle.std.specs.Prelude.{ℕ, ◌<◌, ◌≤◌, ℤ}
use Rattle.coef_context.specs.Runs.{ac_sizes, dc_sizes}
use Rattle.block_spec.specs.Values.{category_of}

-- an AC coefficient has at most 10 bits (T.81 F.1.2.2, Table F.2)
abbrev pub IsAc : ℤ → Type 0
IsAc x = category_of x ≤ ac_sizes

-- a residue, a DC less its prediction, has at most 16 bits (own)
abbrev pub IsResidue : ℤ → Type 0
IsResidue x = category_of x ≤ dc_sizes

-- a number of six bits, in which an inner count is coded (own)
abbrev pub IsSixBits : ℕ → Type 0
IsSixBits n = n < 64
