-- Statement: the 64 quantized coefficients of a block in natural order, and how large each may be (ITU-T T.81,
-- A.3.4).
use Rattle.std.specs.Prelude.{◌≡◌, ℕ, ◌<◌, ◌≤◌, ◌==◌, List, length, ℤ, pos, unsigned_abs, slice_index_or, if◌then◌else◌}

-- the largest magnitude of an AC coefficient: ten bits with samples of 8 bits (F.1.2.2, Table F.2)
abbrev pub most_ac : ℕ
most_ac = 1023

-- the largest magnitude of a DC difference: eleven bits (F.1.2.1, Table F.1)
abbrev pub most_difference : ℕ
most_difference = 2047

-- the largest magnitude of a DC coefficient, of which the standard bounds the difference alone: 15 bits (own)
abbrev pub most_dc : ℕ
most_dc = 32767

-- a DC that a block can have
abbrev pub IsDc : ℤ → Type 0
IsDc dc = unsigned_abs dc ≤ most_dc

-- an AC coefficient that a block can have
abbrev pub IsAc : ℤ → Type 0
IsAc value = unsigned_abs value ≤ most_ac

-- the largest magnitude at a natural position
abbrev pub limit : ℕ → ℕ
limit position = if position == 0 then most_dc else most_ac

-- a value that the coefficient at a position can have
abbrev pub IsCoefficient : ℕ → ℤ → Type 0
IsCoefficient position value = unsigned_abs value ≤ limit position

-- what holds of every block
pub record IsBlock (values : List ℤ) : Type 0 where
  pub count : length values ≡ 64
  pub coefficients : (position : ℕ) → position < 64
      → IsCoefficient position (slice_index_or values position (pos 0))
