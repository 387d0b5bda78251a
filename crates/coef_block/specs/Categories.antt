-- Statement: categories of differences and coefficients (ITU-T T.81, F.1.2.1.2, F.1.2.2.1).
use Rattle.std.specs.Prelude.{ℕ, length}
use Rattle.std.specs.Int.Digits.{digits_of}

-- SSSS, the number of bits of a magnitude, 0 for 0 (Tables F.1 and F.2)
abbrev pub category : ℕ → ℕ
category magnitude = length (digits_of 2 magnitude)
