-- Statement: differences and coefficients as bits (ITU-T T.81, F.1.2.1, F.2.2.1).
use Rattle.std.specs.Prelude.{◌+◌, ◌-◌, ◌^◌, Bool, true, false, List, [], ◌∷◌, length, ℤ, pos, negsuc, neg_ℤ}
use Rattle.bit_list.specs.Bits.{low_bits, number_of}
use Rattle.coef_block.specs.Categories.{category}

-- the additional bits of a value: the number's own, or if it is negative those of the number less one (F.1.2.1)
abbrev pub mag : ℤ → List Bool
mag (pos n) = low_bits (category n) n
mag (negsuc n) = low_bits (category (n + 1)) (2 ^ category (n + 1) - 1 - (n + 1))

-- the value of a category's bits: negative if the first of them is a zero (Figure F.12, EXTEND)
abbrev pub extend : List Bool → ℤ
extend [] = pos 0
extend (true ∷ bits) = pos (number_of (true ∷ bits))
extend (false ∷ bits) = neg_ℤ (pos (2 ^ length (false ∷ bits) - 1 - number_of (false ∷ bits)))
