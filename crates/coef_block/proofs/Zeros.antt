-- A block of zeros.
use Rattle.std.proofs.Common.{ℕ, pos, replicate, refl, arith}
use Rattle.std.proofs.lemmas.List.{get_or-replicate}
use Rattle.coef_block.specs.Block.{IsBlock, IsCoefficient}

-- zero is within every limit
pub zero_is_a_coefficient : (position : ℕ) → IsCoefficient position (pos 0)
zero_is_a_coefficient position = omega arith

pub zeros_are_a_block : IsBlock (replicate 64 (pos 0))
zeros_are_a_block = record {
  count = refl;
  coefficients = λ position within. rw (get_or-replicate 64 position (pos 0) (pos 0) within) (zero_is_a_coefficient position);
}
