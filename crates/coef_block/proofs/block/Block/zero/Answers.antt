use Rattle.std.proofs.Common.{refl}
use Rattle.coef_block.specs.BlockInside.{mask_of}
use Rattle.coef_block.specs.Nonzeros.{zigzag_indexes}
use Rattle.coef_block.proofs.Zeros.{zeros_are_a_block}
use Rattle.coef_block.proofs.block.Block.zero.Goals as goal

pub invariant_of-result : goal.invariant_of-result
unfolding mask_of zigzag_indexes
invariant_of-result c = record { block = zeros_are_a_block; mask = refl }
