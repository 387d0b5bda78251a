use Rattle.std.proofs.Common.{refl}
use Rattle.std.specs.List.{range_with_len}
use Rattle.coef_block.specs.Zigzag.{zigzag}
use Rattle.coef_block.proofs.Shuffle.{IsPermutation-is_shuffle}
use Rattle.coef_block.proofs.zigzag.zigzag_is_a_permutation.Goals as goal

pub returns : goal.returns
returns c = IsPermutation-is_shuffle zigzag (range_with_len 0 64) refl
