use Rattle.std.proofs.Common.{refl}
use Rattle.coef_block.specs.Nonzeros.{zigzag_indexes}
use Rattle.block_spec.specs.Around.{inner_positions}
use Rattle.block_code.specs.BandPositions.{positions_of}
use Rattle.block_code.proofs.positions.inner_indexes.Goals as goal

pub returns : goal.returns
unfolding positions_of zigzag_indexes inner_positions
returns c = refl
