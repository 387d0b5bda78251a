use Rattle.std.proofs.Common.{refl}
use Rattle.coef_block.specs.Nonzeros.{zigzag_indexes}
use Rattle.block_code.specs.BandPositions.{positions_of}
use Rattle.block_code.proofs.positions.edge_indexes.Goals as goal

pub returns-then-column : goal.returns-then-column
unfolding positions_of zigzag_indexes
returns-then-column c = rw c.if-column.true refl

pub returns-else-column : goal.returns-else-column
unfolding positions_of zigzag_indexes
returns-else-column c = rw c.if-column.false refl
