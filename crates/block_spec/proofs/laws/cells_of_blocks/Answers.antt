use Rattle.block_spec.proofs.CellsOfBlocks.{index_is, cell_at_index}
use Rattle.block_spec.proofs.laws.cells_of_blocks.Goals as goal

pub returns-clause-index : goal.returns-clause-index
returns-clause-index c = index_is

pub returns-clause-cell : goal.returns-clause-cell
returns-clause-cell c = cell_at_index
