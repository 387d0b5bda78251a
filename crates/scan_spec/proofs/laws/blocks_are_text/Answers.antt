use Rattle.scan_spec.proofs.BlocksTaken.{block_spelled, block_again, blocks_spelled, blocks_again}
use Rattle.scan_spec.proofs.Short.{short}
use Rattle.scan_spec.proofs.laws.blocks_are_text.Goals as goal

pub returns-clause-block : goal.returns-clause-block
returns-clause-block c = block_spelled

pub returns-clause-block_again : goal.returns-clause-block_again
returns-clause-block_again c = block_again

pub returns-clause-blocks : goal.returns-clause-blocks
returns-clause-blocks c = blocks_spelled

pub returns-clause-blocks_again : goal.returns-clause-blocks_again
returns-clause-blocks_again c = λ slots before mcu bytes bits from to all is text stand. blocks_again slots before mcu bytes bits from to all is.1 is.0 text stand

pub returns-clause-short : goal.returns-clause-short
returns-clause-short c = short
