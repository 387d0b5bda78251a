use Rattle.block_spec.proofs.BlocksRead.{given_is_read, given_blocks_are_read, fault_is_read}
use Rattle.block_spec.proofs.reading.given_blocks_are_read.Goals as goal

pub returns : goal.returns
returns c = record { block = given_is_read; blocks = given_blocks_are_read; fault = fault_is_read }
