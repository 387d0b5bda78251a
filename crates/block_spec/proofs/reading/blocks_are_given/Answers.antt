use Rattle.block_spec.proofs.BlocksRead.{read_is_given, blocks_are_given, fault_is_given}
use Rattle.block_spec.proofs.reading.blocks_are_given.Goals as goal

pub returns : goal.returns
returns c = record { block = read_is_given; blocks = blocks_are_given; fault = fault_is_given }
