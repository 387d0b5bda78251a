use Rattle.block_spec.proofs.BlockBounds.{block_length, segment_length, block_in, segment_in}
use Rattle.block_spec.proofs.laws.events_are_few.Goals as goal

pub returns-clause-block : goal.returns-clause-block
returns-clause-block c = block_length

pub returns-clause-segment : goal.returns-clause-segment
returns-clause-segment c = segment_length

pub returns-clause-block_bins : goal.returns-clause-block_bins
returns-clause-block_bins c = block_in

pub returns-clause-segment_bins : goal.returns-clause-segment_bins
returns-clause-segment_bins c = segment_in
