use Rattle.block_spec.proofs.SegmentsOnce.{segment_once}
use Rattle.block_spec.proofs.laws.one_segment.Goals as goal

pub returns : goal.returns
returns c = segment_once
