use Rattle.block_spec.proofs.Segments.{segment_more}
use Rattle.block_spec.proofs.laws.a_block_more.Goals as goal

pub returns : goal.returns
returns c = segment_more
