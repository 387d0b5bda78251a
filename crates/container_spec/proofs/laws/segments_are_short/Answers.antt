use Rattle.container_spec.proofs.ShortSegments.{segment_is_short}
use Rattle.container_spec.proofs.laws.segments_are_short.Goals as goal

pub returns : goal.returns
returns c = segment_is_short
