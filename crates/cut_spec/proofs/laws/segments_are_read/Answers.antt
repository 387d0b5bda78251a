use Rattle.cut_spec.proofs.SegmentsRead.{first_are_read, segment_is_read}
use Rattle.cut_spec.proofs.laws.segments_are_read.Goals as goal

pub returns-clause-first : goal.returns-clause-first
returns-clause-first c = first_are_read

pub returns-clause-segment : goal.returns-clause-segment
returns-clause-segment c = segment_is_read
