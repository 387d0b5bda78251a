use Rattle.segment_code.proofs.ScansOfSegments.{IsBefore}
use Rattle.segment_code.proofs.file_decoder.segment_at.Given as goal

abbrev pub invariant-loop-scan : goal.invariant-loop-scan
invariant-loop-scan l = IsBefore l.view l.segment l.scan l.before
