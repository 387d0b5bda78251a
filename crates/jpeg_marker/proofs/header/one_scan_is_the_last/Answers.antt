use Rattle.jpeg_marker.proofs.OneScans.{one_is_last, one_is_several, several_is_one}
use Rattle.jpeg_marker.proofs.header.one_scan_is_the_last.Goals as goal

pub returns : goal.returns
returns c = record { last = one_is_last; several = one_is_several; back = several_is_one }
