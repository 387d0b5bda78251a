use Rattle.std.proofs.Common.{[], replicate, refl, lit≤}
use Rattle.jpeg_marker.proofs.KeptPlans.{kept_fields}
use Rattle.jpeg_marker.proofs.table.RawTable.empty.Goals as goal

pub invariant_of-result : goal.invariant_of-result
invariant_of-result c = kept_fields (replicate 16 0) [] (replicate 256 0) refl refl refl (lit≤ tt) refl
