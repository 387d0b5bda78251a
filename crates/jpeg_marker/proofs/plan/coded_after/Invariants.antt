use Rattle.std.proofs.Common.{◌≡◌, length, take}
use Rattle.jpeg_marker.specs.Plans.{coded_after}
use Rattle.jpeg_marker.proofs.plan.coded_after.Given as goal

abbrev pub invariant-loop-index : goal.invariant-loop-index
invariant-loop-index l = record {
  size : length l.all ≡ 4;
  value : l.all ≡ coded_after l.coded (take l.index-index l.indexes);
}
