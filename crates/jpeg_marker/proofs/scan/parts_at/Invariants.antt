use Rattle.std.proofs.Common.{◌≡◌, length, take}
use Rattle.jpeg_marker.specs.Plans.{parts_at}
use Rattle.jpeg_marker.proofs.scan.parts_at.Given as goal

abbrev pub invariant-loop-i : goal.invariant-loop-i
invariant-loop-i l = record {
  size : length l.chosen ≡ 4;
  value : take l.i l.chosen ≡ parts_at l.parts (take l.i l.indexes);
}
