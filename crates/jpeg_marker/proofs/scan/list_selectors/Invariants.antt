use Rattle.std.proofs.Common.{◌≡◌, ◌+◌, ◌*◌, ◌++◌, length, take}
use Rattle.jpeg_marker.specs.Plans.{selectors_of}
use Rattle.jpeg_marker.proofs.scan.list_selectors.Given as goal

abbrev pub invariant-loop-rest : goal.invariant-loop-rest
invariant-loop-rest l = record {
  room : 2 * l.count + length l.rest ≡ length l.fields;
  selectors : take l.count l.selectors ++ selectors_of l.rest ≡ selectors_of l.fields;
  size : length l.selectors ≡ 4;
}

abbrev pub decreases-loop-rest : goal.decreases-loop-rest
decreases-loop-rest l = length l.rest
