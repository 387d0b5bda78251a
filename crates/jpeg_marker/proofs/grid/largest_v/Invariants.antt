use Rattle.std.proofs.Common.{◌≡◌, ◌≤◌, take}
use Rattle.jpeg_marker.specs.Plans.{largest}
use Rattle.jpeg_marker.proofs.grid.largest_v.Given as goal

abbrev pub invariant-loop-part : goal.invariant-loop-part
invariant-loop-part l = record {
  value : l.most ≡ largest (λ p. p.v) (take l.part-index l.parts);
  positive : 1 ≤ l.most;
}
