use Rattle.std.proofs.Common.{◌≡◌, ◌≤◌, ◌+◌, ◌-◌, ◌++◌, length, replicate}
use Rattle.jpeg_marker.specs.GoodSegments.{stuck_after}
use Rattle.jpeg_marker.proofs.segment.skip_fill.Given as goal

abbrev pub invariant-loop-rest : goal.invariant-loop-rest
invariant-loop-rest l = record {
  stuck : stuck_after l.here l.rest ≡ stuck_after l.place l.bytes;
  fill : l.bytes ≡ replicate (l.here - l.place) 255 ++ l.rest;
  after : l.place ≤ l.here;
  room : l.here + length l.rest ≡ l.place + length l.bytes;
}

abbrev pub decreases-loop-rest : goal.decreases-loop-rest
decreases-loop-rest l = length l.rest
