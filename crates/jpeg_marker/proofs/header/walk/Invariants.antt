use Rattle.std.proofs.Common.{◌≡◌, ◌+◌, length, take}
use Rattle.jpeg_marker.specs.Walks.{walk_from}
use Rattle.jpeg_marker.proofs.HeaderWalks.{Walked}
use Rattle.jpeg_marker.proofs.header.walk.Given as goal

abbrev pub invariant-segments : goal.invariant-segments
invariant-segments l = record {
  walked : Walked (walk_from l.known l.scans l.place (take l.start l.bytes)) l.bytes l.rest l.here l.found;
  room : l.here + length l.rest ≡ l.place + length l.bytes;
}

abbrev pub decreases-segments : goal.decreases-segments
decreases-segments l = length l.rest
