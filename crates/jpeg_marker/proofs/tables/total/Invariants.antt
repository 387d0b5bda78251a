use Rattle.std.proofs.Common.{◌≡◌, ◌*◌, ◌≤◌, take, sum}
use Rattle.jpeg_marker.proofs.tables.total.Given as goal

abbrev pub invariant-loop-count : goal.invariant-loop-count
invariant-loop-count l = record {
  value : l.values ≡ sum (take l.count-index l.counts);
  few : l.values ≤ 255 * l.count-index;
}
