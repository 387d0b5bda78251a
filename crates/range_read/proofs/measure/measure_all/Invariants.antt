use Rattle.std.specs.Prelude.{◌≡◌, ◌-◌, All, length, min}
use Rattle.range_read.specs.Lanes.{AreMeasuredUpTo, IsLane, most_at_once}
use Rattle.range_read.proofs.measure.measure_all.Given as goal

abbrev pub invariant-loop-first : goal.invariant-loop-first
invariant-loop-first g l = record {
  lanes : All (IsLane l.scan l.first) l.lanes.items;
  count : length l.lanes.items ≡ min most_at_once (length l.scan.parts.handovers);
  so_far : AreMeasuredUpTo l.scan (min l.first (length l.scan.parts.handovers)) l.measures.items;
}

abbrev pub decreases-loop-first : goal.decreases-loop-first
decreases-loop-first g l = length l.scan.parts.handovers - l.first
