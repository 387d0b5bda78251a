use Rattle.std.specs.Prelude.{◌-◌, ◌≤◌, All, length}
use Rattle.range_read.specs.Lanes.{IsLane}
use Rattle.range_read.proofs.lanes.lanes_of.Given as goal

abbrev pub invariant-loop-alloc : goal.invariant-loop-alloc
invariant-loop-alloc l = record {
  new : All (IsLane l.scan 0) l.lanes.items;
  within : length l.lanes.items ≤ l.count;
}

abbrev pub decreases-loop-alloc : goal.decreases-loop-alloc
decreases-loop-alloc l = l.count - length l.lanes.items
