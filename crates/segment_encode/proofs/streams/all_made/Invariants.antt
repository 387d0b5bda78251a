use Rattle.std.proofs.Common.{List, map}
use Rattle.segment_encode.specs.Lanes.{AreCoded}
use Rattle.segment_encode.specs.declared.lanes.Lane.{Lane}
use Rattle.segment_encode.proofs.LanesMade.{LanesSoFar}
use Rattle.segment_encode.proofs.streams.all_made.Given as goal

abbrev pub invariant-loop-lane : goal.invariant-loop-lane
invariant-loop-lane l =
    (olds : List Lane) → AreCoded olds l.fn.lanes.items
    → LanesSoFar olds l.lane-iterator.rest.items (map (λ v. v.items) l.streams.items)
