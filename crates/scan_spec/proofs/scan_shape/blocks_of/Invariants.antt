use Rattle.std.proofs.Common.{◌≡◌, ◌≤◌, ◌+◌, ◌++◌, take, drop, map}
use Rattle.std.specs.List.{sum_by}
use Rattle.jpeg_marker.specs.Frames.{area}
use Rattle.jpeg_marker.specs.Plans.{part_of}
use Rattle.scan_spec.specs.ShapeInside.{each_index}
use Rattle.scan_spec.proofs.scan_shape.blocks_of.Given as goal

abbrev pub invariant-loop-component : goal.invariant-loop-component
invariant-loop-component l = record {
  room : l.count + sum_by area (map part_of (drop l.component-index l.components)) ≤ 10;
  text : take l.count l.slots ++ each_index (drop l.component-index l.components) ≡ each_index l.components;
}
