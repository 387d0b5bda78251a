use Rattle.std.proofs.Common.{◌≡◌, ◌+◌, ◌-◌, ◌^◌, ◌<◌, List, ℕ, length, map, drop, min, sum}
use Rattle.box_format.specs.Versions.{layout_of}
use Rattle.box_format.specs.Given.{parts_given}
use Rattle.box_format.specs.Given.{scan_room}
use Rattle.box_format.proofs.writing.scan_room.Given as goal

abbrev pub invariant-loop-stream : goal.invariant-loop-stream
invariant-loop-stream l = record {
  small : l.room < 2 ^ 64;
  left : min (2 ^ 64 - 1)
      (l.room + sum (map (λ (stream : List ℕ). (layout_of (parts_given l.scan).version).room + length stream)
      (map (λ v. v.items) (drop l.stream-index l.scan.streams.now))))
      ≡ min (2 ^ 64 - 1) (scan_room (parts_given l.scan));
}
