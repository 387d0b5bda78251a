use Rattle.std.proofs.Common.{◌≡◌, ◌+◌, ◌-◌, ◌^◌, ◌<◌, map, drop, min, sum}
use Rattle.box_format.specs.Given.{all_given, scan_room, scans_room}
use Rattle.box_format.proofs.writing.room.Given as goal

abbrev pub invariant-loop-scan : goal.invariant-loop-scan
invariant-loop-scan l = record {
  small : l.room < 2 ^ 64;
  left : min (2 ^ 64 - 1) (l.room + sum (map scan_room (all_given (drop l.scan-index l.scans))))
      ≡ min (2 ^ 64 - 1) (scans_room l.fn.version (all_given l.scans));
}
