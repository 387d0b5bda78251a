use Rattle.std.proofs.Common.{◌≡◌, ◌*◌, ◌^◌, ◌≤◌, map, sum}
use Rattle.std.specs.List.{range_with_len}
use Rattle.box_format.specs.Versions.{layout_of}
use Rattle.box_format.specs.Raws.{length_from}
use Rattle.box_format.specs.Fields.{in_record}
use Rattle.box_format.proofs.fields.streams_room.Given as goal

abbrev pub invariant-loop-i : goal.invariant-loop-i
invariant-loop-i l = record {
  room : l.room ≡ sum (map (in_record length_from (layout_of l.fn.version) l.bytes l.place) (range_with_len 0 l.i));
  few : l.room ≤ l.i * 2 ^ 64;
}
