use Rattle.std.proofs.Common.{◌≡◌, ◌+◌, ◌*◌, ◌^◌, ◌≤◌}
use Rattle.box_format.specs.Versions.{layout_of}
use Rattle.box_format.specs.Fields.{fields_place, streams_place}
use Rattle.box_format.proofs.fields.streams_place.Given as goal

abbrev pub invariant-loop : goal.invariant-loop
invariant-loop l = record {
  fields : l.fields ≡ fields_place (layout_of l.version) l.bytes l.counter;
  small : l.fields ≤ 10 + 7696 * l.counter;
  place : l.place ≡ streams_place (layout_of l.version) l.bytes l.counter;
  within : l.place ≤ 2 ^ 72 + 2 ^ 72 * l.counter;
}
