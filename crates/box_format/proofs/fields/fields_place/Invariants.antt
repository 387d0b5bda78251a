use Rattle.std.proofs.Common.{◌≡◌, ◌+◌, ◌*◌, ◌≤◌}
use Rattle.box_format.specs.Versions.{layout_of}
use Rattle.box_format.specs.Fields.{fields_place}
use Rattle.box_format.proofs.fields.fields_place.Given as goal

abbrev pub invariant-loop : goal.invariant-loop
invariant-loop l = record {
  place : l.place ≡ fields_place (layout_of l.version) l.bytes l.counter;
  within : l.place ≤ 10 + 7696 * l.counter;
}
