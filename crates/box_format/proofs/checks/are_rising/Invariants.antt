use Rattle.std.proofs.Common.{◌≡◌, drop}
use Rattle.std.specs.Prelude.{slice_index}
use Rattle.box_format.specs.Versions.{layout_of}
use Rattle.box_format.specs.Parts.{are_rising}
use Rattle.box_format.specs.Fields.{segments_at}
use Rattle.box_format.specs.Whole.{listed_at}
use Rattle.box_format.proofs.checks.are_rising.Given as goal

abbrev pub invariant-loop-i : goal.invariant-loop-i
invariant-loop-i l =
    let places = listed_at (layout_of l.version) l.bytes l.fields in
    record {
      count : l.segments ≡ segments_at l.bytes l.fields;
      place : l.place ≡ slice_index places l.i;
      left : are_rising (drop l.i places) ≡ are_rising places;
    }
