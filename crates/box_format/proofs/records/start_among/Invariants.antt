use Rattle.std.proofs.Common.{◌≡◌}
use Rattle.std.specs.Prelude.{sum}
use Rattle.box_format.specs.Slices.{lengths_in}
use Rattle.box_format.proofs.records.start_among.Given as goal

abbrev pub invariant-loop-i : goal.invariant-loop-i
invariant-loop-i l = l.place ≡ sum (lengths_in l.version l.i l.records)
