use Rattle.std.specs.Prelude.{◌+◌}
use Rattle.range_read.specs.Lanes.{AreMeasuredUpTo}
use Rattle.range_read.proofs.lanes.put_wave.Given as goal

abbrev pub invariant-loop-i : goal.invariant-loop-i
invariant-loop-i l = AreMeasuredUpTo l.wave.scan.now (l.wave.first + l.i) l.measures.items
