use Rattle.std.proofs.Common.{◌≡◌, ◌+◌, drop}
use Rattle.jpeg_marker.specs.HuffmanTables.{code_space}
use Rattle.jpeg_marker.proofs.table.code_space.Given as goal

abbrev pub invariant-loop-i : goal.invariant-loop-i
invariant-loop-i l = l.space + code_space (drop l.i l.counts) ≡ code_space l.counts
