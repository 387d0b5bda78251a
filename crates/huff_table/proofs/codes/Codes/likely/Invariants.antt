use Rattle.std.proofs.Common.{◌≤◌}
use Rattle.huff_table.proofs.codes.Codes.likely.Given as goal

abbrev pub invariant-loop-end : goal.invariant-loop-end
invariant-loop-end l = l.shorter ≤ l.end-index
