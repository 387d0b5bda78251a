use Rattle.huff_table.proofs.LongReading.{ValueEnds}
use Rattle.huff_table.proofs.long_words.value_ends.Given as goal

abbrev pub invariant-loop-i : goal.invariant-loop-i
invariant-loop-i l = ValueEnds l.ends l.i l.end l.fn.table.counts
