use Rattle.huff_table.proofs.LongReading.{WordEnds}
use Rattle.huff_table.proofs.long_words.word_ends.Given as goal

abbrev pub invariant-loop-i : goal.invariant-loop-i
invariant-loop-i l = WordEnds l.ends l.i l.first l.fn.table.counts
