use Rattle.std.proofs.Common.{◌≡◌, drop, length, sum}
use Rattle.bit_list.specs.Bits.{low_bits}
use Rattle.huff_table.proofs.ShortReading.{Passes}
use Rattle.huff_table.proofs.short_words.short_word.Given as goal

abbrev pub invariant-loop-i : goal.invariant-loop-i
invariant-loop-i l = record {
  whole : length l.values ≡ sum (drop l.i l.counts);
  passes : Passes l.table (low_bits 9 l.index) l.i l.first (drop l.i l.counts) l.values;
}
