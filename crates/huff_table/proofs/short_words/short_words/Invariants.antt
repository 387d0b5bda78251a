use Rattle.std.proofs.Common.{◌≡◌, length}
use Rattle.huff_table.proofs.ShortReading.{AreMade}
use Rattle.huff_table.proofs.short_words.short_words.Given as goal

abbrev pub invariant-loop-index : goal.invariant-loop-index
invariant-loop-index l = record {
  size : length l.words ≡ 512;
  made : AreMade l.table l.index l.words;
}
