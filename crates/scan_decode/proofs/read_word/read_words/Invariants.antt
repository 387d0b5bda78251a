use Rattle.std.proofs.Common.{◌≡◌, length}
use Rattle.scan_decode.specs.ReadWords.{AreReads}
use Rattle.scan_decode.proofs.read_word.read_words.Given as goal

abbrev pub invariant-loop-index : goal.invariant-loop-index
invariant-loop-index l = record {
  size : length l.words.items ≡ 1024;
  reads : AreReads l.codes l.words.items;
}
