use Rattle.std.proofs.Common.{◌≡◌, length}
use Rattle.scan_decode.specs.SkipWords.{AreSkips}
use Rattle.scan_decode.proofs.skip_word.skip_words.Given as goal

abbrev pub invariant-loop-index : goal.invariant-loop-index
invariant-loop-index l = record {
  size : length l.words.items ≡ 4096;
  skips : AreSkips l.codes l.words.items;
}
