use Rattle.std.proofs.Common.{◌≡◌, ◌+◌, drop, length, sum, replicate}
use Rattle.huff_table.specs.CodesInside.{no_word}
use Rattle.huff_table.specs.Levels.{levels}
use Rattle.huff_table.proofs.Built.{Builds}
use Rattle.huff_table.proofs.codes.Codes.build.Given as goal

abbrev pub invariant-loop-i : goal.invariant-loop-i
invariant-loop-i l = record {
  size : length l.words ≡ 256;
  whole : length l.values ≡ sum (drop l.i l.counts);
  builds : Builds l.words (replicate 256 no_word) (l.i + 1) l.first (drop l.i l.counts) l.values (levels 1 0 l.counts l.initial.values);
}
