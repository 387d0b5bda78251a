use Rattle.std.proofs.Common.{◌≡◌, ◌+◌, drop, length}
use Rattle.huff_table.specs.CodesInside.{placed}
use Rattle.huff_table.specs.Levels.{level}
use Rattle.huff_table.proofs.codes.place_level.Given as goal

abbrev pub invariant-loop-value : goal.invariant-loop-value
invariant-loop-value l = record {
  size : length l.words ≡ 256;
  number : l.code ≡ l.first + l.value-index;
  rest : placed l.words (level l.size l.code (drop l.value-index l.values)) ≡ placed l.fn.words (level l.size l.first l.values);
}
