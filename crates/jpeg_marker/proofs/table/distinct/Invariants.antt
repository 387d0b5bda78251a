use Rattle.std.proofs.Common.{◌≡◌, ◌<◌, ℕ, true, false, length, get_or, take, eqb}
use Rattle.std.specs.List.{list_any}
use Rattle.jpeg_marker.specs.HuffmanTables.{distinct}
use Rattle.jpeg_marker.proofs.table.distinct.Given as goal

abbrev pub invariant-loop-value : goal.invariant-loop-value
invariant-loop-value l = record {
  size : length l.seen ≡ 256;
  marked : (v : ℕ) → v < 256 → get_or l.seen v false ≡ list_any (eqb v) (take l.value-index l.values);
  once : distinct (take l.value-index l.values) ≡ true;
}
