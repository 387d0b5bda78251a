use Rattle.std.proofs.Common.{◌≡◌, drop, length, sum}
use Rattle.huff_table.proofs.Decoded.{Reaches}
use Rattle.huff_table.proofs.codes.Codes.by_bits.Given as goal

abbrev pub invariant-loop-count : goal.invariant-loop-count
invariant-loop-count l = record {
  bytes : l.input.bytes ≡ l.fn.input.bytes;
  whole : length l.values ≡ sum (drop l.count-index l.counts);
  reaches : Reaches l.self l.fn.input.bytes l.fn.input.cursor l.count-index l.code l.first (drop l.count-index l.counts) l.values l.input.cursor;
}
