use Rattle.std.proofs.Common.{◌≡◌, length, map}
use Rattle.scan_decode.specs.ReadWords.{AreReads}
use Rattle.scan_decode.proofs.WordLists.{OfComponents}
use Rattle.scan_decode.proofs.blocks.make_reads.Given as goal

abbrev pub invariant-loop-i : goal.invariant-loop-i
invariant-loop-i l = record {
  long : length l.reads.items ≡ l.i;
  made : OfComponents AreReads l.codes (map (λ v. v.items) l.reads.items);
}
