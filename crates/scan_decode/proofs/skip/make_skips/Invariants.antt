use Rattle.std.proofs.Common.{◌≡◌, length, map}
use Rattle.scan_decode.specs.SkipWords.{AreSkips}
use Rattle.scan_decode.proofs.WordLists.{OfComponents}
use Rattle.scan_decode.proofs.skip.make_skips.Given as goal

abbrev pub invariant-loop-i : goal.invariant-loop-i
invariant-loop-i l = record {
  long : length l.skips.items ≡ l.i;
  made : OfComponents AreSkips l.codes (map (λ v. v.items) l.skips.items);
}
