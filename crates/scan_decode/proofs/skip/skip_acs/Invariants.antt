use Rattle.std.proofs.Common.{◌-◌, ◌≡◌, ◌≤◌, ◌<◌, ℤ, ◌∷◌, [], false}
use Rattle.scan_spec.specs.ScanReading.{prefixed_values, acs_at}
use Rattle.scan_decode.specs.SkipWords.{IsSkipped}
use Rattle.scan_decode.proofs.skip.skip_acs.Given as goal

abbrev pub invariant-loop-index : goal.invariant-loop-index
invariant-loop-index l = record {
  some : 0 < l.index;
  within : l.index ≤ 64;
  bytes : l.input.bytes ≡ l.fn.input.bytes;
  going : (dc : ℤ) → IsSkipped (prefixed_values (dc ∷ []) (acs_at 63 l.codes 63 false l.fn.input.bytes l.fn.input.cursor)) l.codes l.fn.input.bytes l.index false l.input.cursor;
}

abbrev pub decreases-loop-index : goal.decreases-loop-index
decreases-loop-index l = 64 - l.index
