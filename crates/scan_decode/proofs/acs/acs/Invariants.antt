use Rattle.std.proofs.Common.{◌-◌, ◌≡◌, ◌≤◌, ◌<◌, ◌∷◌, [], false}
use Rattle.scan_spec.specs.BlockBits.{coefficient_at}
use Rattle.scan_spec.specs.ScanReading.{prefixed_values, acs_at}
use Rattle.scan_decode.specs.BlockSteps.{IsGoing}
use Rattle.scan_decode.proofs.acs.acs.Given as goal

abbrev pub invariant-loop-at : goal.invariant-loop-at
invariant-loop-at l = record {
  some : 0 < l.at.index;
  within : l.at.index ≤ 64;
  bytes : l.input.bytes ≡ l.fn.input.bytes;
  going : IsGoing (λ block. l.out ≡ block) (prefixed_values (coefficient_at l.fn.out 0 ∷ []) (acs_at 63 l.codes 63 false l.fn.input.bytes l.fn.input.cursor)) l.codes l.fn.input.bytes l.at.index l.at.loose l.input.cursor;
}

abbrev pub decreases-loop-at : goal.decreases-loop-at
decreases-loop-at l = 64 - l.at.index
