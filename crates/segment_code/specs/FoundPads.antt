-- Steps: the pad bits of the restart intervals that a reader passes (own).
use Rattle.std.specs.Prelude.{ℕ, Bool, List, [], ◌++◌}
use Rattle.handover.specs.PadSums.{no_pads, pads_with}
use Rattle.handover.specs.declared.pads.PadSum.{PadSum}
use Rattle.scan_spec.specs.ScanCalls.{ScanReader}
use Rattle.scan_spec.specs.ScanPads.{pads_told, sum_told}

-- a bit for each interval, 1 where it pads none, and what the intervals come to
pub record FoundPads : Type 0 where
  pub bits : List Bool
  pub sum : PadSum

-- of no interval
abbrev pub none_found : FoundPads
none_found = record { bits = []; sum = no_pads }

-- with those of the intervals that a reader's next `count` MCUs end
abbrev pub pads_through : ℕ → ScanReader → FoundPads → FoundPads
pads_through count reader pads = record {
  bits = pads.bits ++ pads_told count reader.shape reader.bytes reader.at;
  sum = pads_with pads.sum (sum_told count reader.shape reader.bytes reader.at);
}
