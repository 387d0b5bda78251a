-- Statement: what restart intervals were padded with, scan by scan (docs/FORMAT.md, Pad bits).
use Rattle.std.specs.Prelude.{ℕ, List, map, replicate, get_or, set}
use Rattle.std.specs.List.{range_with_len}
use Rattle.handover.specs.PadSums.{no_pads, pads_with}
use Rattle.handover.specs.declared.pads.PadSum.{PadSum}

-- one for each scan that a file may have
abbrev pub ScanPads : Type 0
ScanPads = List PadSum

-- no interval of any of four scans
abbrev pub no_sums : ScanPads
no_sums = replicate 4 no_pads

-- those of one scan
abbrev pub sum_in : ScanPads → ℕ → PadSum
sum_in sums scan = get_or sums scan no_pads

-- these intervals of one scan
abbrev pub sums_of : ℕ → PadSum → ScanPads
sums_of scan padded = set no_sums scan padded

-- some intervals and others, scan by scan
abbrev pub sums_with : ScanPads → ScanPads → ScanPads
sums_with a b = map (λ scan. pads_with (sum_in a scan) (sum_in b scan)) (range_with_len 0 4)
