-- Steps: what the restart intervals of a scan are padded with, as a reader passes them (ITU-T T.81, F.1.2.3;
-- docs/FORMAT.md, Pad bits).
use Rattle.std.specs.Prelude.{ℕ, zero, suc, Bool, true, false, if◌then◌else◌, List, [], ◌∷◌, ◌++◌, ℤ, Option, Some, None, unwrap_or, Result, Ok, Err}
use Rattle.handover.specs.PadSums.{no_pads, pads_with}
use Rattle.handover.specs.declared.pads.PadSum.{PadSum}
use Rattle.scan_spec.specs.Slots.{Shape}
use Rattle.scan_spec.specs.Spots.{is_closed}
use Rattle.scan_spec.specs.Pads.{Same, interval_sum}
use Rattle.scan_spec.specs.ScanReading.{Standing, standing_at, mcu_at}
use Rattle.scan_spec.specs.declared.refusal.ScanRefusal.{ScanRefusal}

-- the pad bit of the interval that the last MCU ended, 1 if that pads none; no bit if it ended none (own)
abbrev pub pad_told : Shape → Standing → List Bool
pad_told shape at = if is_closed shape at.count then unwrap_or at.pad true ∷ [] else []

-- the pad bits of an MCU that was read and of those after it
abbrev pub pads_after : Shape → Result (List (List ℤ) × Standing) ScanRefusal
    → (Standing → List Bool) → List Bool
pads_after shape (Ok first) more = pad_told shape first.1 ++ more first.1
pads_after shape (Err refusal) more = []

-- the pad bits of the intervals that the next `count` MCUs end, in their order
unfoldable pub pads_told : ℕ → Shape → List ℕ → Standing → List Bool
pads_told zero shape bytes at = []
pads_told (suc count) shape bytes at =
    pads_after shape (mcu_at shape bytes at) (λ next. pads_told count shape bytes next)

-- the pad bits of the scan at a place, one for each interval
abbrev pub scan_pads : Shape → List ℕ → ℕ → List Bool
scan_pads shape bytes place = pads_told shape.mcus shape bytes (standing_at place)

-- what the pad bit of an interval comes to, if it pads one (own)
abbrev pub pad_sum : Option Bool → PadSum
pad_sum None = no_pads
pad_sum (Some bit) = interval_sum (Same bit) 0 false

-- and of the interval that the last MCU ended, if it ended one
abbrev pub sum_ended : Shape → Standing → PadSum
sum_ended shape at = if is_closed shape at.count then pad_sum at.pad else no_pads

-- of an MCU that was read and of those after it
abbrev pub sum_after : Shape → Result (List (List ℤ) × Standing) ScanRefusal
    → (Standing → PadSum) → PadSum
sum_after shape (Ok first) more = pads_with (sum_ended shape first.1) (more first.1)
sum_after shape (Err refusal) more = no_pads

-- what the intervals come to that the next `count` MCUs end
unfoldable pub sum_told : ℕ → Shape → List ℕ → Standing → PadSum
sum_told zero shape bytes at = no_pads
sum_told (suc count) shape bytes at =
    sum_after shape (mcu_at shape bytes at) (λ next. sum_told count shape bytes next)

-- and those of the scan at a place
abbrev pub scan_sum : Shape → List ℕ → ℕ → PadSum
scan_sum shape bytes place = sum_told shape.mcus shape bytes (standing_at place)
