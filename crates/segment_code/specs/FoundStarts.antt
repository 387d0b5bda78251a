-- Steps: the starts that a reader finds in its pass over a scan (own).
use Rattle.std.specs.Prelude.{ℕ, true, map, Ok, Err}
use Rattle.std.specs.List.{range_with_len}
use Rattle.scan_spec.specs.Pads.{Same}
use Rattle.scan_spec.specs.ScanCalls.{ScanReader, resume_place}
use Rattle.scan_spec.specs.ScanReading.{Standing}
use Rattle.handover.specs.Handovers.{HandoverFields}
use Rattle.cut_spec.specs.Cuts.{Cut, row_of, first_mcu}
use Rattle.cut_spec.specs.HandedOver.{spot_in}
use Rattle.cut_spec.specs.RowHandovers.{handover_of}
use Rattle.segment_code.specs.FileStarts.{StartsFields}
use Rattle.segment_code.specs.CodedMcus.{McusRead, next_of}

-- where MCUs were read to, or another standing where they weren't (own)
abbrev pub standing_or : Standing → McusRead → Standing
standing_or other (Ok read) = read.1
standing_or other (Err refusal) = other

-- where a reader is after its next n MCUs, or where it was if they can't be read (own)
abbrev pub stands_after : ScanReader → ℕ → Standing
stands_after reader n = standing_or reader.at (next_of n reader)

-- the place of the first byte that they don't complete (own)
abbrev pub place_after : ScanReader → ℕ → ℕ
place_after reader n = resume_place (stands_after reader n).cursor

-- what they hand over (own)
abbrev pub handover_after : ScanReader → ℕ → HandoverFields
handover_after reader n = handover_of reader.shape (spot_in reader.bytes (stands_after reader n))

-- the starts of the first `count` segments that a reader at the scan's start finds, while the scan's end isn't known
-- (own)
abbrev pub found : ScanReader → Cut → ℕ → StartsFields
found reader cut count =
    let segments = range_with_len 0 count in
    record {
      rows = map (row_of cut) segments;
      places = map (λ i. place_after reader (first_mcu cut i)) segments;
      handovers = map (λ i. handover_after reader (first_mcu cut i)) segments;
      pads = Same true;
      trailer = 0;
    }
