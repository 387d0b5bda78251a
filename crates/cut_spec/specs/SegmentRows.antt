-- Rows: worked segments (own).
use Rattle.std.specs.Prelude.{ℕ, ◌≡◌, Bool, true, List, [], ◌∷◌, map, Ok}
use Rattle.scan_spec.specs.Scans.{Mcu, no_dcs}
use Rattle.scan_spec.specs.Spots.{first_spot, mcus_put, bytes_done}
use Rattle.scan_spec.specs.BlockRows.{level}
use Rattle.scan_spec.specs.ScanRows.{grey, ones, blank}
use Rattle.handover.specs.Handovers.{HandoverFields, start}
use Rattle.cut_spec.specs.Cuts.{cut_of, row_of}
use Rattle.cut_spec.specs.RowHandovers.{handover_of, handover_at, spot_of, segment_bytes, mcus_between}

-- pads of ones
abbrev pub one : ℕ → Bool
one n = true

-- four MCUs of zeros
abbrev pub four : List Mcu
four = blank ∷ blank ∷ blank ∷ blank ∷ []

-- two MCUs of zeros
abbrev pub two : List Mcu
two = blank ∷ blank ∷ []

-- a handover in the first restart interval, with every DC 0
abbrev pub begun : ℕ → ℕ → HandoverFields
begun partial bits = record { partial = partial; bits = bits; preds = no_dcs; restarts = 0 }

-- a byte that one segment begins and the next one ends
abbrev pub a_segment_without_a_byte : Type 0
a_segment_without_a_byte =
    (handover_at (grey level 2 0) one two 0 ≡ start)
    × (handover_at (grey level 2 0) one two 1 ≡ begun 0 2)
    × (mcus_put (grey level 2 0) one first_spot (mcus_between two 0 1)
    ≡ Ok ([], spot_of (begun 0 2) 1))
    × (mcus_put (grey level 2 0) one (spot_of (begun 0 2) 1) (mcus_between two 1 2)
    ≡ Ok (0x0f ∷ [], spot_of start 2))
    × (segment_bytes (grey level 2 0) one two (0x0f ∷ []) 0 1 ≡ [])
    × (segment_bytes (grey level 2 0) one two (0x0f ∷ []) 1 2 ≡ 0x0f ∷ [])

-- one byte across four segments
abbrev pub one_byte_across_four_segments : Type 0
one_byte_across_four_segments =
    (map (row_of (cut_of 1 4 4)) (0 ∷ 1 ∷ 2 ∷ 3 ∷ 4 ∷ []) ≡ 0 ∷ 1 ∷ 2 ∷ 3 ∷ 4 ∷ [])
    × (map (bytes_done (grey ones 4 0) one four) (0 ∷ 1 ∷ 2 ∷ 3 ∷ 4 ∷ [])
    ≡ 0 ∷ 0 ∷ 0 ∷ 0 ∷ 2 ∷ [])
    × (map (handover_at (grey ones 4 0) one four) (0 ∷ 1 ∷ 2 ∷ 3 ∷ [])
    ≡ begun 0x00 0 ∷ begun 0xc0 2 ∷ begun 0xf0 4 ∷ begun 0xfc 6 ∷ [])
    × (mcus_put (grey ones 4 0) one (spot_of (begun 0xfc 6) 3) (blank ∷ [])
    ≡ Ok (0xff ∷ 0x00 ∷ [], spot_of start 4))

-- as many segments as rows at most, and rows of segments that can't be equally many
abbrev pub segments_have_rows : Type 0
segments_have_rows =
    (cut_of 1 2 16 ≡ cut_of 1 2 2)
    × (map (row_of (cut_of 1 7 3)) (0 ∷ 1 ∷ 2 ∷ 3 ∷ []) ≡ 0 ∷ 2 ∷ 4 ∷ 7 ∷ [])

-- the marker at the end of a segment, and the handover after it
abbrev pub restart_on_the_seam : Type 0
restart_on_the_seam =
    (mcus_put (grey level 2 1) one first_spot (blank ∷ [])
    ≡ Ok (0x3f ∷ 0xff ∷ 0xd0 ∷ [], record { begun = []; before = no_dcs; count = 1 }))
    × (handover_at (grey level 2 1) one two 1 ≡ record start { restarts = 1 })
    × (handover_of (grey level 2 1) (record { begun = []; before = no_dcs; count = 2 })
    ≡ record start { restarts = 1 })
    × (segment_bytes (grey level 2 1) one two (0x3f ∷ 0xff ∷ 0xd0 ∷ 0x3f ∷ []) 0 1
    ≡ 0x3f ∷ 0xff ∷ 0xd0 ∷ [])
    × (segment_bytes (grey level 2 1) one two (0x3f ∷ 0xff ∷ 0xd0 ∷ 0x3f ∷ []) 1 2 ≡ 0x3f ∷ [])
