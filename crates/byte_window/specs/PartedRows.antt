-- Rows: worked slices of files in parts (own).
use Rattle.std.specs.Prelude.{ℕ, ◌≡◌, List, [], ◌∷◌, replicate}
use Rattle.byte_window.specs.PartedFiles.{PartedFile, parts_end, parts_within, begun_within, window_within, slice_bytes, listed}
use Rattle.byte_window.specs.WindowRows.{bounded, covering}

-- a file of these segments and places, with two bytes after the scan. The header's 75 bytes are no matter here
abbrev pub placed : List (List ℕ) → List ℕ → PartedFile
placed segments places = listed (replicate 75 0) segments (0xff ∷ 0xd9 ∷ []) places

-- two segments, of which the first ends with a restart marker
abbrev pub on_the_seam : PartedFile
on_the_seam = placed ((0x3f ∷ 0xff ∷ 0xd0 ∷ []) ∷ (0x3f ∷ []) ∷ []) (75 ∷ 78 ∷ 79 ∷ [])

abbrev pub restart_on_the_seam : Type 0
restart_on_the_seam =
    (parts_end on_the_seam ≡ 79)
    × (slice_bytes on_the_seam 76 78 ≡ 0xff ∷ 0xd0 ∷ [])
    × (begun_within on_the_seam 76 78 ≡ 1)
    × (slice_bytes on_the_seam 77 79 ≡ 0xd0 ∷ 0x3f ∷ [])
    × (begun_within on_the_seam 77 79 ≡ 2)
    × (slice_bytes on_the_seam 0 75 ≡ replicate 75 0)
    × (begun_within on_the_seam 0 75 ≡ 0)
    × (slice_bytes on_the_seam 78 78 ≡ [])
    × (begun_within on_the_seam 78 78 ≡ 0)
    × (slice_bytes on_the_seam 78 81 ≡ 0x3f ∷ 0xff ∷ 0xd9 ∷ [])
    × (begun_within on_the_seam 78 81 ≡ 1)
    × (slice_bytes on_the_seam 79 81 ≡ 0xff ∷ 0xd9 ∷ [])
    × (begun_within on_the_seam 79 81 ≡ 0)

-- these two with a segment without a byte before, between and after them
abbrev pub with_empty_ones : PartedFile
with_empty_ones =
    placed ([] ∷ (0x3f ∷ 0xff ∷ 0xd0 ∷ []) ∷ [] ∷ (0x3f ∷ []) ∷ [] ∷ [])
    (75 ∷ 75 ∷ 78 ∷ 78 ∷ 79 ∷ 79 ∷ [])

-- such a segment at an end of the range isn't begun; between two that are it is
abbrev pub segments_without_a_byte : Type 0
segments_without_a_byte =
    (parts_within with_empty_ones 75 78 ≡ covering 1 2)
    × (slice_bytes with_empty_ones 75 78 ≡ 0x3f ∷ 0xff ∷ 0xd0 ∷ [])
    × (parts_within with_empty_ones 77 79 ≡ covering 1 4)
    × (begun_within with_empty_ones 77 79 ≡ 3)
    × (window_within with_empty_ones 77 79 ≡ bounded 2 2)
    × (slice_bytes with_empty_ones 77 79 ≡ 0xd0 ∷ 0x3f ∷ [])
    × (parts_within with_empty_ones 78 81 ≡ covering 3 4)
    × (slice_bytes with_empty_ones 78 81 ≡ 0x3f ∷ 0xff ∷ 0xd9 ∷ [])
    × (parts_within with_empty_ones 74 76 ≡ covering 1 2)
    × (slice_bytes with_empty_ones 74 76 ≡ 0 ∷ 0x3f ∷ [])
    × (parts_within with_empty_ones 78 78 ≡ covering 0 0)
    × (parts_within with_empty_ones 79 81 ≡ covering 0 0)
    × (slice_bytes with_empty_ones 79 81 ≡ 0xff ∷ 0xd9 ∷ [])

-- those on the seam, with a second place that isn't theirs
abbrev pub misplaced : PartedFile
misplaced = placed ((0x3f ∷ 0xff ∷ 0xd0 ∷ []) ∷ (0x3f ∷ []) ∷ []) (75 ∷ 77 ∷ 79 ∷ [])

-- the places that are kept count, whatever bytes the segments have
abbrev pub kept_places : Type 0
kept_places =
    (parts_within misplaced 76 78 ≡ covering 0 2)
    × (window_within misplaced 76 78 ≡ bounded 1 2)
    × (parts_within misplaced 77 78 ≡ covering 1 2)
    × (window_within misplaced 77 78 ≡ bounded 0 1)
