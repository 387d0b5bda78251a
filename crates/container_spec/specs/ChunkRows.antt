-- Rows: worked chunks of a file, by the parts of their containers (own).
use Rattle.std.specs.Prelude.{ℕ, ◌≡◌, List, true, [], ◌∷◌, replicate, length, Some}
use Rattle.byte_window.specs.Slices.{chunk_from, chunk_to}
use Rattle.byte_window.specs.PartedFiles.{PartedFile, header_within, parts_within, trailer_within, window_within}
use Rattle.byte_window.specs.WindowRows.{bounded, covering}
use Rattle.scan_spec.specs.ScanRows.{blank}
use Rattle.scan_spec.specs.Scans.{Mcu}
use Rattle.box_format.specs.Rows.{chunk_parts, image_end, ones_header, ones_plan}
use Rattle.box_format.specs.Parts.{BoxParts}
use Rattle.box_format.specs.Single.{box_bytes}
use Rattle.container_spec.specs.Chunks.{file_rows, parts_of_chunk}

-- a file of four rows of an MCU of two bits, which come to a byte of 255 and its stuffed zero; no bit is padded
abbrev pub blanks : List Mcu
blanks = replicate 4 blank

abbrev pub four_rows : PartedFile
four_rows = file_rows ones_plan blanks (true ∷ []) ones_header (0xff ∷ 0x00 ∷ []) image_end

-- the seam of two chunks between that byte and its stuffed zero; a chunk of one byte, of the header
abbrev pub one_byte_across_four_rows : Type 0
one_byte_across_four_rows =
    (chunk_from 72 1 ≡ 72)
    × (chunk_to 75 72 1 ≡ 75)
    × (parts_within four_rows 0 72 ≡ covering 3 4)
    × (window_within four_rows 0 72 ≡ bounded 0 1)
    × (four_rows.between 3 4 ≡ 0xff ∷ 0x00 ∷ [])
    × (length (header_within four_rows 0 72) ≡ 71)
    × (trailer_within four_rows 0 72 ≡ [])
    × (parts_within four_rows 72 75 ≡ covering 3 4)
    × (window_within four_rows 72 75 ≡ bounded 1 1)
    × (header_within four_rows 72 75 ≡ [])
    × (trailer_within four_rows 72 75 ≡ 0xff ∷ 0xd9 ∷ [])
    × (parts_within four_rows 0 1 ≡ covering 0 0)
    × (window_within four_rows 0 1 ≡ bounded 0 0)
    × (length (header_within four_rows 0 1) ≡ 1)
    × (parts_within four_rows 73 74 ≡ covering 0 0)
    × (trailer_within four_rows 73 74 ≡ 0xff ∷ [])

-- its chunk i of a size, in at most 8 segments
abbrev pub chunk_at : ℕ → ℕ → BoxParts
chunk_at size i =
    parts_of_chunk ones_plan blanks (true ∷ []) ones_header (0xff ∷ 0x00 ∷ []) image_end
    (chunk_from size i) (chunk_to 75 size i) 8

-- the containers of these chunks
abbrev pub chunks_of_four_rows : Type 0
chunks_of_four_rows =
    (chunk_at 72 1 ≡ chunk_parts)
    × (length (box_bytes (chunk_at 72 1)) ≡ 149)
    × (chunk_at 72 0
    ≡ record chunk_parts {
      chunk = Some (record { place = 0; length = 72; skip = 0; from = 3; to = 4 });
      trailer = [];
    })
    × (length (box_bytes (chunk_at 72 0)) ≡ 147)
    × (chunk_at 1 0
    ≡ record chunk_parts {
      chunk = Some (record { place = 0; length = 1; skip = 0; from = 0; to = 0 });
      trailer = [];
      handovers = [];
      streams = [];
    })
    × (length (box_bytes (chunk_at 1 0)) ≡ 122)
