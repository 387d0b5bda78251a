-- Law: what holds of the rows of all files, and of the containers of all chunks (own).
use Rattle.std.specs.Prelude.{ℕ, ◌≡◌, ◌*◌, ◌<◌, ◌≤◌, Bool, List, length, flat_map}
use Rattle.std.specs.List.{range_with_len}
use Rattle.byte_window.specs.Slices.{Cover}
use Rattle.byte_window.specs.PartedFiles.{IsPlaced}
use Rattle.jpeg_marker.specs.Plans.{PlanFields}
use Rattle.scan_spec.specs.ScanLaws.{IsShape}
use Rattle.scan_spec.specs.Scans.{Mcu, IsScan, pad_at}
use Rattle.scan_spec.specs.Slots.{shape_of}
use Rattle.cut_spec.specs.Cuts.{first_mcu}
use Rattle.cut_spec.specs.RowHandovers.{segment_bytes}
use Rattle.cut_spec.specs.Seams.{slices}
use Rattle.box_format.specs.Versions.{layout_of}
use Rattle.box_format.specs.declared.version.Version.TheVariants.{Third}
use Rattle.container_spec.specs.Limits.{most_of_a_container, most_of_a_file}
use Rattle.container_spec.specs.Meanings.{Restored}
use Rattle.container_spec.specs.Portions.{StandsFor}
use Rattle.container_spec.specs.ScansFiles.{FileRefusal, FileIsRefused, HasSeveralScans}
use Rattle.container_spec.specs.Chunks.{IsChunkOf, chunk_of, file_rows, rows_cut}

-- the rows of a scan's MCUs have one byte for each of their places
abbrev pub RowsArePlaced : Type 0
RowsArePlaced =
    (plan : PlanFields) (mcus : List Mcu) (pads : List Bool) (header scan trailer : List ℕ)
    → IsShape (shape_of plan) → IsScan (shape_of plan) mcus pads scan
    → IsPlaced (file_rows plan mcus pads header scan trailer)

-- the segments of rows, one after another, are the rows' bytes
abbrev pub SegmentsAreTheRows : Type 0
SegmentsAreTheRows =
    (plan : PlanFields) (mcus : List Mcu) (pads : List Bool) (header scan trailer : List ℕ)
    (rows : Cover) (most : ℕ) → IsShape (shape_of plan) → IsScan (shape_of plan) mcus pads scan
    → 0 < most → rows.from < rows.to → rows.to ≤ plan.down
    → flat_map (λ bytes. bytes)
    (slices (λ from to. segment_bytes (shape_of plan) (pad_at pads) mcus scan from to)
    (first_mcu (rows_cut plan rows most)) 0 (rows_cut plan rows most).segments)
    ≡ (file_rows plan mcus pads header scan trailer).between rows.from rows.to

-- a chunk's container stands for the chunk
abbrev pub ChunkIsRestored : Type 0
ChunkIsRestored =
    (most size i : ℕ) (made file : List ℕ) → 0 < most → most ≤ (layout_of Third).most
    → IsChunkOf most size i made file
    → StandsFor made (record { bytes = chunk_of file size i; verdict = Restored })

-- what the containers of all chunks of a file stand for, one after another, is the file
abbrev pub ChunksAreRestored : Type 0
ChunksAreRestored =
    (most size count : ℕ) (file : List ℕ) (made decoded : ℕ → List ℕ) → 0 < most
    → most ≤ (layout_of Third).most → length file ≤ count * size
    → ((i : ℕ) → i < count → IsChunkOf most size i (made i) file)
    → ((i : ℕ) → i < count
    → StandsFor (made i) (record { bytes = decoded i; verdict = Restored }))
    → flat_map decoded (range_with_len 0 count) ≡ file

-- a chunk has one container of each number of segments
abbrev pub OneChunk : Type 0
OneChunk =
    (most size i : ℕ) (made other file : List ℕ)
    → IsChunkOf most size i made file → IsChunkOf most size i other file → made ≡ other

-- a file that has a chunk isn't refused
abbrev pub ChunkedIsNotRefused : Type 0
ChunkedIsNotRefused =
    (most size i : ℕ) (made file : List ℕ) (refusal : FileRefusal)
    → IsChunkOf most size i made file → FileIsRefused file refusal → ⊥

-- and hasn't several scans
abbrev pub ChunkedIsOne : Type 0
ChunkedIsOne =
    (most size i : ℕ) (made file : List ℕ)
    → IsChunkOf most size i made file → HasSeveralScans file → ⊥

-- the container of a chunk of a file that encode takes is within what decode takes
abbrev pub ChunkIsShort : Type 0
ChunkIsShort =
    (most size i : ℕ) (made file : List ℕ) → 0 < most → most ≤ (layout_of Third).most
    → IsChunkOf most size i made file → length file ≤ most_of_a_file
    → length made ≤ most_of_a_container
