-- Statement: the container of a chunk of a file (docs/FORMAT.md, Chunks).
use Rattle.std.specs.Prelude.{ℕ, ◌≡◌, ◌+◌, ◌-◌, ◌*◌, ◌<◌, ◌^◌, Bool, List, [], ◌∷◌, length, min, take, Some}
use Rattle.std.specs.List.{AllByRecursion}
use Rattle.byte_window.specs.Slices.{Cover, slice, chunk_from, chunk_to}
use Rattle.byte_window.specs.PartedFiles.{PartedFile, parts_within, skip_within, trailer_within}
use Rattle.bit_list.specs.Bits.{IsByte}
use Rattle.jpeg_marker.specs.Plans.{PlanFields}
use Rattle.scan_spec.specs.FileParts.{IsFileOf}
use Rattle.scan_spec.specs.Scans.{Mcu, pad_at}
use Rattle.scan_spec.specs.Slots.{shape_of}
use Rattle.scan_spec.specs.Spots.{bytes_done}
use Rattle.cut_spec.specs.Cuts.{Cut}
use Rattle.cut_spec.specs.RowHandovers.{segment_bytes}
use Rattle.box_format.specs.Containers.{container_bytes}
use Rattle.box_format.specs.Parts.{BoxParts}
use Rattle.box_format.specs.declared.chunk.Chunk.{Chunk}
use Rattle.box_format.specs.declared.version.Version.TheVariants.{Third}
use Rattle.container_spec.specs.Files.{parts_of_rows}

-- bytes are a file of one scan: a header that is accepted, the scan, and what follows it
abbrev pub IsOneScanFile : List ℕ → Type 0
IsOneScanFile bytes =
    (plan : PlanFields) × (mcus : List Mcu) × (pads : List Bool) × (trailer : List ℕ)
    × IsFileOf bytes plan mcus pads trailer

-- chunk i of a file's chunks of one size
abbrev pub chunk_of : List ℕ → ℕ → ℕ → List ℕ
chunk_of file size i = slice (chunk_from size i) (chunk_to (length file) size i) file

-- a file with its rows of MCUs as parts, by its header's plan, its MCUs, the pad bit of each interval, and the bytes of
-- header, scan and trailer. A row's place is that of its first byte, of those that the rows before don't complete
abbrev pub file_rows : PlanFields → List Mcu → List Bool → List ℕ → List ℕ → List ℕ → PartedFile
file_rows plan mcus pads header scan trailer = record {
  header = header;
  count = plan.down;
  place = λ row.
      length header + bytes_done (shape_of plan) (pad_at pads) mcus (plan.across * row);
  between = λ from to.
      segment_bytes (shape_of plan) (pad_at pads) mcus scan (plan.across * from) (plan.across * to);
  trailer = trailer;
}

-- the cut of these rows in at most `most` segments; in none if there is no row
abbrev pub rows_cut : PlanFields → Cover → ℕ → Cut
rows_cut plan rows most =
    let segments = min most (rows.to - rows.from) in
    record { across = plan.across; from = rows.from; to = rows.to; segments = segments }

-- the parts of the container of a file's bytes from place a to before b, in at most `most` segments
abbrev pub parts_of_chunk : PlanFields → List Mcu → List Bool → List ℕ → List ℕ → List ℕ → ℕ → ℕ → ℕ
    → BoxParts
parts_of_chunk plan mcus pads header scan trailer a b most =
    let f = file_rows plan mcus pads header scan trailer in
    let rows = parts_within f a b in
    let chunk : Chunk =
    record { place = a; length = b - a; skip = skip_within f a b; from = rows.from; to = rows.to } in
    let cut = rows_cut plan rows most in
    record (parts_of_rows Third plan mcus pads header (trailer_within f a b) cut) {
      chunk = Some chunk;
    }

-- `made` is the container of chunk i of a file's chunks of one size, with at most `most` segments, by the plan of the
-- file's header, its MCUs, the pad bit of each of its intervals and its trailer; the file's length has four bytes, and
-- the chunk's first byte is one of the file's
pub record IsChunkOf (most size i : ℕ) (made file : List ℕ) : Type 0 where
  pub bytes : AllByRecursion IsByte file
  pub few : length file < 2 ^ 32
  pub plan : PlanFields
  pub mcus : List Mcu
  pub pads : List Bool
  pub trailer : List ℕ
  pub is : IsFileOf file plan mcus pads trailer
  pub there : chunk_from size i < length file
  pub spelled : made
      ≡ container_bytes Third (parts_of_chunk plan mcus pads (take plan.header_length file) is.scan
      trailer (chunk_from size i) (chunk_to (length file) size i) most ∷ [])
