-- Statement: a container by its parts, and its bytes by offset (docs/FORMAT.md, The container).
use Rattle.std.specs.Prelude.{ℕ, ◌<◌, ◌≤◌, ◌≡◌, ◌^◌, Bool, ◌&&◌, ◌||◌, not, ◌==◌, true, if◌then◌else◌, List, [], ◌∷◌, ◌++◌, length, drop, ◌+◌, ◌-◌, unsigned_abs, nat_lt, slice_index, slice_index_or, pos, Option, Some, None, IfSome, is_some}
use Rattle.std.specs.List.{list_all, list_any, AllByRecursion}
use Rattle.byteorder.specs.Endian.{big_bytes}
use Rattle.byte_window.specs.Slices.{Cover, slice}
use Rattle.bit_list.specs.Bits.{IsByte, bits_of}
use Rattle.jpeg_marker.specs.Plans.{PlanFields}
use Rattle.jpeg_marker.specs.KnownBefore.{AreKnown}
use Rattle.jpeg_marker.specs.HeaderPlan.{Begins}
use Rattle.jpeg_marker.specs.Walks.{Walk}
use Rattle.scan_spec.specs.Pads.{PadBits, Same, Listed, interval_count, list_room}
use Rattle.scan_spec.specs.Slots.{Shape, shape_of}
use Rattle.handover.specs.Handovers.{HandoverFields, IsHandover}
use Rattle.handover.specs.HandoverBytes.{handover_bytes, is_handover}
use Rattle.cut_spec.specs.Cuts.{Cut, first_mcu}
use Rattle.cut_spec.specs.RowHandovers.{markers_before}
use Rattle.box_format.specs.Versions.{layout_of}
use Rattle.box_format.specs.declared.chunk.Chunk.{Chunk}
use Rattle.box_format.specs.declared.version.Version.{Version}
use Rattle.box_format.specs.declared.version.Version.TheVariants.{Second, Fifth}

-- a version, the chunk if it has a chunk of a file, the places in the file if it keeps them, of each segment's first
-- byte and after these of the scan's end, the pad bits, the header, the trailer or the chunk's part of it, and for each
-- segment what it starts from and its stream
pub record BoxParts : Type 0 where
  pub version : Version
  pub chunk : Option Chunk
  pub places : Option (List ℕ)
  pub pads : PadBits
  pub header : List ℕ
  pub trailer : List ℕ
  pub handovers : List HandoverFields
  pub streams : List (List ℕ)

-- the parts with the plan of the header
pub record BoxSeen : Type 0 where
  pub plan : PlanFields
  pub parts : BoxParts

-- `LPSG`
abbrev pub magic : List ℕ
magic = 0x4c ∷ 0x50 ∷ 0x53 ∷ 0x47 ∷ []

-- the byte of pad bits: the one bit, or 2, which says that there is a list
abbrev pub pad_byte : PadBits → ℕ
pad_byte (Same pad) = if pad then 1 else 0
pad_byte (Listed bytes) = 2

-- the pad list, if there is one
abbrev pub list_bytes : PadBits → List ℕ
list_bytes (Same pad) = []
list_bytes (Listed bytes) = bytes

-- the length of bytes, in the versions that say it here
abbrev pub length_said : Bool → List ℕ → List ℕ
length_said said bytes = if said then big_bytes 4 (length bytes) else []

-- a chunk's fields, if there is a chunk
abbrev pub chunk_bytes : Option Chunk → List ℕ
chunk_bytes None = []
chunk_bytes (Some c) =
    big_bytes 8 c.place ++ (big_bytes 8 c.length ++ (big_bytes 8 c.skip
    ++ (big_bytes 4 c.from ++ big_bytes 4 c.to)))

-- one of the places, if they are kept
abbrev pub place_bytes : Option (List ℕ) → ℕ → List ℕ
place_bytes None i = []
place_bytes (Some places) i = big_bytes 8 (slice_index places i)

-- a record for each segment from number i on: its handover, its stream's length, and its place, if places are kept
abbrev pub records : Option (List ℕ) → ℕ → List HandoverFields → List (List ℕ) → List ℕ
records places i [] streams = []
records places i (h ∷ handovers) [] = []
records places i (h ∷ handovers) (stream ∷ streams) =
    handover_bytes h ++ (big_bytes 8 (length stream) ++ place_bytes places i)
    ++ records places (i + 1) handovers streams

-- the last DC of a component is 0, if it has no blocks in the scan
abbrev pub is_unused_zero : Shape → HandoverFields → ℕ → Bool
is_unused_zero shape h component =
    list_any (λ slot. slot.component == component) shape.slots
    || unsigned_abs (slice_index_or h.preds component (pos 0)) == 0

-- nothing but zeros, as at the start of a scan
abbrev pub is_start : HandoverFields → Bool
is_start h =
    h.partial == 0 && (h.bits == 0 && (h.restarts == 0
    && list_all (λ dc. unsigned_abs dc == 0) h.preds))

-- whether a segment after `count` MCUs can start from these fields
abbrev pub can_start : Shape → ℕ → HandoverFields → Bool
can_start shape count h =
    is_handover h && (list_all (is_unused_zero shape h) (0 ∷ 1 ∷ 2 ∷ 3 ∷ [])
    && (h.restarts == markers_before shape count && (not (count == 0) || is_start h)))

-- the first segment, from the one with a number on, that can't start from its fields
abbrev pub bad_start : Shape → Cut → ℕ → List HandoverFields → Option ℕ
bad_start shape cut i [] = None
bad_start shape cut i (h ∷ handovers) =
    if can_start shape (first_mcu cut i) h then bad_start shape cut (i + 1) handovers else Some i

-- a container's rows, which are the chunk's if it has one
abbrev pub box_rows : PlanFields → Option Chunk → Cover
box_rows plan None = record { from = 0; to = plan.down }
box_rows plan (Some c) = record { from = c.from; to = c.to }

-- and in this many segments
abbrev pub box_cut : PlanFields → Option Chunk → ℕ → Cut
box_cut plan chunk segments =
    let rows = box_rows plan chunk in
    record { across = plan.across; from = rows.from; to = rows.to; segments = segments }

-- the bytes of a header that lie in a chunk
abbrev pub header_part : Chunk → List ℕ → List ℕ
header_part c header = slice c.place (c.place + c.length) header

-- how many bytes of a chunk lie neither in the header nor in the trailer
abbrev pub rows_most : Chunk → List ℕ → List ℕ → ℕ
rows_most c header trailer = c.length - (length (header_part c header) + length trailer)

-- a chunk of a grid with this number of rows has room for its parts of header and trailer, and other bytes only if it
-- has a row
pub record IsChunkIn (down : ℕ) (header trailer : List ℕ) (c : Chunk) : Type 0 where
  pub order : c.from ≤ c.to
  pub within : c.to ≤ down
  pub room : length (header_part c header) + length trailer ≤ c.length
  pub rowless : c.from ≡ c.to → (rows_most c header trailer ≡ 0) × (c.skip ≡ 0)
  pub place_fits : c.place < 2 ^ 64
  pub length_fits : c.length < 2 ^ 64
  pub skip_fits : c.skip < 2 ^ 64
  pub from_fits : c.from < 2 ^ 32
  pub to_fits : c.to < 2 ^ 32

-- each segment has a row, and each row is in a segment
pub record IsCut (cut : Cut) : Type 0 where
  pub some : cut.from < cut.to → 0 < cut.segments
  pub rows : cut.segments ≤ cut.to - cut.from

-- whether no place is below the one before
abbrev pub are_rising : List ℕ → Bool
are_rising [] = true
are_rising (place ∷ []) = true
are_rising (place ∷ next ∷ places) = not (nat_lt next place) && are_rising (next ∷ places)

-- the places of a number of segments and of the scan's end: the first one is the header's end, and none is below the one
-- before
pub record ArePlaces (header segments : ℕ) (places : List ℕ) : Type 0 where
  pub count : length places ≡ segments + 1
  pub first : slice_index places 0 ≡ header
  pub rising : are_rising places ≡ true
  pub fit : AllByRecursion (λ place. place < 2 ^ 64) places

-- whether a list has a bit for each interval, and bits of 0 after them
abbrev pub is_list : Shape → List ℕ → Bool
is_list shape bytes =
    length bytes == list_room shape
    && list_all (λ bit. not bit) (drop (interval_count shape) (bits_of bytes))

-- whether a version can say these pad bits
abbrev pub can_pad : Bool → Shape → PadBits → Bool
can_pad listed shape (Same pad) = true
can_pad listed shape (Listed bytes) = listed && is_list shape bytes

-- the parts of a container, or of a scan in one of several, whose header is read by a walk and has this plan
pub record IsBoxIn (w : Walk) (plan : PlanFields) (b : BoxParts) : Type 0 where
  pub known : AreKnown w.known
  pub header : Begins w b.header plan
  pub whole : plan.header_length ≡ length b.header
  pub few : length b.handovers ≤ (layout_of b.version).most
  pub cut : IsCut (box_cut plan b.chunk (length b.handovers))
  pub chunked : is_some b.chunk ≡ (layout_of b.version).chunked
  pub chunk : IfSome b.chunk (IsChunkIn plan.down b.header b.trailer)
  pub placed : is_some b.places ≡ (layout_of b.version).placed
  pub places : IfSome b.places (ArePlaces (length b.header) (length b.handovers))
  pub pads : can_pad (layout_of b.version).listed (shape_of plan) b.pads ≡ true
  pub streams : length b.streams ≡ length b.handovers
  pub each : AllByRecursion IsHandover b.handovers
  pub starts : bad_start (shape_of plan) (box_cut plan b.chunk (length b.handovers)) 0 b.handovers
      ≡ None
  pub header_fits : length b.header < 2 ^ 32
  pub trailer_fits : length b.trailer < 2 ^ 32
  pub list_fits : length (list_bytes b.pads) < 2 ^ 32
  pub streams_fit : AllByRecursion (λ stream. length stream < 2 ^ 64) b.streams
  pub list_bytes_are : AllByRecursion IsByte (list_bytes b.pads)
  pub header_bytes : AllByRecursion IsByte b.header
  pub trailer_bytes : AllByRecursion IsByte b.trailer
  pub stream_bytes : AllByRecursion (AllByRecursion IsByte) b.streams

-- the parts of a scan in a container, whatever comes before its header
abbrev pub IsScanBox : PlanFields → BoxParts → Type 0
IsScanBox plan b = (w : Walk) × IsBoxIn w plan b

-- the same parts in another version, with these places or none
abbrev pub in_version : Version → Option (List ℕ) → BoxParts → BoxParts
in_version version places b = record b { version = version; places = places }

-- in the second version, which keeps no places
abbrev pub migrated : BoxParts → BoxParts
migrated b = in_version Second None b

-- in the fifth version, with these places
abbrev pub with_places : BoxParts → List ℕ → BoxParts
with_places b places = in_version Fifth (Some places) b

-- how many bytes the file has, in a container with these places: the scan's end, and the trailer
abbrev pub file_end : BoxParts → List ℕ → ℕ
file_end b places = slice_index places (length b.handovers) + length b.trailer
