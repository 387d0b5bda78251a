-- Statement: the fields of bytes that may be a container, by their offsets, before any check (docs/FORMAT.md, The
-- container).
use Rattle.std.specs.Prelude.{ℕ, zero, suc, ◌+◌, ◌*◌, ◌==◌, if◌then◌else◌, List, [], ◌∷◌, ◌++◌, take, drop, map, sum, slice_index, Option, Some, None}
use Rattle.std.specs.List.{range_with_len}
use Rattle.byteorder.specs.Endian.{big_number}
use Rattle.box_format.specs.Versions.{layout_of, version_in}
use Rattle.box_format.specs.Raws.{Raw, handover_from, length_from, place_from, parted}
use Rattle.box_format.specs.declared.chunk.Chunk.{Chunk}
use Rattle.box_format.specs.declared.version.Layout.{Layout}
use Rattle.box_format.specs.declared.version.Version.{Version}

-- how many scans there are, 0 where that byte is missing
abbrev pub scans_in : Layout → List ℕ → ℕ
scans_in l bytes = if l.several then slice_index bytes 5 else 1

-- the length of the trailer
abbrev pub trailer_length : Layout → List ℕ → ℕ
trailer_length l bytes = big_number 4 (drop l.trailer bytes)

-- A scan's fields, by the place where they start.

-- how many segments it has, 0 where that byte is missing
abbrev pub segments_at : List ℕ → ℕ → ℕ
segments_at bytes place = slice_index bytes (place + 1)

-- the length of its header
abbrev pub header_length : List ℕ → ℕ → ℕ
header_length bytes place = big_number 4 (drop (place + 2) bytes)

-- the length of its pad list, 0 in a version that has none
abbrev pub list_length : Layout → List ℕ → ℕ → ℕ
list_length l bytes place =
    if l.listed then big_number 4 (drop (place + l.list) bytes) else 0

-- the chunk, in a version that has one
abbrev pub chunk_at : Layout → List ℕ → ℕ → Option Chunk
chunk_at l bytes place =
    if l.chunked then Some (record {
      place = big_number 8 (drop (place + 14) bytes);
      length = big_number 8 (drop (place + 22) bytes);
      skip = big_number 8 (drop (place + 30) bytes);
      from = big_number 4 (drop (place + 38) bytes);
      to = big_number 4 (drop (place + 42) bytes);
    }) else None

-- where the record of its segment i starts
abbrev pub record_place : Layout → ℕ → ℕ → ℕ
record_place l place i = place + l.fields + l.room * i

-- a part of that record: what the segment starts from, the length of its stream, or the place of its first byte
abbrev pub in_record : {A : Type 0} → (List ℕ → ℕ → A) → Layout → List ℕ → ℕ → ℕ → A
in_record part l bytes place i = part bytes (record_place l place i)

-- those of all its segments
abbrev pub in_records : {A : Type 0} → (List ℕ → ℕ → A) → Layout → List ℕ → ℕ → List A
in_records part l bytes place =
    map (in_record part l bytes place) (range_with_len 0 (segments_at bytes place))

-- the places in the file of each segment's first byte and of the scan's end, in a version that has places
abbrev pub places_at : Layout → List ℕ → ℕ → Option (List ℕ)
places_at l bytes place =
    if l.placed
    then Some (in_records place_from l bytes place ++ big_number 8 (drop (place + 14) bytes) ∷ [])
    else None

-- Where the parts of scan j start; after those of the last scan starts what follows them.

-- its fields
abbrev pub fields_place : Layout → List ℕ → ℕ → ℕ
fields_place l bytes zero = l.first
fields_place l bytes (suc j) =
    let place = fields_place l bytes j in record_place l place (segments_at bytes place)

-- its pad list, before its header
abbrev pub list_place : Layout → List ℕ → ℕ → ℕ
list_place l bytes zero = fields_place l bytes (scans_in l bytes)
list_place l bytes (suc j) =
    let place = fields_place l bytes j in
    list_place l bytes j + list_length l bytes place + header_length bytes place

-- its header
abbrev pub header_place : Layout → List ℕ → ℕ → ℕ
header_place l bytes j = list_place l bytes j + list_length l bytes (fields_place l bytes j)

-- the trailer, after the last header
abbrev pub trailer_place : Layout → List ℕ → ℕ
trailer_place l bytes = list_place l bytes (scans_in l bytes)

-- its streams
abbrev pub streams_place : Layout → List ℕ → ℕ → ℕ
streams_place l bytes zero = trailer_place l bytes + trailer_length l bytes
streams_place l bytes (suc j) =
    streams_place l bytes j + sum (in_records length_from l bytes (fields_place l bytes j))

-- the end that the fields name
abbrev pub named_end : Layout → List ℕ → ℕ
named_end l bytes = streams_place l bytes (scans_in l bytes)

-- the trailer of a scan: that of the container if it is the last one, else none
abbrev pub trailer_at : Layout → List ℕ → ℕ → List ℕ
trailer_at l bytes j =
    let trailer = take (trailer_length l bytes) (drop (trailer_place l bytes) bytes) in
    if j + 1 == scans_in l bytes then trailer else []

-- the fields of scan j
unfoldable pub scan_raw : Version → List ℕ → ℕ → Raw
scan_raw version bytes j =
    let l = layout_of version in
    let place = fields_place l bytes j in
    record {
      version = version;
      chunk = chunk_at l bytes place;
      places = places_at l bytes place;
      pad = slice_index bytes place;
      list = take (list_length l bytes place) (drop (list_place l bytes j) bytes);
      handovers = in_records handover_from l bytes place;
      header = take (header_length bytes place) (drop (header_place l bytes j) bytes);
      trailer = trailer_at l bytes j;
      streams = parted (in_records length_from l bytes place) (drop (streams_place l bytes j) bytes);
    }

-- of all scans, laid out as in a version
abbrev pub raws_as : Version → List ℕ → List Raw
raws_as version bytes =
    map (scan_raw version bytes) (range_with_len 0 (scans_in (layout_of version) bytes))

-- and as in that of the bytes
abbrev pub raws_of : List ℕ → List Raw
raws_of bytes = raws_as (version_in bytes) bytes
