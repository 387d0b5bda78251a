-- The scans of a container, looked up again one after another.
use Rattle.std.proofs.Common.{◌≡◌, ◌+◌, Bool, if◌then◌else◌, ℕ, suc, List, [], ◌∷◌, ◌++◌, length, take, drop, map, flat_map, refl, sym, ap, ap₂, ◌∙◌, arith, subst, append_assoc, add-one, length-append}
use Rattle.std.specs.Prelude.{slice_index, sum, Option}
use Rattle.std.specs.List.{AllByRecursion, range_with_len}
use Rattle.std.proofs.lemmas.Bool.{eq-eqb, ne_eqb}
use Rattle.std.proofs.lemmas.List.{take_at, drop_at, append-nil}
use Rattle.handover.specs.Handovers.{HandoverFields}
use Rattle.box_format.specs.Versions.{layout_of}
use Rattle.box_format.specs.Parts.{BoxParts, pad_byte, list_bytes}
use Rattle.box_format.specs.Raws.{Raw, parted, length_from}
use Rattle.box_format.specs.declared.chunk.Chunk.{Chunk}
use Rattle.box_format.specs.declared.version.Layout.{Layout}
use Rattle.box_format.specs.declared.version.Version.{Version}
use Rattle.box_format.proofs.Lists.{sum_first}
use Rattle.box_format.proofs.Layouts.{IsLaidOut}
use Rattle.box_format.specs.Containers.{scan_fields, scan_header, scan_streams, trailer_of}
use Rattle.box_format.specs.Fields.{scans_in, segments_at, header_length, list_length, record_place, fields_place, list_place, header_place, trailer_length, trailer_place, streams_place, trailer_at, chunk_at, places_at, scan_raw, in_records}
use Rattle.box_format.proofs.Remaining.{Remains, part_after, part_next}
use Rattle.box_format.proofs.ScanRead.{CanPut, FieldsRead, fields_read}

-- where the next scan's parts are
pub next_fields : (l : Layout) (bytes : List ℕ) (j : ℕ)
    → fields_place l bytes (j + 1)
    ≡ record_place l (fields_place l bytes j) (segments_at bytes (fields_place l bytes j))
next_fields l bytes j = ap (fields_place l bytes) (add-one j)

pub next_list : (l : Layout) (bytes : List ℕ) (j : ℕ)
    → list_place l bytes (j + 1)
    ≡ header_place l bytes j + header_length bytes (fields_place l bytes j)
next_list l bytes j = ap (list_place l bytes) (add-one j)

pub next_streams : (l : Layout) (bytes : List ℕ) (j : ℕ)
    → streams_place l bytes (j + 1)
    ≡ streams_place l bytes j + sum (in_records length_from l bytes (fields_place l bytes j))
next_streams l bytes j = ap (streams_place l bytes) (add-one j)

pub streams_long : (streams : List (List ℕ))
    → length (flat_map (λ stream. stream) streams) ≡ sum (map (λ (s : List ℕ). length s) streams)
streams_long [] = refl
streams_long (s ∷ streams) =
    omega (
      arith,
      length-append s (flat_map (λ stream. stream) streams),
      sum_first (length s) (map (λ (s : List ℕ). length s) streams),
      streams_long streams,
    )

-- what holds of parts by their numbers, from one on
abbrev pub From : (ℕ → BoxParts → Type 0) → ℕ → List BoxParts → Type 0
From P j [] = Unit {0}
From P j (b ∷ bs) = P j b × From P (j + 1) bs

-- all fields
abbrev pub HasFields : Layout → List ℕ → ℕ → BoxParts → Type 0
HasFields l bytes j b = FieldsRead l bytes (fields_place l bytes j) b

pub fields_walked : (l : Layout) (bytes tail : List ℕ) (j : ℕ) (bs : List BoxParts)
    → IsLaidOut l → AllByRecursion (CanPut l) bs
    → Remains bytes (fields_place l bytes j) (flat_map scan_fields bs ++ tail)
    → From (HasFields l bytes) j bs
    × Remains bytes (fields_place l bytes (j + length bs)) tail
fields_walked l bytes tail j [] out can is =
    let z : j + 0 ≡ j = omega arith in
    (tt, rw z is)
fields_walked l bytes tail j (b ∷ bs) out can is =
    let place = fields_place l bytes j in
    let others = flat_map scan_fields bs in
    let read = fields_read l bytes (others ++ tail) place b out can.0
    (subst (Remains bytes place) (append_assoc (scan_fields b) others tail) is) in
    let later = fields_walked l bytes tail (j + 1) bs out can.1
    (subst (λ (p : ℕ). Remains bytes p (others ++ tail)) (sym (next_fields l bytes j)) read.1) in
    let k : j + suc (length bs) ≡ j + 1 + length bs = omega arith in
    ((read.0, later.0), rw k later.1)

-- all pad lists and headers
pub record HasHeader (l : Layout) (bytes : List ℕ) (j : ℕ) (b : BoxParts) : Type 0 where
  pub list : take (list_length l bytes (fields_place l bytes j)) (drop (list_place l bytes j) bytes)
      ≡ list_bytes b.pads
  pub header : take (header_length bytes (fields_place l bytes j))
      (drop (header_place l bytes j) bytes) ≡ b.header

pub headers_walked : (l : Layout) (bytes tail : List ℕ) (j : ℕ) (bs : List BoxParts)
    → From (HasFields l bytes) j bs
    → Remains bytes (list_place l bytes j) (flat_map scan_header bs ++ tail)
    → From (HasHeader l bytes) j bs
    × Remains bytes (list_place l bytes (j + length bs)) tail
headers_walked l bytes tail j [] has is =
    let z : j + 0 ≡ j = omega arith in
    (tt, rw z is)
headers_walked l bytes tail j (b ∷ bs) has is =
    let place = fields_place l bytes j in
    let others = flat_map scan_header bs in
    let list = list_bytes b.pads in
    let split : Remains bytes (list_place l bytes j) (list ++ (b.header ++ (others ++ tail))) =
    subst (Remains bytes (list_place l bytes j))
    (append_assoc (list ++ b.header) others tail ∙ append_assoc list b.header (others ++ tail)) is
    in
    let second = part_after bytes (list_place l bytes j) (list_length l bytes place)
    (header_place l bytes j) list (b.header ++ (others ++ tail)) has.0.list refl split in
    let third = part_after bytes (header_place l bytes j) (header_length bytes place)
    (list_place l bytes (j + 1)) b.header (others ++ tail) has.0.header (next_list l bytes j) second in
    let later = headers_walked l bytes tail (j + 1) bs has.1 third in
    let k : j + suc (length bs) ≡ j + 1 + length bs = omega arith in (
      (
        record {
          list = part_next bytes (list_place l bytes j) (list_length l bytes place) list
              (b.header ++ (others ++ tail)) has.0.list split;
          header = part_next bytes (header_place l bytes j) (header_length bytes place) b.header
              (others ++ tail) has.0.header second;
        },
        later.0,
      ),
      rw k later.1,
    )

-- all streams
abbrev pub HasStreams : Layout → List ℕ → ℕ → BoxParts → Type 0
HasStreams l bytes j b =
    parted (in_records length_from l bytes (fields_place l bytes j)) (drop (streams_place l bytes j) bytes)
    ≡ b.streams

parts_again : (streams : List (List ℕ)) (tail : List ℕ)
    → parted (map (λ (s : List ℕ). length s) streams) (flat_map (λ stream. stream) streams ++ tail)
    ≡ streams
parts_again [] tail = refl
parts_again (s ∷ streams) tail =
    let others = flat_map (λ stream. stream) streams in
    let e = append_assoc s others tail in
    ap₂ (λ (x : List ℕ) (xs : List (List ℕ)). x ∷ xs)
    (ap (take (length s)) e ∙ take_at s (others ++ tail) (length s) refl)
    (ap (parted (map (λ (s : List ℕ). length s) streams))
    (ap (drop (length s)) e ∙ drop_at s (others ++ tail) (length s) refl)
    ∙ parts_again streams tail)

pub streams_walked : (l : Layout) (bytes tail : List ℕ) (j : ℕ) (bs : List BoxParts)
    → From (HasFields l bytes) j bs
    → Remains bytes (streams_place l bytes j) (flat_map scan_streams bs ++ tail)
    → From (HasStreams l bytes) j bs
    × Remains bytes (streams_place l bytes (j + length bs)) tail
streams_walked l bytes tail j [] has is =
    let z : j + 0 ≡ j = omega arith in
    (tt, rw z is)
streams_walked l bytes tail j (b ∷ bs) has is =
    let place = fields_place l bytes j in
    let others = flat_map scan_streams bs in
    let lengths = has.0.lengths in
    let split : Remains bytes (streams_place l bytes j) (scan_streams b ++ (others ++ tail)) =
    subst (Remains bytes (streams_place l bytes j)) (append_assoc (scan_streams b) others tail) is in
    let long = ap sum lengths ∙ sym (streams_long b.streams) in
    let second = part_after bytes (streams_place l bytes j) (sum (in_records length_from l bytes place))
    (streams_place l bytes (j + 1)) (scan_streams b) (others ++ tail) long (next_streams l bytes j)
    split in
    let later = streams_walked l bytes tail (j + 1) bs has.1 second in
    let k : j + suc (length bs) ≡ j + 1 + length bs = omega arith in (
      (ap₂ parted lengths split.are ∙ parts_again b.streams (others ++ tail), later.0),
      rw k later.1,
    )

-- all trailers: the last scan has this one, and those before have none
abbrev pub HaveTrailer : List ℕ → List BoxParts → Type 0
HaveTrailer trailer [] = ⊥
HaveTrailer trailer (b ∷ []) = b.trailer ≡ trailer
HaveTrailer trailer (b ∷ c ∷ bs) = (b.trailer ≡ []) × HaveTrailer trailer (c ∷ bs)

pub last_trailer : (trailer : List ℕ) (bs : List BoxParts) → HaveTrailer trailer bs
    → trailer_of bs ≡ trailer
last_trailer trailer [] is = absurd is
last_trailer trailer (b ∷ []) is = append-nil b.trailer ∙ is
last_trailer trailer (b ∷ c ∷ bs) is =
    ap (λ (l : List ℕ). l ++ trailer_of (c ∷ bs)) is.0 ∙ last_trailer trailer (c ∷ bs) is.1

abbrev pub HasTrailer : Layout → List ℕ → ℕ → BoxParts → Type 0
HasTrailer l bytes j b = trailer_at l bytes j ≡ b.trailer

abbrev pub trailer_in : Layout → List ℕ → List ℕ
trailer_in l bytes = take (trailer_length l bytes) (drop (trailer_place l bytes) bytes)

pub trailers_walked : (l : Layout) (bytes : List ℕ) (j : ℕ) (bs : List BoxParts)
    → scans_in l bytes ≡ j + length bs → HaveTrailer (trailer_in l bytes) bs
    → From (HasTrailer l bytes) j bs
trailers_walked l bytes j [] all is = tt
trailers_walked l bytes j (b ∷ []) all is =
    let last = eq-eqb (j + 1) (scans_in l bytes) (sym all) in
    (ap (λ (t : Bool). if t then trailer_in l bytes else []) last ∙ sym is, tt)
trailers_walked l bytes j (b ∷ c ∷ bs) all is =
    let other = ne_eqb (j + 1) (scans_in l bytes) (λ e. omega (arith, e, all)) in
    let k : scans_in l bytes ≡ j + 1 + suc (length bs) = omega (arith, all) in (
      ap (λ (t : Bool). if t then trailer_in l bytes else []) other ∙ sym is.0,
      trailers_walked l bytes (j + 1) (c ∷ bs) k is.1,
    )

-- the fields of parts
abbrev pub raw_like : BoxParts → Raw
raw_like b = record {
  version = b.version;
  chunk = b.chunk;
  places = b.places;
  pad = pad_byte b.pads;
  list = list_bytes b.pads;
  handovers = b.handovers;
  header = b.header;
  trailer = b.trailer;
  streams = b.streams;
}

raw_same : (b : BoxParts) (version : Version) (chunk : Option Chunk) (places : Option (List ℕ))
    (pad : ℕ) (list header trailer : List ℕ)
    (handovers : List HandoverFields) (streams : List (List ℕ))
    → version ≡ b.version → chunk ≡ b.chunk → places ≡ b.places
    → pad ≡ pad_byte b.pads → list ≡ list_bytes b.pads → header ≡ b.header
    → trailer ≡ b.trailer → handovers ≡ b.handovers → streams ≡ b.streams
    → ◌≡◌ {A = Raw} (record {
      version = version;
      chunk = chunk;
      places = places;
      pad = pad;
      list = list;
      handovers = handovers;
      header = header;
      trailer = trailer;
      streams = streams;
    }) (raw_like b)
raw_same b version chunk places pad list header trailer handovers streams v c q p l h t hs ss =
    rw (v, c, q, p, l, h, t, hs, ss) refl

raw_is : (v : Version) (bytes : List ℕ) (j : ℕ) (b : BoxParts)
    → b.version ≡ v
    → HasFields (layout_of v) bytes j b → HasHeader (layout_of v) bytes j b
    → HasStreams (layout_of v) bytes j b → HasTrailer (layout_of v) bytes j b
    → scan_raw v bytes j ≡ raw_like b
unfolding scan_raw
raw_is v bytes j b said fields header streams trailer =
    let l = layout_of v in
    raw_same b v (chunk_at l bytes (fields_place l bytes j)) (places_at l bytes (fields_place l bytes j))
    (slice_index bytes (fields_place l bytes j)) _ _ (trailer_at l bytes j) _ _
    (sym said) fields.chunk fields.places
    fields.pad header.list header.header trailer fields.handovers streams

pub raws_walked : (v : Version) (bytes : List ℕ) (j : ℕ) (bs : List BoxParts)
    → AllByRecursion (λ (b : BoxParts). b.version ≡ v) bs
    → From (HasFields (layout_of v) bytes) j bs → From (HasHeader (layout_of v) bytes) j bs
    → From (HasStreams (layout_of v) bytes) j bs → From (HasTrailer (layout_of v) bytes) j bs
    → map (scan_raw v bytes) (range_with_len j (length bs)) ≡ map raw_like bs
raws_walked v bytes j [] said fields headers streams trailers = refl
raws_walked v bytes j (b ∷ bs) said fields headers streams trailers =
    ap₂ (λ (r : Raw) (rs : List Raw). r ∷ rs)
    (raw_is v bytes j b said.0 fields.0 headers.0 streams.0 trailers.0)
    (raws_walked v bytes (j + 1) bs said.1 fields.1 headers.1 streams.1 trailers.1)
