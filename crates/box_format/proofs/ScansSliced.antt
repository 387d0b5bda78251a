-- A scan's parts are in bytes that have every part that their fields name.
use Rattle.std.proofs.Common.{◌∙◌, Bool, ◌≤◌, ap₂, ℕ, length, arith, map, ap, length-drop, ◌≡◌, drop, List, false, refl, ◌<◌, ◌+◌, ◌*◌, suc, ◌-◌, if◌then◌else◌}
use Rattle.std.specs.Prelude.{sum, slice_index, Option}
use Rattle.byteorder.specs.Endian.{big_number}
use Rattle.box_format.specs.Versions.{layout_of}
use Rattle.box_format.specs.declared.version.Layout.{Layout}
use Rattle.box_format.specs.declared.version.Version.{Version}
use Rattle.box_format.specs.declared.version.Version.TheVariants.{First, Second, Third, Fourth, Fifth}
use Rattle.box_format.proofs.Layouts.{laid_out}
use Rattle.box_format.proofs.Lists.{sum_more}
use Rattle.handover.specs.Handovers.{HandoverFields}
use Rattle.scan_spec.specs.Pads.{PadBits}
use Rattle.std.proofs.lemmas.List.{length-take-le}
use Rattle.std.specs.List.{range_with_len}
use Rattle.box_format.specs.Parts.{BoxParts}
use Rattle.box_format.specs.Raws.{parted, parts_of, pads_in, length_from}
use Rattle.box_format.specs.Slices.{HasSegments, handovers_in, lengths_in, places_with, scan_parts}
use Rattle.box_format.specs.Whole.{IsUncut, list_at, header_at, records_at, streams_at}
use Rattle.box_format.specs.Fields.{scans_in, segments_at, header_length, list_length, chunk_at, record_place, fields_place, list_place, trailer_length, trailer_place, streams_place, trailer_at, scan_raw, in_records}
use Rattle.box_format.specs.declared.chunk.Chunk.{Chunk}
use Rattle.box_format.proofs.Sliced.{handovers_same, lengths_same, places_same}
use Rattle.box_format.proofs.ScansWalked.{next_fields, next_list, next_streams}
use Rattle.box_format.proofs.ScansPlaced.{fields_up, list_up, streams_up}

-- numbers from one on
pub later : (j n : ℕ) → j < n → n ≡ j + 1 + (n - (j + 1))
later j n below = omega arith

-- a scan's fields
pub fields_there : (l : Layout) (bytes : List ℕ) (j : ℕ) → fields_place l bytes (scans_in l bytes) ≤ length bytes
    → j < scans_in l bytes
    → record_place l (fields_place l bytes j) (segments_at bytes (fields_place l bytes j)) ≤ length bytes
fields_there l bytes j long below =
    let n = scans_in l bytes in
    let up = fields_up l bytes (j + 1) n (n - (j + 1)) (later j n below) in
    let next = next_fields l bytes j in
    omega (arith, up, next, long)

-- the trailer's length
trailer_by : (v : Version) (bytes : List ℕ) → (layout_of v).several ≡ false
    → fields_place (layout_of v) bytes (scans_in (layout_of v) bytes) ≤ length bytes
    → (layout_of v).trailer + 4 ≤ length bytes
trailer_by v bytes e long =
    let l = layout_of v in
    let one : scans_in l bytes ≡ 1 = ap (λ (b : Bool). if b then slice_index bytes 5 else 1) e in
    let there = fields_there l bytes 0 long (omega (arith, one)) in
    let early = (laid_out v).early in
    omega (arith, there, early)

pub trailer_there : (v : Version) (bytes : List ℕ)
    → fields_place (layout_of v) bytes (scans_in (layout_of v) bytes) ≤ length bytes
    → (layout_of v).trailer + 4 ≤ length bytes
trailer_there First bytes long = trailer_by First bytes refl long
trailer_there Second bytes long = trailer_by Second bytes refl long
trailer_there Third bytes long = trailer_by Third bytes refl long
trailer_there Fifth bytes long = trailer_by Fifth bytes refl long
trailer_there Fourth bytes long =
    let l = layout_of Fourth in
    let n = scans_in l bytes in
    let z : n ≡ 0 + n = omega arith in
    let up = fields_up l bytes 0 n n z in
    omega (arith, up, long)

-- one number more
pub sum_next : (f : ℕ → ℕ) (i : ℕ)
    → sum (map f (range_with_len 0 (i + 1))) ≡ sum (map f (range_with_len 0 i)) + f i
sum_next f i =
    let z : 0 + i ≡ i = omega arith in
    let k : i + 1 ≡ suc i = omega arith in
    ap (λ (k : ℕ). sum (map f (range_with_len 0 k))) k ∙ sum_more f 0 i
    ∙ ap (λ (k : ℕ). sum (map f (range_with_len 0 i)) + f k) z

-- its pad list and its header
pub header_ends : (l : Layout) (bytes : List ℕ) (j : ℕ) → IsUncut l bytes → j < scans_in l bytes
    → list_place l bytes j + list_length l bytes (fields_place l bytes j)
    + header_length bytes (fields_place l bytes j) ≤ length bytes
header_ends l bytes j whole below =
    let n = scans_in l bytes in
    let up = list_up l bytes (j + 1) n (n - (j + 1)) (later j n below) in
    let next = next_list l bytes j in
    let z : n ≡ 0 + n = omega arith in
    let last = streams_up l bytes 0 n n z in
    let ends = whole.ends in
    omega (arith, up, next, last, ends)

-- the trailer
pub trailer_ends : (l : Layout) (bytes : List ℕ) → IsUncut l bytes
    → trailer_place l bytes + trailer_length l bytes ≤ length bytes
trailer_ends l bytes whole =
    let n = scans_in l bytes in
    let z : n ≡ 0 + n = omega arith in
    let up = streams_up l bytes 0 n n z in
    let ends = whole.ends in
    omega (arith, up, ends)

-- its streams
pub streams_end : (l : Layout) (bytes : List ℕ) (j : ℕ) → IsUncut l bytes → j < scans_in l bytes
    → streams_place l bytes j + sum (in_records length_from l bytes (fields_place l bytes j)) ≤ length bytes
streams_end l bytes j whole below =
    let n = scans_in l bytes in
    let up = streams_up l bytes (j + 1) n (n - (j + 1)) (later j n below) in
    let next = next_streams l bytes j in
    let ends = whole.ends in
    omega (arith, up, next, ends)

same_parts : (v : Version) (c d1 : Option Chunk) (ps d2 : Option (List ℕ)) (q d3 : PadBits)
    (h d4 t d5 : List ℕ) (hs d6 : List HandoverFields) (ss d7 : List (List ℕ))
    → c ≡ d1 → ps ≡ d2 → q ≡ d3 → h ≡ d4 → t ≡ d5 → hs ≡ d6 → ss ≡ d7
    → ◌≡◌ {A = BoxParts} (record {
      version = v;
      chunk = c;
      places = ps;
      pads = q;
      header = h;
      trailer = t;
      handovers = hs;
      streams = ss;
    }) (record {
      version = v;
      chunk = d1;
      places = d2;
      pads = d3;
      header = d4;
      trailer = d5;
      handovers = d6;
      streams = d7;
    })
same_parts v c d1 ps d2 q d3 h d4 t d5 hs d6 ss d7 a b d e f g i = rw (a, b, d, e, f, g, i) refl

-- the parts of the slices are those of the scan
pub scan_sliced : (v : Version) (bytes : List ℕ) (j place : ℕ) (c : Option Chunk) (pad : ℕ)
    (list header trailer : List ℕ) (n : ℕ) (records : List ℕ) (end : ℕ) (streams : List ℕ)
    → place ≡ fields_place (layout_of v) bytes j → c ≡ chunk_at (layout_of v) bytes place
    → pad ≡ slice_index bytes place
    → list ≡ list_at (layout_of v) bytes j → header ≡ header_at (layout_of v) bytes j
    → trailer ≡ trailer_at (layout_of v) bytes j
    → n ≡ segments_at bytes place → records ≡ records_at (layout_of v) bytes j
    → end ≡ (if (layout_of v).placed then big_number 8 (drop (place + 14) bytes) else 0)
    → streams ≡ streams_at (layout_of v) bytes j
    → scan_parts v c pad list header trailer n records end streams ≡ parts_of (scan_raw v bytes j)
unfolding scan_raw
scan_sliced v bytes j place c pad list header trailer n records end streams a b d e f g h i m k =
    let l = layout_of v in
    let p = fields_place l bytes j in
    let s = segments_at bytes p in
    let hs = h ∙ ap (segments_at bytes) a in
    let ends = m ∙ ap (λ (q : ℕ). if l.placed then big_number 8 (drop (q + 14) bytes) else 0) a in
    same_parts v _ _ _ _ _ _ _ _ _ _ _ _ _ _
    (b ∙ ap (chunk_at l bytes) a)
    (ap₂ (λ (x : ℕ) (y : List ℕ). places_with v x y end) hs i
    ∙ places_same v s p end bytes ends refl)
    (ap₂ pads_in (d ∙ ap (slice_index bytes) a) e) f g
    (ap₂ (handovers_in v) hs i ∙ handovers_same v s (p + l.fields) bytes)
    (ap₂ parted (ap₂ (lengths_in v) hs i ∙ lengths_same v s (p + l.fields) bytes) k)

-- and the slices have them
pub has_scan : (v : Version) (bytes : List ℕ) (j n : ℕ) (records streams : List ℕ)
    → IsUncut (layout_of v) bytes → j < scans_in (layout_of v) bytes
    → n ≡ segments_at bytes (fields_place (layout_of v) bytes j)
    → records ≡ records_at (layout_of v) bytes j → streams ≡ streams_at (layout_of v) bytes j
    → HasSegments v n records streams
has_scan v bytes j n records streams whole below e f g =
    let l = layout_of v in
    let place = fields_place l bytes j in
    let fields = fields_there l bytes j whole.fields below in
    let ends = streams_end l bytes j whole below in
    let lengths = lengths_same v (segments_at bytes place) (place + l.fields) bytes in
    let long = length-take-le (l.room * segments_at bytes place) (drop (place + l.fields) bytes)
    (omega (arith, fields, length-drop (place + l.fields) bytes)) in
    rw (e, f, g) (record {
      each = omega (arith, long);
      all = rw lengths (omega (arith, ends, length-drop (streams_place l bytes j) bytes));
    })
