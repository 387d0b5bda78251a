-- Bytes whose checks pass, by the scans that their fields name.
use Rattle.std.proofs.Common.{◌≡◌, ◌≤◌, ◌<◌, ◌+◌, Bool, false, if◌then◌else◌, ℕ, zero, suc, List, [], ◌∷◌, ◌++◌, length, take, drop, map, flat_map, refl, sym, ap, ap₂, ◌∙◌, arith, subst, append_assoc, take-append-drop}
use Rattle.std.specs.Prelude.{slice_index, sum}
use Rattle.std.specs.List.{AllByRecursion, range_with_len}
use Rattle.std.proofs.lemmas.Bool.{eq-eqb, ne_eqb}
use Rattle.std.proofs.lemmas.List.{drop-drop, length-map}
use Rattle.std.proofs.lemmas.List.FromFn.{length-map-range_with_len}
use Rattle.byteorder.specs.Endian.{big_bytes, big_number}
use Rattle.bit_list.specs.Bits.{IsByte}
use Rattle.box_format.specs.Versions.{layout_of}
use Rattle.box_format.specs.Parts.{BoxParts, magic, pad_byte, list_bytes}
use Rattle.box_format.specs.Raws.{Raw, parted, pads_in, parts_of, length_from}
use Rattle.box_format.specs.Containers.{scans_said, scan_fields, scan_header, scan_streams, trailer_of, container_bytes}
use Rattle.box_format.specs.Fields.{scans_in, header_length, list_length, fields_place, list_place, header_place, trailer_length, trailer_place, streams_place, named_end, trailer_at, scan_raw, raws_as, in_records}
use Rattle.box_format.specs.declared.version.Layout.{Layout}
use Rattle.box_format.specs.declared.version.Version.{Version}
use Rattle.box_format.specs.declared.version.Version.TheVariants.{First, Second, Third, Fourth, Fifth}
use Rattle.box_format.proofs.ByteParts.{peel, four_at}
use Rattle.box_format.proofs.Lists.{sum_first}
use Rattle.box_format.proofs.Layouts.{laid_out}
use Rattle.box_format.proofs.ScansWalked.{HaveTrailer, last_trailer, next_fields, next_list, next_streams, trailer_in}
use Rattle.box_format.proofs.ScansRead.{nested_is}
use Rattle.box_format.proofs.ScansPlaced.{IsEarly, HasLengths, fields_up, lengths_at, trailer_long}
use Rattle.box_format.proofs.ScanSpelled.{byte_at, fields_spelled}

-- the pad bits say the byte and the list
pub record IsPadded (raw : Raw) : Type 0 where
  pub byte : raw.pad ≡ pad_byte (pads_in raw.pad raw.list)
  pub list : raw.list ≡ list_bytes (pads_in raw.pad raw.list)

-- so many scans from one on, and their parts
abbrev pub raws_from : Version → List ℕ → ℕ → ℕ → List Raw
raws_from v bytes j n = map (scan_raw v bytes) (range_with_len j n)

abbrev pub parts_from : Version → List ℕ → ℕ → ℕ → List BoxParts
parts_from v bytes j n = map parts_of (raws_from v bytes j n)

-- ---- their fields

-- in a version of one scan the trailer's length is among its fields
abbrev TrailerSaid : Layout → List ℕ → ℕ → Type 0
TrailerSaid l bytes j =
    l.several ≡ false
    → big_number 4 (drop (fields_place l bytes j + 6) bytes) ≡ length (trailer_at l bytes j)

one_fields : (v : Version) (bytes : List ℕ) (j : ℕ) → AllByRecursion IsByte bytes
    → fields_place (layout_of v) bytes (j + 1) ≤ length bytes → HasLengths (layout_of v) bytes j
    → IsPadded (scan_raw v bytes j) → TrailerSaid (layout_of v) bytes j
    → drop (fields_place (layout_of v) bytes j) bytes
    ≡ scan_fields (parts_of (scan_raw v bytes j))
    ++ drop (fields_place (layout_of v) bytes (j + 1)) bytes
unfolding scan_raw
one_fields v bytes j are long lengths padded trailer =
    let l = layout_of v in
    let place = fields_place l bytes j in
    let next = next_fields l bytes j in
    let pad = slice_index bytes place in
    let list = take (list_length l bytes place) (drop (list_place l bytes j) bytes) in
    fields_spelled l bytes place (pad_byte (pads_in pad list)) (list_bytes (pads_in pad list))
    (take (header_length bytes place) (drop (header_place l bytes j) bytes)) (trailer_at l bytes j)
    (parted (in_records length_from l bytes place) (drop (streams_place l bytes j) bytes)) (laid_out v) are
    (omega (arith, next, long)) padded.byte
    (sym lengths.list ∙ ap (λ (l : List ℕ). length l) padded.list) (sym lengths.header) trailer
    lengths.streams
    ∙ ap (λ (p : ℕ). scan_fields (parts_of (scan_raw v bytes j)) ++ drop p bytes) (sym next)

spelled_more : (front here next tail : List ℕ) → front ≡ here ++ next → next ≡ tail
    → front ≡ here ++ tail
spelled_more front here next tail e f = e ∙ ap (λ (l : List ℕ). here ++ l) f

all_fields : (versions : List Version) (v : Version) (bytes : List ℕ) (j n : ℕ)
    → AllByRecursion IsByte bytes → IsEarly (layout_of v) versions bytes
    → ((i : ℕ) → i < scans_in (layout_of v) bytes → TrailerSaid (layout_of v) bytes i)
    → scans_in (layout_of v) bytes ≡ j + n → AllByRecursion IsPadded (raws_from v bytes j n)
    → drop (fields_place (layout_of v) bytes j) bytes
    ≡ flat_map scan_fields (parts_from v bytes j n)
    ++ drop (fields_place (layout_of v) bytes (scans_in (layout_of v) bytes)) bytes
all_fields versions v bytes j zero are early said e padded =
    let l = layout_of v in
    let z : scans_in l bytes ≡ j = omega (arith, e) in
    ap (λ (k : ℕ). drop (fields_place l bytes k) bytes) (sym z)
all_fields versions v bytes j (suc n) are early said e padded =
    let l = layout_of v in
    let k : scans_in l bytes ≡ j + 1 + n = omega (arith, e) in
    let up = fields_up l bytes (j + 1) (scans_in l bytes) n k in
    let fields = early.fields in
    let here = scan_fields (parts_of (scan_raw v bytes j)) in
    let others = flat_map scan_fields (parts_from v bytes (j + 1) n) in
    let tail = drop (fields_place l bytes (scans_in l bytes)) bytes in
    spelled_more (drop (fields_place l bytes j) bytes) here
    (drop (fields_place l bytes (j + 1)) bytes) (others ++ tail)
    (one_fields v bytes j are (omega (arith, up, fields)) (lengths_at l versions bytes j n early k)
    padded.0 (said j (omega (arith, k))))
    (all_fields versions v bytes (j + 1) n are early said k padded.1)
    ∙ sym (append_assoc here others tail)

-- ---- their pad lists and headers

one_header : (v : Version) (bytes : List ℕ) (j : ℕ) → IsPadded (scan_raw v bytes j)
    → drop (list_place (layout_of v) bytes j) bytes
    ≡ scan_header (parts_of (scan_raw v bytes j)) ++ drop (list_place (layout_of v) bytes (j + 1)) bytes
unfolding scan_raw
one_header v bytes j padded =
    let l = layout_of v in
    let place = fields_place l bytes j in
    let list = take (list_length l bytes place) (drop (list_place l bytes j) bytes) in
    let header = take (header_length bytes place) (drop (header_place l bytes j) bytes) in
    let tail = drop (list_place l bytes (j + 1)) bytes in
    peel (list_length l bytes place) (list_place l bytes j) bytes
    ∙ ap₂ (λ (l m : List ℕ). l ++ m) padded.list
    (peel (header_length bytes place) (header_place l bytes j) bytes
    ∙ ap (λ (p : ℕ). header ++ drop p bytes) (sym (next_list l bytes j)))
    ∙ sym (append_assoc (list_bytes (pads_in (slice_index bytes place) list)) header tail)

all_headers : (v : Version) (bytes : List ℕ) (j n : ℕ) → scans_in (layout_of v) bytes ≡ j + n
    → AllByRecursion IsPadded (raws_from v bytes j n)
    → drop (list_place (layout_of v) bytes j) bytes
    ≡ flat_map scan_header (parts_from v bytes j n) ++ drop (trailer_place (layout_of v) bytes) bytes
all_headers v bytes j zero e padded =
    let l = layout_of v in
    let z : scans_in l bytes ≡ j = omega (arith, e) in
    ap (λ (k : ℕ). drop (list_place l bytes k) bytes) (sym z)
all_headers v bytes j (suc n) e padded =
    let l = layout_of v in
    let k : scans_in l bytes ≡ j + 1 + n = omega (arith, e) in
    let here = scan_header (parts_of (scan_raw v bytes j)) in
    let others = flat_map scan_header (parts_from v bytes (j + 1) n) in
    let tail = drop (trailer_place l bytes) bytes in
    spelled_more (drop (list_place l bytes j) bytes) here (drop (list_place l bytes (j + 1)) bytes)
    (others ++ tail) (one_header v bytes j padded.0) (all_headers v bytes (j + 1) n k padded.1)
    ∙ sym (append_assoc here others tail)

-- ---- their streams

parts_joined : (ns xs : List ℕ) → xs ≡ flat_map (λ part. part) (parted ns xs) ++ drop (sum ns) xs
parts_joined [] xs = refl
parts_joined (n ∷ ns) xs =
    let others = flat_map (λ part. part) (parted ns (drop n xs)) in
    let all = sum_first n ns in
    sym (take-append-drop n xs)
    ∙ ap (λ (l : List ℕ). take n xs ++ l) (parts_joined ns (drop n xs)
    ∙ ap (λ (l : List ℕ). others ++ l) (drop-drop (sum ns) n xs))
    ∙ sym (append_assoc (take n xs) others (drop (n + sum ns) xs))
    ∙ ap (λ (k : ℕ). take n xs ++ others ++ drop k xs) (sym all)

one_streams : (v : Version) (bytes : List ℕ) (j : ℕ)
    → drop (streams_place (layout_of v) bytes j) bytes
    ≡ scan_streams (parts_of (scan_raw v bytes j)) ++ drop (streams_place (layout_of v) bytes (j + 1)) bytes
unfolding scan_raw
one_streams v bytes j =
    let l = layout_of v in
    let ns = in_records length_from l bytes (fields_place l bytes j) in
    let streams = scan_streams (parts_of (scan_raw v bytes j)) in
    parts_joined ns (drop (streams_place l bytes j) bytes)
    ∙ ap (λ (l : List ℕ). streams ++ l) (drop-drop (sum ns) (streams_place l bytes j) bytes
    ∙ ap (λ (p : ℕ). drop p bytes) (sym (next_streams l bytes j)))

all_streams : (v : Version) (bytes : List ℕ) (j n : ℕ) → scans_in (layout_of v) bytes ≡ j + n
    → drop (streams_place (layout_of v) bytes j) bytes
    ≡ flat_map scan_streams (parts_from v bytes j n) ++ drop (named_end (layout_of v) bytes) bytes
all_streams v bytes j zero e =
    let l = layout_of v in
    let z : scans_in l bytes ≡ j = omega (arith, e) in
    ap (λ (k : ℕ). drop (streams_place l bytes k) bytes) (sym z)
all_streams v bytes j (suc n) e =
    let l = layout_of v in
    let k : scans_in l bytes ≡ j + 1 + n = omega (arith, e) in
    let here = scan_streams (parts_of (scan_raw v bytes j)) in
    let others = flat_map scan_streams (parts_from v bytes (j + 1) n) in
    let tail = drop (named_end l bytes) bytes in
    spelled_more (drop (streams_place l bytes j) bytes) here
    (drop (streams_place l bytes (j + 1)) bytes) (others ++ tail) (one_streams v bytes j)
    (all_streams v bytes (j + 1) n k)
    ∙ sym (append_assoc here others tail)

-- ---- the trailer, which is the last scan's

one_trailer : (v : Version) (bytes : List ℕ) (j : ℕ) → (parts_of (scan_raw v bytes j)).trailer ≡ trailer_at (layout_of v) bytes j
unfolding scan_raw
one_trailer v bytes j = refl

pub has_trailer : (v : Version) (bytes : List ℕ) (j n : ℕ) → scans_in (layout_of v) bytes ≡ j + suc n
    → HaveTrailer (trailer_in (layout_of v) bytes) (parts_from v bytes j (suc n))
has_trailer v bytes j zero e =
    let l = layout_of v in
    let last = eq-eqb (j + 1) (scans_in l bytes) (omega (arith, e)) in
    one_trailer v bytes j ∙ ap (λ (t : Bool). if t then trailer_in l bytes else []) last
has_trailer v bytes j (suc n) e =
    let l = layout_of v in
    let other = ne_eqb (j + 1) (scans_in l bytes) (λ same. omega (arith, e, same)) in (
      one_trailer v bytes j ∙ ap (λ (t : Bool). if t then trailer_in l bytes else []) other,
      has_trailer v bytes (j + 1) n (omega (arith, e)),
    )

-- ---- the whole

begun : (v : Version) (bytes : List ℕ) → take 4 bytes ≡ magic → 4 < length bytes
    → slice_index bytes 4 ≡ (layout_of v).byte
    → bytes ≡ magic ++ (layout_of v).byte ∷ drop 5 bytes
begun v bytes begins there said =
    sym (take-append-drop 4 bytes)
    ∙ ap₂ (λ (l m : List ℕ). l ++ m) begins (byte_at bytes 4 there)
    ∙ ap (λ (b : ℕ). magic ++ b ∷ drop 5 bytes) said

-- the number of scans and the trailer's length, where they come before the scans
front_is : (v : Version) (bytes trailer : List ℕ) (count : ℕ) → AllByRecursion IsByte bytes
    → (layout_of v).first ≤ length bytes → scans_in (layout_of v) bytes ≡ count
    → trailer_length (layout_of v) bytes ≡ length trailer
    → drop 5 bytes ≡ scans_said (layout_of v).several count trailer ++ drop (layout_of v).first bytes
front_is First bytes trailer count are long scans t = refl
front_is Second bytes trailer count are long scans t = refl
front_is Third bytes trailer count are long scans t = refl
front_is Fifth bytes trailer count are long scans t = refl
front_is Fourth bytes trailer count are long scans t =
    byte_at bytes 5 (omega (arith, long))
    ∙ ap₂ (λ (v : ℕ) (l : List ℕ). v ∷ l) scans
    (four_at bytes 6 are (omega (arith, long))
    ∙ ap (λ (n : ℕ). big_bytes 4 n ++ drop 10 bytes) t)

-- the only scan has the trailer's length
trailers_said : (versions : List Version) (v : Version) (bytes : List ℕ)
    → IsEarly (layout_of v) versions bytes → (j : ℕ) → j < scans_in (layout_of v) bytes
    → TrailerSaid (layout_of v) bytes j
trailers_said versions v bytes early j below e =
    let l = layout_of v in
    let out = laid_out v in
    let one : scans_in l bytes ≡ 1 = ap (λ (b : Bool). if b then slice_index bytes 5 else 1) e in
    let first : j ≡ 0 = omega (arith, one, below) in
    let last = eq-eqb (j + 1) (scans_in l bytes) (omega (arith, one, first)) in
    let trailer : trailer_at l bytes j ≡ trailer_in l bytes =
    ap (λ (t : Bool). if t then trailer_in l bytes else []) last in
    let at : fields_place l bytes j + 6 ≡ l.trailer =
    ap (λ (i : ℕ). fields_place l bytes i + 6) first ∙ sym (out.trailer e) in
    ap (λ (p : ℕ). big_number 4 (drop p bytes)) at
    ∙ sym (trailer_long l versions bytes early)
    ∙ ap (λ (t : List ℕ). length t) (sym trailer)

pub text_is : (versions : List Version) (v : Version) (bytes : List ℕ) (n : ℕ)
    → AllByRecursion IsByte bytes → IsEarly (layout_of v) versions bytes
    → slice_index bytes 4 ≡ (layout_of v).byte
    → scans_in (layout_of v) bytes ≡ suc n → AllByRecursion IsPadded (raws_as v bytes)
    → drop (named_end (layout_of v) bytes) bytes ≡ []
    → bytes ≡ container_bytes v (map parts_of (raws_as v bytes))
text_is versions v bytes n are early byte some padded rest =
    let l = layout_of v in
    let count = scans_in l bytes in
    let bs = parts_from v bytes 0 count in
    let z : count ≡ 0 + count = omega arith in
    let up = fields_up l bytes 0 count count z in
    let fields = early.fields in
    let long : l.first ≤ length bytes = omega (arith, up, fields) in
    let trailer : trailer_of bs ≡ trailer_in l bytes =
    last_trailer (trailer_in l bytes) bs
    (subst (λ (k : ℕ). HaveTrailer (trailer_in l bytes) (parts_from v bytes 0 k)) (sym some)
    (has_trailer v bytes 0 n (omega (arith, some)))) in
    let streams = all_streams v bytes 0 count z
    ∙ ap (λ (l : List ℕ). flat_map scan_streams bs ++ l) rest in
    let after = all_fields versions v bytes 0 count are early
    (trailers_said versions v bytes early) z padded
    ∙ ap (λ (l : List ℕ). flat_map scan_fields bs ++ l)
    (all_headers v bytes 0 count z padded
    ∙ ap (λ (l : List ℕ). flat_map scan_header bs ++ l)
    (peel (trailer_length l bytes) (trailer_place l bytes) bytes
    ∙ ap₂ (λ (l m : List ℕ). l ++ m) (sym trailer) streams)) in
    let scans : count ≡ length bs =
    sym (length-map (raws_from v bytes 0 count) parts_of
    ∙ length-map-range_with_len (scan_raw v bytes) 0 count) in
    let trailer_long_is : trailer_length l bytes ≡ length (trailer_of bs) =
    sym (ap (λ (l : List ℕ). length l) trailer ∙ trailer_long l versions bytes early) in
    begun v bytes early.begins early.there byte
    ∙ ap (λ (m : List ℕ). magic ++ l.byte ∷ m)
    (front_is v bytes (trailer_of bs) (length bs) are long scans trailer_long_is
    ∙ ap (λ (m : List ℕ). scans_said l.several (length bs) (trailer_of bs) ++ m) after)
    ∙ nested_is v bs
