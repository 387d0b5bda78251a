-- A scan's fields, looked up again.
use Rattle.std.proofs.Common.{◌≡◌, ◌<◌, ◌+◌, ◌^◌, Bool, true, false, if◌then◌else◌, ℕ, suc, List, [], ◌∷◌, ◌++◌, length, drop, map, refl, sym, ap, ap₂, ◌∙◌, arith, subst, append_assoc}
use Rattle.std.specs.Prelude.{slice_index, Option, Some, None, IfSome, is_some, not}
use Rattle.std.specs.List.{AllByRecursion, range_with_len}
use Rattle.byteorder.specs.Endian.{big_bytes, big_number}
use Rattle.handover.specs.Handovers.{HandoverFields, IsHandover}
use Rattle.handover.specs.HandoverBytes.{handover_bytes, handover_in}
use Rattle.handover.proofs.FieldBytes.{fields_again}
use Rattle.box_format.specs.Versions.{layout_of}
use Rattle.box_format.specs.Parts.{BoxParts, pad_byte, list_bytes, length_said, chunk_bytes, place_bytes, records}
use Rattle.box_format.specs.Raws.{handover_from, length_from, place_from}
use Rattle.box_format.specs.Containers.{scan_fields}
use Rattle.box_format.specs.Fields.{segments_at, header_length, list_length, chunk_at, record_place, places_at, in_record, in_records}
use Rattle.box_format.specs.declared.chunk.Chunk.{Chunk}
use Rattle.box_format.specs.declared.version.Layout.{Layout}
use Rattle.box_format.proofs.OneCuts.{Fits}
use Rattle.box_format.proofs.PlaceLists.{ended_again}
use Rattle.box_format.proofs.Layouts.{IsLaidOut}
use Rattle.box_format.proofs.Remaining.{Remains, part_after, part_next, byte_next, four_next, eight_next}

both_first : {A : Type 0} (a b : A) (xs ys : List A) → a ≡ b → xs ≡ ys → a ∷ xs ≡ b ∷ ys
both_first a b xs ys e f = cc

-- ---- records, from one on, as they were put

pub next_record : (l : Layout) (place i : ℕ)
    → record_place l place (i + 1) ≡ record_place l place i + l.room
next_record l place i = omega arith

-- places, where they are kept
pub place_long : (places : Option (List ℕ)) (placed : Bool) (i : ℕ) → is_some places ≡ placed
    → length (place_bytes places i) ≡ (if placed then 8 else 0)
place_long None true i e = cc
place_long None false i e = refl
place_long (Some ps) true i e = refl
place_long (Some ps) false i e = cc

-- the place that follows a record's other fields
place_next : (places : Option (List ℕ)) (i : ℕ) (bytes : List ℕ) (place : ℕ) (rest : List ℕ)
    → IfSome places (λ ps. slice_index ps i < 2 ^ 64)
    → Remains bytes place (place_bytes places i ++ rest)
    → IfSome places (λ ps. big_number 8 (drop place bytes) ≡ slice_index ps i)
place_next None i bytes place rest fit is = tt
place_next (Some ps) i bytes place rest fit is =
    eight_next bytes place (slice_index ps i) rest fit is

-- the places of records from one on
abbrev ArePlacesFrom : Layout → List ℕ → ℕ → Option (List ℕ) → ℕ → ℕ → Type 0
ArePlacesFrom l bytes place places from n =
    IfSome places
    (λ ps. map (in_record place_from l bytes place) (range_with_len from n) ≡ map (slice_index ps) (range_with_len from n))

none_from : (l : Layout) (bytes : List ℕ) (place : ℕ) (places : Option (List ℕ)) (from : ℕ)
    → ArePlacesFrom l bytes place places from 0
none_from l bytes place None from = tt
none_from l bytes place (Some ps) from = refl

more_from : (l : Layout) (bytes : List ℕ) (place : ℕ) (places : Option (List ℕ)) (from n : ℕ)
    → IfSome places (λ ps. in_record place_from l bytes place from ≡ slice_index ps from)
    → ArePlacesFrom l bytes place places (from + 1) n
    → ArePlacesFrom l bytes place places from (suc n)
more_from l bytes place None from n here later = tt
more_from l bytes place (Some ps) from n here later = both_first _ _ _ _ here later

record RecordsRead (l : Layout) (bytes : List ℕ) (place from : ℕ) (places : Option (List ℕ))
    (handovers : List HandoverFields) (streams : List (List ℕ)) (tail : List ℕ) : Type 0 where
  handovers_are : map (in_record handover_from l bytes place) (range_with_len from (length handovers)) ≡ handovers
  lengths_are : map (in_record length_from l bytes place) (range_with_len from (length handovers))
      ≡ map (λ (s : List ℕ). length s) streams
  places_are : ArePlacesFrom l bytes place places from (length handovers)
  rest : Remains bytes (record_place l place (from + length handovers)) tail

together : (a b p c d : List ℕ) → ((a ++ (b ++ p)) ++ c) ++ d ≡ a ++ (b ++ (p ++ (c ++ d)))
together a b p c d = simp append_assoc

records_read : (l : Layout) (bytes tail : List ℕ) (place from : ℕ) (places : Option (List ℕ))
    (handovers : List HandoverFields) (streams : List (List ℕ))
    → IsLaidOut l → is_some places ≡ l.placed
    → ((i : ℕ) → IfSome places (λ ps. slice_index ps i < 2 ^ 64))
    → Remains bytes (record_place l place from) (records places from handovers streams ++ tail)
    → length streams ≡ length handovers → AllByRecursion IsHandover handovers
    → AllByRecursion (λ (s : List ℕ). length s < 2 ^ 64) streams
    → RecordsRead l bytes place from places handovers streams tail
records_read l bytes tail place from places [] [] out at small is same each fit =
    let z : from + 0 ≡ from = omega arith in
    record {
      handovers_are = refl;
      lengths_are = refl;
      places_are = none_from l bytes place places from;
      rest = rw z is;
    }
records_read l bytes tail place from places [] (s ∷ streams) out at small is same each fit =
    absurd (omega arith)
records_read l bytes tail place from places (h ∷ handovers) [] out at small is same each fit =
    absurd (omega arith)
records_read l bytes tail place from places (h ∷ handovers) (s ∷ streams) out at small is same each
    fit =
    let again = fields_again h each.0 in
    let others = records places (from + 1) handovers streams in
    let number = big_bytes 8 (length s) in
    let kept = place_bytes places from in
    let here = record_place l place from in
    let split : Remains bytes here (handover_bytes h ++ (number ++ (kept ++ (others ++ tail)))) =
    subst (Remains bytes here) (together (handover_bytes h) number kept others tail) is in
    let first = part_next bytes here 14 (handover_bytes h) (number ++ (kept ++ (others ++ tail)))
    (sym again.0) split in
    let second = part_after bytes here 14 (here + 14) (handover_bytes h)
    (number ++ (kept ++ (others ++ tail))) (sym again.0) refl split in
    let field : here + 22 ≡ here + 14 + 8 = omega arith in
    let third = part_after bytes (here + 14) 8 (here + 22) number (kept ++ (others ++ tail)) refl
    field second in
    let long = place_long places l.placed from at in
    let room = out.room in
    let next : record_place l place (from + 1) ≡ here + 22 + length kept =
    omega (arith, next_record l place from, room, long) in
    let fourth = part_after bytes (here + 22) (length kept) (record_place l place (from + 1)) kept
    (others ++ tail) refl next third in
    let later = records_read l bytes tail place (from + 1) places handovers streams out at small
    fourth (omega arith) each.1 fit.1 in
    let k : from + suc (length handovers) ≡ from + 1 + length handovers = omega arith in
    record {
      handovers_are = both_first _ _ _ _ (ap handover_in first ∙ again.1) later.handovers_are;
      lengths_are = both_first _ _ _ _
          (eight_next bytes (here + 14) (length s) (kept ++ (others ++ tail)) fit.0 second)
          later.lengths_are;
      places_are = more_from l bytes place places from (length handovers)
          (place_next places from bytes (here + 22) (others ++ tail) (small from) third)
          later.places_are;
      rest = rw k later.rest;
    }

-- ---- the fields before them

-- parts that can be put, laid out so
pub record CanPut (l : Layout) (b : BoxParts) : Type 0 where
  pub layout : l ≡ layout_of b.version
  pub chunked : is_some b.chunk ≡ l.chunked
  pub chunk : IfSome b.chunk Fits
  pub placed : is_some b.places ≡ l.placed
  pub places : (i : ℕ) → IfSome b.places (λ ps. slice_index ps i < 2 ^ 64)
  pub places_long : IfSome b.places (λ ps. length ps ≡ length b.handovers + 1)
  pub header_fits : length b.header < 2 ^ 32
  pub trailer_fits : length b.trailer < 2 ^ 32
  pub list_fits : length (list_bytes b.pads) < 2 ^ 32
  pub unlisted : l.listed ≡ false → length (list_bytes b.pads) ≡ 0
  pub streams : length b.streams ≡ length b.handovers
  pub each : AllByRecursion IsHandover b.handovers
  pub streams_fit : AllByRecursion (λ stream. length stream < 2 ^ 64) b.streams

-- a scan's fields, as they were put
pub record FieldsRead (l : Layout) (bytes : List ℕ) (place : ℕ) (b : BoxParts) : Type 0 where
  pub pad : slice_index bytes place ≡ pad_byte b.pads
  pub segments : segments_at bytes place ≡ length b.handovers
  pub header : header_length bytes place ≡ length b.header
  pub trailer : l.several ≡ false → big_number 4 (drop (place + 6) bytes) ≡ length b.trailer
  pub list : list_length l bytes place ≡ length (list_bytes b.pads)
  pub chunk : chunk_at l bytes place ≡ b.chunk
  pub places : places_at l bytes place ≡ b.places
  pub handovers : map (in_record handover_from l bytes place) (range_with_len 0 (segments_at bytes place))
      ≡ b.handovers
  pub lengths : in_records length_from l bytes place ≡ map (λ (s : List ℕ). length s) b.streams

-- the trailer's length
trailer_there : (several : Bool) (trailer : List ℕ)
    → length (length_said (not several) trailer) ≡ (if several then 0 else 4)
trailer_there true trailer = refl
trailer_there false trailer = refl

trailer_next : (several : Bool) (bytes : List ℕ) (place : ℕ) (trailer rest : List ℕ)
    → length trailer < 2 ^ 32 → Remains bytes place (length_said (not several) trailer ++ rest)
    → several ≡ false → big_number 4 (drop place bytes) ≡ length trailer
trailer_next true bytes place trailer rest fits is e = cc
trailer_next false bytes place trailer rest fits is e =
    four_next bytes place (length trailer) rest fits is

-- that of the pad list
list_there : (listed : Bool) (list : List ℕ)
    → length (length_said listed list) ≡ (if listed then 4 else 0)
list_there true list = refl
list_there false list = refl

list_next : (listed : Bool) (bytes : List ℕ) (place at : ℕ) (list rest : List ℕ)
    → (listed ≡ true → at ≡ place) → length list < 2 ^ 32 → (listed ≡ false → length list ≡ 0)
    → Remains bytes place (length_said listed list ++ rest)
    → (if listed then big_number 4 (drop at bytes) else 0) ≡ length list
list_next true bytes place at list rest same fits none is =
    ap (λ (p : ℕ). big_number 4 (drop p bytes)) (same refl)
    ∙ four_next bytes place (length list) rest fits is
list_next false bytes place at list rest same fits none is = sym (none refl)

-- the chunk
chunk_there : (c : Option Chunk) (chunked : Bool) → is_some c ≡ chunked
    → length (chunk_bytes c) ≡ (if chunked then 32 else 0)
chunk_there None true e = cc
chunk_there None false e = refl
chunk_there (Some c) true e = refl
chunk_there (Some c) false e = cc

same_chunk : (c : Chunk) (place long skip from to : ℕ) → place ≡ c.place → long ≡ c.length
    → skip ≡ c.skip → from ≡ c.from → to ≡ c.to
    → ◌≡◌ {A = Option Chunk} (Some (record {
      place = place;
      length = long;
      skip = skip;
      from = from;
      to = to;
    })) (Some c)
same_chunk c place long skip from to p l s f t = rw (p, l, s, f, t) refl

in_fives : (a b c d e f : List ℕ)
    → (a ++ (b ++ (c ++ (d ++ e)))) ++ f ≡ a ++ (b ++ (c ++ (d ++ (e ++ f))))
in_fives a b c d e f = simp append_assoc

chunk_next : (l : Layout) (c : Option Chunk) (bytes : List ℕ) (place at : ℕ) (rest : List ℕ)
    → is_some c ≡ l.chunked → (l.chunked ≡ true → place + 14 ≡ at) → IfSome c Fits
    → Remains bytes at (chunk_bytes c ++ rest) → chunk_at l bytes place ≡ c
chunk_next l None bytes place at rest e same fits is = rw (sym e) refl
chunk_next l (Some c) bytes place at rest e same fits is =
    let there : place + 14 ≡ at = same (sym e) in
    let to = big_bytes 4 c.to ++ rest in
    let from = big_bytes 4 c.from ++ to in
    let skip = big_bytes 8 c.skip ++ from in
    let long = big_bytes 8 c.length ++ skip in
    let one : Remains bytes (place + 14) (big_bytes 8 c.place ++ long) =
    subst (λ (p : ℕ). Remains bytes p (big_bytes 8 c.place ++ long)) (sym there)
    (subst (Remains bytes at) (in_fives (big_bytes 8 c.place) (big_bytes 8 c.length)
    (big_bytes 8 c.skip) (big_bytes 4 c.from) (big_bytes 4 c.to) rest) is) in
    let p22 : place + 22 ≡ place + 14 + 8 = omega arith in
    let two = part_after bytes (place + 14) 8 (place + 22) (big_bytes 8 c.place) long refl p22 one in
    let p30 : place + 30 ≡ place + 22 + 8 = omega arith in
    let three = part_after bytes (place + 22) 8 (place + 30) (big_bytes 8 c.length) skip refl p30
    two in
    let p38 : place + 38 ≡ place + 30 + 8 = omega arith in
    let four = part_after bytes (place + 30) 8 (place + 38) (big_bytes 8 c.skip) from refl p38 three
    in
    let p42 : place + 42 ≡ place + 38 + 4 = omega arith in
    let five = part_after bytes (place + 38) 4 (place + 42) (big_bytes 4 c.from) to refl p42 four in
    rw (sym e) (same_chunk c _ _ _ _ _
    (eight_next bytes (place + 14) c.place long fits.place one)
    (eight_next bytes (place + 22) c.length skip fits.long two)
    (eight_next bytes (place + 30) c.skip from fits.skip three)
    (four_next bytes (place + 38) c.from to fits.from four)
    (four_next bytes (place + 42) c.to rest fits.to five))

-- the places
places_next : (l : Layout) (bytes : List ℕ) (place n count : ℕ) (places : Option (List ℕ))
    → is_some places ≡ l.placed → count ≡ n
    → IfSome places (λ ps. length ps ≡ n + 1)
    → ArePlacesFrom l bytes place places 0 n
    → IfSome places (λ ps. big_number 8 (drop (place + 14) bytes) ≡ slice_index ps n)
    → (if l.placed then Some (map (in_record place_from l bytes place) (range_with_len 0 count)
    ++ big_number 8 (drop (place + 14) bytes) ∷ []) else None) ≡ places
places_next l bytes place n count None e same long from end = rw (sym e) refl
places_next l bytes place n count (Some ps) e same long from end =
    rw (sym e, same) (ap₂ (λ (l : List ℕ) (e : ℕ). Some (l ++ e ∷ [])) from end
    ∙ ap (λ (l : List ℕ). Some l) (ended_again ps n long))

moved : (places : Option (List ℕ)) (bytes : List ℕ) (n at to : ℕ) (placed : Bool)
    → is_some places ≡ placed → (placed ≡ true → to ≡ at)
    → IfSome places (λ ps. big_number 8 (drop at bytes) ≡ slice_index ps n)
    → IfSome places (λ ps. big_number 8 (drop to bytes) ≡ slice_index ps n)
moved None bytes n at to placed e same is = tt
moved (Some ps) bytes n at to placed e same is =
    ap (λ (p : ℕ). big_number 8 (drop p bytes)) (same (sym e)) ∙ is

in_rows : (h t l c e r tail : List ℕ)
    → (h ++ t ++ l ++ c ++ e ++ r) ++ tail
    ≡ h ++ (t ++ (l ++ (c ++ (e ++ (r ++ tail)))))
in_rows h t l c e r tail = simp append_assoc

pub fields_read : (l : Layout) (bytes tail : List ℕ) (place : ℕ) (b : BoxParts) → IsLaidOut l
    → CanPut l b → Remains bytes place (scan_fields b ++ tail)
    → FieldsRead l bytes place b
    × Remains bytes (record_place l place (segments_at bytes place)) tail
fields_read l bytes tail place b out can is =
    let count = length b.handovers in
    let put = records b.places 0 b.handovers b.streams in
    let four = big_bytes 4 (length b.header) in
    let trailer = length_said (not l.several) b.trailer in
    let list = length_said l.listed (list_bytes b.pads) in
    let chunk = chunk_bytes b.chunk in
    let end = place_bytes b.places count in
    let after_end = put ++ tail in
    let after_chunk = end ++ after_end in
    let after_list = chunk ++ after_chunk in
    let after_trailer = list ++ after_list in
    let after_header = trailer ++ after_trailer in
    let whole : Remains bytes place (pad_byte b.pads ∷ count ∷ (four ++ after_header)) =
    subst (λ (m : Layout). Remains bytes place (pad_byte b.pads ∷ count ∷ (four
    ++ (length_said (not m.several) b.trailer ++ (length_said m.listed (list_bytes b.pads)
    ++ after_list))))) (sym can.layout)
    (subst (λ (x : List ℕ). Remains bytes place (pad_byte b.pads ∷ count ∷ x))
    (in_rows four (length_said (not (layout_of b.version).several) b.trailer)
    (length_said (layout_of b.version).listed (list_bytes b.pads)) chunk end put tail) is) in
    let second = part_after bytes place 1 (place + 1) (pad_byte b.pads ∷ [])
    (count ∷ (four ++ after_header)) refl refl whole in
    let p2 : place + 2 ≡ place + 1 + 1 = omega arith in
    let third = part_after bytes (place + 1) 1 (place + 2) (count ∷ []) (four ++ after_header) refl
    p2 second in
    let p6 : place + 6 ≡ place + 2 + 4 = omega arith in
    let fourth = part_after bytes (place + 2) 4 (place + 6) four after_header refl p6 third in
    let at_list = place + 6 + length trailer in
    let fifth = part_after bytes (place + 6) (length trailer) at_list trailer after_trailer refl refl
    fourth in
    let at_chunk = at_list + length list in
    let sixth = part_after bytes at_list (length list) at_chunk list after_list refl refl fifth in
    let at_end = at_chunk + length chunk in
    let seventh = part_after bytes at_chunk (length chunk) at_end chunk after_chunk refl refl sixth
    in
    let trailer_is = trailer_there l.several b.trailer in
    let list_is = list_there l.listed (list_bytes b.pads) in
    let chunk_is = chunk_there b.chunk l.chunked can.chunked in
    let end_is = place_long b.places l.placed count can.placed in
    let fields = out.fields in
    let p : record_place l place 0 ≡ at_end + length end =
    omega (arith, trailer_is, list_is, chunk_is, end_is, fields) in
    let eighth = part_after bytes at_end (length end) (record_place l place 0) end after_end refl p
    seventh in
    let read = records_read l bytes tail place 0 b.places b.handovers b.streams out can.placed
    can.places eighth can.streams can.each can.streams_fit in
    let segments = byte_next bytes (place + 1) count (four ++ after_header) second in
    let z : 0 + count ≡ count = omega arith in (
      record {
        pad = byte_next bytes place (pad_byte b.pads) (count ∷ (four ++ after_header)) whole;
        segments = segments;
        header = four_next bytes (place + 2) (length b.header) after_header can.header_fits third;
        trailer = trailer_next l.several bytes (place + 6) b.trailer after_trailer
            can.trailer_fits fourth;
        list = list_next l.listed bytes at_list (place + l.list) (list_bytes b.pads) after_list
            (λ e. let there = out.list e in omega (arith, there, trailer_is)) can.list_fits
            can.unlisted fifth;
        chunk = chunk_next l b.chunk bytes place at_chunk after_chunk can.chunked
            (λ e. let there = out.chunk e in omega (arith, there, trailer_is, list_is)) can.chunk
            sixth;
        places = places_next l bytes place count (segments_at bytes place) b.places can.placed
            segments can.places_long read.places_are
            (moved b.places bytes count at_end (place + 14) l.placed can.placed
            (λ e. let there = out.end e in omega (arith, there, trailer_is, list_is, chunk_is))
            (place_next b.places count bytes at_end after_end (can.places count) seventh));
        handovers = ap (λ (k : ℕ). map (in_record handover_from l bytes place) (range_with_len 0 k)) segments
            ∙ read.handovers_are;
        lengths = ap (λ (k : ℕ). map (in_record length_from l bytes place) (range_with_len 0 k)) segments
            ∙ read.lengths_are;
      },
      subst (λ (k : ℕ). Remains bytes (record_place l place k) tail) (z ∙ sym segments) read.rest,
    )
