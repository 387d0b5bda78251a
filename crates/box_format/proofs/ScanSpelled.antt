-- A scan's fields as their bytes.
use Rattle.std.proofs.Common.{◌≡◌, ◌<◌, ◌≤◌, ◌+◌, Bool, true, false, if◌then◌else◌, ℕ, zero, suc, List, [], ◌∷◌, ◌++◌, length, take, drop, map, refl, sym, ap, ap₂, ◌∙◌, arith, append_assoc, length-drop}
use Rattle.std.specs.Prelude.{slice_index, Option, Some, None, not}
use Rattle.std.specs.List.{AllByRecursion, range_with_len}
use Rattle.std.proofs.Math.Nat.{mul-le-mul_right}
use Rattle.std.proofs.lemmas.List.{drop_more, length-take-le}
use Rattle.std.proofs.lemmas.List.FromFn.{length-map-range_with_len}
use Rattle.byteorder.specs.Endian.{big_bytes, big_number}
use Rattle.bit_list.specs.Bits.{IsByte}
use Rattle.handover.specs.Handovers.{HandoverFields}
use Rattle.handover.specs.HandoverBytes.{handover_bytes}
use Rattle.handover.proofs.FieldBytes.{bytes_again}
use Rattle.box_format.specs.Parts.{length_said, chunk_bytes, place_bytes, records}
use Rattle.box_format.specs.Raws.{handover_from, length_from, place_from}
use Rattle.box_format.specs.Fields.{segments_at, header_length, list_length, chunk_at, record_place, places_at, in_record, in_records}
use Rattle.box_format.specs.declared.chunk.Chunk.{Chunk}
use Rattle.box_format.specs.declared.version.Layout.{Layout}
use Rattle.box_format.proofs.ByteParts.{all_take, all_drop, peel, four_at, eight_at}
use Rattle.box_format.proofs.PlaceLists.{ended_at, ended_last}
use Rattle.box_format.proofs.Layouts.{IsLaidOut, trailer_room, list_room, chunk_room, end_room}
use Rattle.box_format.proofs.ScanRead.{next_record}

-- a byte and those after it
pub byte_at : (bytes : List ℕ) (place : ℕ) → place < length bytes
    → drop place bytes ≡ slice_index bytes place ∷ drop (place + 1) bytes
byte_at bytes place below = drop_more bytes place 0 below

-- ---- records

-- the handover of a record
handover_spelled : (l : Layout) (bytes : List ℕ) (place i : ℕ) → AllByRecursion IsByte bytes
    → record_place l place i + 14 ≤ length bytes
    → take 14 (drop (record_place l place i) bytes) ≡ handover_bytes (in_record handover_from l bytes place i)
handover_spelled l bytes place i are long =
    let here = record_place l place i in
    sym (bytes_again (take 14 (drop here bytes))
    (length-take-le 14 (drop here bytes) (omega (arith, long, length-drop here bytes)))
    (all_take IsByte 14 (drop here bytes) (all_drop IsByte here bytes are)))

first_same : (a b : ℕ) (xs ys : List ℕ) → a ∷ xs ≡ b ∷ ys → (a ≡ b) × (xs ≡ ys)
first_same a b xs ys e = (cc, cc)

record_within : (l : Layout) (place i n : ℕ) → i < n
    → record_place l place (i + 1) ≤ record_place l place n
record_within l place i n below =
    let more : i + 1 ≤ n = omega arith in
    omega (arith, mul-le-mul_right l.room more)

-- the place of a segment's first byte, where places are kept, and what follows it
place_spelled : (placed : Bool) (bytes : List ℕ) (f : ℕ → ℕ) (n end i here next : ℕ)
    → AllByRecursion IsByte bytes → i < n → f i ≡ big_number 8 (drop here bytes)
    → next ≡ here + (if placed then 8 else 0) → next ≤ length bytes
    → drop here bytes
    ≡ place_bytes (if placed then Some (map f (range_with_len 0 n) ++ end ∷ []) else None) i
    ++ drop next bytes
place_spelled true bytes f n end i here next are below value e long =
    eight_at bytes here are (omega (arith, e, long))
    ∙ ap₂ (λ (v p : ℕ). big_bytes 8 v ++ drop p bytes)
    (sym (ended_at f n end i below ∙ value)) (sym e)
place_spelled false bytes f n end i here next are below value e long =
    let z : here ≡ next = omega (arith, e) in
    ap (λ (p : ℕ). drop p bytes) z

together : (a b p c d : List ℕ) → a ++ (b ++ (p ++ (c ++ d))) ≡ ((a ++ (b ++ p)) ++ c) ++ d
together a b p c d = simp append_assoc

-- the records, from one on, and what follows them
records_spelled : (l : Layout) (bytes : List ℕ) (place from n : ℕ) (streams : List (List ℕ))
    → IsLaidOut l → AllByRecursion IsByte bytes → from + n ≤ segments_at bytes place
    → record_place l place (segments_at bytes place) ≤ length bytes
    → map (λ (s : List ℕ). length s) streams ≡ map (in_record length_from l bytes place) (range_with_len from n)
    → drop (record_place l place from) bytes
    ≡ records (places_at l bytes place) from (map (in_record handover_from l bytes place) (range_with_len from n))
    streams ++ drop (record_place l place (from + n)) bytes
records_spelled l bytes place from zero [] out are within long e =
    let z : from + 0 ≡ from = omega arith in
    rw z refl
records_spelled l bytes place from zero (s ∷ streams) out are within long e = cc
records_spelled l bytes place from (suc n) [] out are within long e = cc
records_spelled l bytes place from (suc n) (s ∷ streams) out are within long e =
    let count = segments_at bytes place in
    let parts = first_same (length s) (in_record length_from l bytes place from)
    (map (λ (s : List ℕ). length s) streams)
    (map (in_record length_from l bytes place) (range_with_len (from + 1) n)) e in
    let k : from + suc n ≡ from + 1 + n = omega arith in
    let below : from < count = omega arith in
    let here = record_place l place from in
    let next = record_place l place (from + 1) in
    let room = out.room in
    let step = next_record l place from in
    let fits : next ≤ length bytes = omega (arith, record_within l place from count below, long) in
    let later = records_spelled l bytes place (from + 1) n streams out are (omega arith) long parts.1
    in
    let field : here + 14 + 8 ≡ here + 22 = omega arith in
    let handover = in_record handover_from l bytes place from in
    let kept = place_bytes (places_at l bytes place) from in
    let others = records (places_at l bytes place) (from + 1)
    (map (in_record handover_from l bytes place) (range_with_len (from + 1) n)) streams in
    let tail = drop (record_place l place (from + 1 + n)) bytes in
    let number = big_bytes 8 (length s) in
    let ended = place_spelled l.placed bytes (in_record place_from l bytes place) count (big_number 8 (drop (place + 14) bytes)) from
    (here + 22) next are below refl (omega (arith, step, room)) fits in
    rw k (peel 14 here bytes
    ∙ ap₂ (λ (l m : List ℕ). l ++ m)
    (handover_spelled l bytes place from are (omega (arith, fits, step, room)))
    (eight_at bytes (here + 14) are (omega (arith, fits, step, room))
    ∙ ap₂ (λ (v p : ℕ). big_bytes 8 v ++ drop p bytes) (sym parts.0) field
    ∙ ap (λ (l : List ℕ). number ++ l) (ended ∙ ap (λ (l : List ℕ). kept ++ l) later))
    ∙ together (handover_bytes handover) number kept others tail)

-- ---- the fields before them

trailer_spelled : (several : Bool) (bytes trailer : List ℕ) (here next : ℕ)
    → AllByRecursion IsByte bytes → next ≡ here + (if several then 0 else 4)
    → next ≤ length bytes
    → (several ≡ false → big_number 4 (drop here bytes) ≡ length trailer)
    → drop here bytes ≡ length_said (not several) trailer ++ drop next bytes
trailer_spelled true bytes trailer here next are e long value =
    let z : here ≡ next = omega (arith, e) in
    ap (λ (p : ℕ). drop p bytes) z
trailer_spelled false bytes trailer here next are e long value =
    four_at bytes here are (omega (arith, e, long))
    ∙ ap₂ (λ (v p : ℕ). big_bytes 4 v ++ drop p bytes) (value refl) (sym e)

list_spelled : (listed : Bool) (bytes list : List ℕ) (here at next : ℕ)
    → AllByRecursion IsByte bytes → next ≡ here + (if listed then 4 else 0)
    → next ≤ length bytes → (listed ≡ true → at ≡ here)
    → (if listed then big_number 4 (drop at bytes) else 0) ≡ length list
    → drop here bytes ≡ length_said listed list ++ drop next bytes
list_spelled true bytes list here at next are e long same value =
    four_at bytes here are (omega (arith, e, long))
    ∙ ap₂ (λ (v p : ℕ). big_bytes 4 v ++ drop p bytes)
    (ap (λ (p : ℕ). big_number 4 (drop p bytes)) (sym (same refl)) ∙ value) (sym e)
list_spelled false bytes list here at next are e long same value =
    let z : here ≡ next = omega (arith, e) in
    ap (λ (p : ℕ). drop p bytes) z

in_fives : (a b c d e f : List ℕ)
    → a ++ (b ++ (c ++ (d ++ (e ++ f)))) ≡ (a ++ (b ++ (c ++ (d ++ e)))) ++ f
in_fives a b c d e f = simp append_assoc

chunk_there : (bytes : List ℕ) (place : ℕ) → AllByRecursion IsByte bytes
    → place + 46 ≤ length bytes
    → drop (place + 14) bytes
    ≡ (big_bytes 8 (big_number 8 (drop (place + 14) bytes))
    ++ (big_bytes 8 (big_number 8 (drop (place + 22) bytes))
    ++ (big_bytes 8 (big_number 8 (drop (place + 30) bytes))
    ++ (big_bytes 4 (big_number 4 (drop (place + 38) bytes))
    ++ big_bytes 4 (big_number 4 (drop (place + 42) bytes))))))
    ++ drop (place + 46) bytes
chunk_there bytes place are long =
    let number = λ (p : ℕ). big_bytes 8 (big_number 8 (drop p bytes)) in
    let row = λ (p : ℕ). big_bytes 4 (big_number 4 (drop p bytes)) in
    let p22 : place + 14 + 8 ≡ place + 22 = omega arith in
    let p30 : place + 22 + 8 ≡ place + 30 = omega arith in
    let p38 : place + 30 + 8 ≡ place + 38 = omega arith in
    let p42 : place + 38 + 4 ≡ place + 42 = omega arith in
    let p46 : place + 42 + 4 ≡ place + 46 = omega arith in
    (eight_at bytes (place + 14) are (omega (arith, long))
    ∙ ap (λ (p : ℕ). number (place + 14) ++ drop p bytes) p22
    ∙ ap (λ (l : List ℕ). number (place + 14) ++ l)
    (eight_at bytes (place + 22) are (omega (arith, long))
    ∙ ap (λ (p : ℕ). number (place + 22) ++ drop p bytes) p30
    ∙ ap (λ (l : List ℕ). number (place + 22) ++ l)
    (eight_at bytes (place + 30) are (omega (arith, long))
    ∙ ap (λ (p : ℕ). number (place + 30) ++ drop p bytes) p38
    ∙ ap (λ (l : List ℕ). number (place + 30) ++ l)
    (four_at bytes (place + 38) are (omega (arith, long))
    ∙ ap (λ (p : ℕ). row (place + 38) ++ drop p bytes) p42
    ∙ ap (λ (l : List ℕ). row (place + 38) ++ l)
    (four_at bytes (place + 42) are (omega (arith, long))
    ∙ ap (λ (p : ℕ). row (place + 42) ++ drop p bytes) p46)))))
    ∙ in_fives (number (place + 14)) (number (place + 22)) (number (place + 30)) (row (place + 38))
    (row (place + 42)) (drop (place + 46) bytes)

chunk_by : Bool → List ℕ → ℕ → Option Chunk
chunk_by chunked bytes place =
    if chunked then Some (record {
      place = big_number 8 (drop (place + 14) bytes);
      length = big_number 8 (drop (place + 22) bytes);
      skip = big_number 8 (drop (place + 30) bytes);
      from = big_number 4 (drop (place + 38) bytes);
      to = big_number 4 (drop (place + 42) bytes);
    }) else None

chunk_spelled : (chunked : Bool) (bytes : List ℕ) (place here next : ℕ)
    → AllByRecursion IsByte bytes → next ≡ here + (if chunked then 32 else 0)
    → next ≤ length bytes → (chunked ≡ true → place + 14 ≡ here)
    → drop here bytes ≡ chunk_bytes (chunk_by chunked bytes place) ++ drop next bytes
unfolding chunk_by
chunk_spelled true bytes place here next are e long same =
    let at : place + 14 ≡ here = same refl in
    let past : place + 46 ≡ next = omega (arith, e, at) in
    ap (λ (p : ℕ). drop p bytes) (sym at) ∙ chunk_there bytes place are (omega (arith, past, long))
    ∙ ap (λ (p : ℕ). chunk_bytes (chunk_by true bytes place) ++ drop p bytes) past
chunk_spelled false bytes place here next are e long same =
    let z : here ≡ next = omega (arith, e) in
    ap (λ (p : ℕ). drop p bytes) z

end_spelled : (placed : Bool) (bytes : List ℕ) (f : ℕ → ℕ) (n place here next : ℕ)
    → AllByRecursion IsByte bytes → next ≡ here + (if placed then 8 else 0)
    → next ≤ length bytes → (placed ≡ true → place + 14 ≡ here)
    → drop here bytes
    ≡ place_bytes (if placed then Some (map f (range_with_len 0 n) ++ big_number 8 (drop (place + 14) bytes) ∷ []) else None) n
    ++ drop next bytes
end_spelled true bytes f n place here next are e long same =
    eight_at bytes here are (omega (arith, e, long))
    ∙ ap₂ (λ (v p : ℕ). big_bytes 8 v ++ drop p bytes)
    (ap (λ (p : ℕ). big_number 8 (drop p bytes)) (sym (same refl))
    ∙ sym (ended_last f n (big_number 8 (drop (place + 14) bytes)))) (sym e)
end_spelled false bytes f n place here next are e long same =
    let z : here ≡ next = omega (arith, e) in
    ap (λ (p : ℕ). drop p bytes) z

in_rows : (h t l c e r tail : List ℕ)
    → h ++ (t ++ (l ++ (c ++ (e ++ (r ++ tail)))))
    ≡ (h ++ t ++ l ++ c ++ e ++ r) ++ tail
in_rows h t l c e r tail = simp append_assoc

pub fields_spelled : (l : Layout) (bytes : List ℕ) (place pad : ℕ) (list header trailer : List ℕ)
    (streams : List (List ℕ)) → IsLaidOut l → AllByRecursion IsByte bytes
    → record_place l place (segments_at bytes place) ≤ length bytes
    → slice_index bytes place ≡ pad → list_length l bytes place ≡ length list
    → header_length bytes place ≡ length header
    → (l.several ≡ false → big_number 4 (drop (place + 6) bytes) ≡ length trailer)
    → map (λ (s : List ℕ). length s) streams ≡ in_records length_from l bytes place
    → let handovers : List HandoverFields =
    map (in_record handover_from l bytes place) (range_with_len 0 (segments_at bytes place)) in
    drop place bytes
    ≡ (pad ∷ length handovers ∷ big_bytes 4 (length header) ++ length_said (not l.several) trailer
    ++ length_said l.listed list ++ chunk_bytes (chunk_at l bytes place)
    ++ place_bytes (places_at l bytes place) (length handovers)
    ++ records (places_at l bytes place) 0 handovers streams)
    ++ drop (record_place l place (segments_at bytes place)) bytes
unfolding chunk_by
fields_spelled l bytes place pad list header trailer streams out are long p s h t lengths =
    let n = segments_at bytes place in
    let handovers : List HandoverFields = map (in_record handover_from l bytes place) (range_with_len 0 n) in
    let count = length-map-range_with_len (in_record handover_from l bytes place) 0 n in
    let z : 0 + n ≡ n = omega arith in
    let at_list = place + 6 + trailer_room l in
    let at_chunk = at_list + list_room l in
    let at_end = at_chunk + chunk_room l in
    let first = record_place l place 0 in
    let fields = out.fields in
    let after : first ≡ at_end + end_room l = omega (arith, fields) in
    let rows : first ≤ record_place l place n = omega arith in
    let one : place + 1 + 1 ≡ place + 2 = omega arith in
    let two : place + 2 + 4 ≡ place + 6 = omega arith in
    let put = records (places_at l bytes place) 0 handovers streams in
    let four = big_bytes 4 (length header) in
    let said = length_said (not l.several) trailer in
    let listed = length_said l.listed list in
    let chunk = chunk_bytes (chunk_at l bytes place) in
    let end = place_bytes (places_at l bytes place) (length handovers) in
    let tail = drop (record_place l place n) bytes in
    let sixth = records_spelled l bytes place 0 n streams out are (omega arith) long lengths
    ∙ ap (λ (k : ℕ). put ++ drop (record_place l place k) bytes) z in
    let fifth = end_spelled l.placed bytes (in_record place_from l bytes place) n place at_end first are after
    (omega (arith, rows, long)) (λ e. let there = out.end e in omega (arith, there))
    ∙ ap₂ (λ (k : ℕ) (m : List ℕ). place_bytes (places_at l bytes place) k ++ m) (sym count) sixth in
    let fourth = chunk_spelled l.chunked bytes place at_chunk at_end are refl
    (omega (arith, after, rows, long)) (λ e. let there = out.chunk e in omega (arith, there))
    ∙ ap (λ (m : List ℕ). chunk ++ m) fifth in
    let third = list_spelled l.listed bytes list at_list (place + l.list) at_chunk are refl
    (omega (arith, after, rows, long)) (λ e. let there = out.list e in omega (arith, there)) s
    ∙ ap (λ (m : List ℕ). listed ++ m) fourth in
    let second = trailer_spelled l.several bytes trailer (place + 6) at_list are refl
    (omega (arith, after, rows, long)) t
    ∙ ap (λ (m : List ℕ). said ++ m) third in
    byte_at bytes place (omega (arith, after, rows, long))
    ∙ ap₂ (λ (v : ℕ) (m : List ℕ). v ∷ m) p
    (byte_at bytes (place + 1) (omega (arith, after, rows, long))
    ∙ ap₂ (λ (v q : ℕ). v ∷ drop q bytes) (sym count) one
    ∙ ap (λ (m : List ℕ). length handovers ∷ m)
    (four_at bytes (place + 2) are (omega (arith, after, rows, long))
    ∙ ap₂ (λ (v q : ℕ). big_bytes 4 v ++ drop q bytes) h two
    ∙ ap (λ (m : List ℕ). four ++ m) second))
    ∙ ap (λ (m : List ℕ). pad ∷ length handovers ∷ m)
    (in_rows four said listed chunk end put tail)
