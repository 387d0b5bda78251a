-- A scan's parts in slices, each by its number.
use Rattle.std.proofs.Common.{get_or, take, nat_lt, ◌∙◌, ◌≤◌, Bool, ap₂, ℕ, length, arith, map, [], ap, ◌∷◌, ◌≡◌, drop, List, false, refl, true, ◌<◌, zero, ◌+◌, ◌++◌, suc, subst, ◌-◌, if◌then◌else◌}
use Rattle.std.specs.Prelude.{sum, Some, None, option_map, slice_index}
use Rattle.std.proofs.Math.Nat.{mul-le-mul_right}
use Rattle.std.proofs.lemmas.List.{drop-drop, drop-take}
use Rattle.std.specs.List.{range_with_len}
use Rattle.std.proofs.lemmas.List.FromFn.{length-map-range_with_len, get_or-map-range_with_len}
use Rattle.byteorder.specs.Endian.{big_number}
use Rattle.byteorder.specs.Numbers.{big_from-take}
use Rattle.handover.specs.Handovers.{HandoverFields}
use Rattle.handover.specs.HandoverBytes.{handover_in}
use Rattle.box_format.specs.Raws.{parted, handover_from, place_from, length_from}
use Rattle.box_format.specs.Fields.{segments_at, places_at, in_record}
use Rattle.box_format.specs.Slices.{places_with, lengths_in, handovers_in, place_among, HasSegments}
use Rattle.box_format.specs.Versions.{layout_of}
use Rattle.box_format.specs.declared.version.Version.{Version}
use Rattle.box_format.specs.declared.version.Version.TheVariants.{First, Second, Third, Fourth, Fifth}
use Rattle.box_format.proofs.Lists.{part_at, sum_more, sum_part}
use Rattle.box_format.proofs.PlaceLists.{ended, ended_any}

pub room_low : (v : Version) → 22 ≤ (layout_of v).room
room_low First = omega arith
room_low Second = omega arith
room_low Third = omega arith
room_low Fourth = omega arith
room_low Fifth = omega arith

pub kept : (placed : Bool) (ps : List ℕ) → placed ≡ true
    → (if placed then Some ps else None) ≡ Some ps
kept true ps e = refl
kept false ps e = cc

-- ---- one of them

-- as many handovers as segments
pub handovers_long : (v : Version) (n : ℕ) (records : List ℕ)
    → length (handovers_in v n records) ≡ n
handovers_long v n records =
    length-map-range_with_len (λ i. handover_from records (place_among v i)) 0 n

-- a handover
pub handover_sliced : (v : Version) (n : ℕ) (records : List ℕ) (i : ℕ) (d : HandoverFields) → i < n
    → get_or (handovers_in v n records) i d ≡ handover_from records (place_among v i)
handover_sliced v n records i d below =
    let z : 0 + i ≡ i = omega arith in
    let f : ℕ → HandoverFields = λ i. handover_from records (place_among v i) in
    get_or-map-range_with_len f 0 n i i d below z

-- a stream
pub stream_sliced : (v : Version) (n : ℕ) (records streams : List ℕ) (i : ℕ) → i < n
    → get_or (parted (lengths_in v n records) streams) i []
    ≡ take (length_from records (place_among v i)) (drop (sum (lengths_in v i records)) streams)
stream_sliced v n records streams i below =
    let z : 0 + i ≡ i = omega arith in
    let f : ℕ → ℕ = λ i. length_from records (place_among v i) in
    part_at f 0 i n streams below
    ∙ ap (λ (k : ℕ). take (f k) (drop (sum (lengths_in v i records)) streams)) z

-- a place, in a version that has places
pub place_sliced : (v : Version) (n : ℕ) (records : List ℕ) (end i : ℕ) → (layout_of v).placed ≡ true
    → i ≤ n
    → option_map (λ places. slice_index places i) (places_with v n records end)
    ≡ Some (if nat_lt i n then place_from records (place_among v i) else end)
place_sliced v n records end i placed within =
    let f : ℕ → ℕ = λ i. place_from records (place_among v i) in
    ap (option_map (λ places. slice_index places i)) (kept (layout_of v).placed (ended f n end) placed)
    ∙ ap (λ (k : ℕ). Some k) (ended_any f n end i within)

-- ---- the slices that have them

-- a record ends where the next one starts, and not after the last one
pub record_among : (v : Version) (i n : ℕ) → i < n
    → place_among v i + (layout_of v).room ≤ place_among v n
record_among v i n below =
    let more : i + 1 ≤ n = omega arith in
    omega (arith, mul-le-mul_right (layout_of v).room more)

-- the lengths of one stream more
pub lengths_more : (v : Version) (records : List ℕ) (i : ℕ)
    → sum (lengths_in v (i + 1) records)
    ≡ sum (lengths_in v i records) + length_from records (place_among v i)
lengths_more v records i =
    let f : ℕ → ℕ = λ i. length_from records (place_among v i) in
    let z : 0 + i ≡ i = omega arith in
    let k : i + 1 ≡ suc i = omega arith in
    ap (λ (k : ℕ). sum (map f (range_with_len 0 k))) k ∙ sum_more f 0 i
    ∙ ap (λ (k : ℕ). sum (map f (range_with_len 0 i)) + f k) z

-- which are not more than all
pub lengths_few : (v : Version) (records : List ℕ) (i n : ℕ) → i < n
    → sum (lengths_in v (i + 1) records) ≤ sum (lengths_in v n records)
lengths_few v records i n below =
    let f : ℕ → ℕ = λ i. length_from records (place_among v i) in
    let z : 0 + i ≡ i = omega arith in
    let same = ap f z in
    let part = sum_part f 0 i n below in
    let more = lengths_more v records i in
    omega (arith, part, same, more)

-- so the first segments are there too
pub has_first : (v : Version) (i n : ℕ) (records streams : List ℕ) → i < n
    → HasSegments v n records streams → HasSegments v (i + 1) records streams
has_first v i n records streams below has =
    let each = has.each in
    let all = has.all in
    let room = record_among v i n below in
    let few = lengths_few v records i n below in
    record { each = omega (arith, each, room); all = omega (arith, all, few) }

-- ---- in the bytes of a container

-- the first bytes from a place on, in a part of a list that has them
first_of : (k m : ℕ) (xs : List ℕ) → k ≤ m → take k (take m xs) ≡ take k xs
first_of zero m xs within = refl
first_of (suc k) zero xs within = absurd (omega arith)
first_of (suc k) (suc m) [] within = refl
first_of (suc k) (suc m) (x ∷ xs) within =
    ap (λ (l : List ℕ). x ∷ l) (first_of k m xs (omega arith))

later_of : (p m : ℕ) (xs : List ℕ) → p ≤ m → drop p (take m xs) ≡ take (m - p) (drop p xs)
later_of p m xs within =
    let e : m ≡ p + (m - p) = omega arith in
    ap (λ (k : ℕ). drop p (take k xs)) e ∙ drop-take p (m - p) xs

-- in a part that starts at a place
taken_from : (k p m start : ℕ) (xs : List ℕ) → p + k ≤ m
    → take k (drop p (take m (drop start xs))) ≡ take k (drop (start + p) xs)
taken_from k p m start xs within =
    ap (take k) (later_of p m (drop start xs) (omega arith))
    ∙ first_of k (m - p) (drop p (drop start xs)) (omega arith)
    ∙ ap (take k) (drop-drop p start xs)

number_from : (p m start : ℕ) (xs : List ℕ) → p + 8 ≤ m
    → big_number 8 (drop p (take m (drop start xs))) ≡ big_number 8 (drop (start + p) xs)
number_from p m start xs within =
    ap (big_number 8) (later_of p m (drop start xs) (omega arith))
    ∙ big_from-take 0 8 (m - p) (drop p (drop start xs)) (omega arith)
    ∙ ap (big_number 8) (drop-drop p start xs)

-- values that agree
same_values : {A : Type 0} (f g : ℕ → A) (from n : ℕ)
    → ((i : ℕ) → i < n → f (from + i) ≡ g (from + i))
    → map f (range_with_len from n) ≡ map g (range_with_len from n)
same_values f g from zero each = refl
same_values f g from (suc n) each =
    let e : from + 0 ≡ from = omega arith in
    let first = subst (λ k. f k ≡ g k) e (each 0 (omega arith)) in
    let later : (i : ℕ) → i < n → f (from + 1 + i) ≡ g (from + 1 + i) =
    λ i below.
    let k : from + suc i ≡ from + 1 + i = omega arith in
    subst (λ j. f j ≡ g j) k (each (suc i) (omega arith)) in
    ap₂ (λ x l. x ∷ l) first (same_values f g (from + 1) n later)

-- the records, where the first one starts at a place
abbrev pub records_at : Version → ℕ → ℕ → List ℕ → List ℕ
records_at v n start bytes = take (place_among v n) (drop start bytes)

pub handovers_same : (v : Version) (n start : ℕ) (bytes : List ℕ)
    → handovers_in v n (records_at v n start bytes)
    ≡ map (λ i. handover_from bytes (start + place_among v i)) (range_with_len 0 n)
handovers_same v n start bytes =
    same_values (λ i. handover_from (records_at v n start bytes) (place_among v i))
    (λ i. handover_from bytes (start + place_among v i)) 0 n
    (λ i below.
    let room = record_among v (0 + i) n (omega arith) in
    let low = room_low v in
    ap handover_in (taken_from 14 (place_among v (0 + i)) (place_among v n) start bytes
    (omega (arith, room, low))))

pub lengths_same : (v : Version) (n start : ℕ) (bytes : List ℕ)
    → lengths_in v n (records_at v n start bytes)
    ≡ map (λ i. length_from bytes (start + place_among v i)) (range_with_len 0 n)
lengths_same v n start bytes =
    same_values (λ i. length_from (records_at v n start bytes) (place_among v i))
    (λ i. length_from bytes (start + place_among v i)) 0 n
    (λ i below.
    let room = record_among v (0 + i) n (omega arith) in
    let low = room_low v in
    let place = place_among v (0 + i) in
    let e : start + (place + 14) ≡ start + place + 14 = omega arith in
    number_from (place + 14) (place_among v n) start bytes (omega (arith, room, low))
    ∙ ap (λ (k : ℕ). big_number 8 (drop k bytes)) e)

-- the places, in a version that has them or in another
places_sliced : (placed : Bool) (bytes : List ℕ) (f g : ℕ → ℕ) (n end at : ℕ)
    → (placed ≡ true → map f (range_with_len 0 n) ≡ map g (range_with_len 0 n))
    → end ≡ (if placed then at else 0)
    → (if placed then Some (map f (range_with_len 0 n) ++ end ∷ []) else None)
    ≡ (if placed then Some (map g (range_with_len 0 n) ++ at ∷ []) else None)
places_sliced true bytes f g n end at same e =
    ap₂ (λ (l : List ℕ) (k : ℕ). Some (l ++ k ∷ [])) (same refl) e
places_sliced false bytes f g n end at same e = refl

placed_low : (v : Version) → (layout_of v).placed ≡ true → 30 ≤ (layout_of v).room
placed_low First e = cc
placed_low Second e = cc
placed_low Third e = cc
placed_low Fourth e = cc
placed_low Fifth e = omega arith

pub places_same : (v : Version) (n place end : ℕ) (bytes : List ℕ)
    → end ≡ (if (layout_of v).placed then big_number 8 (drop (place + 14) bytes) else 0)
    → n ≡ segments_at bytes place
    → places_with v n (records_at v n (place + (layout_of v).fields) bytes) end
    ≡ places_at (layout_of v) bytes place
places_same v n place end bytes e m =
    let start = place + (layout_of v).fields in
    places_sliced (layout_of v).placed bytes
    (λ i. place_from (records_at v n start bytes) (place_among v i))
    (in_record place_from (layout_of v) bytes place) n end (big_number 8 (drop (place + 14) bytes))
    (λ placed. same_values (λ i. place_from (records_at v n start bytes) (place_among v i))
    (in_record place_from (layout_of v) bytes place) 0 n
    (λ i below.
    let room = record_among v (0 + i) n (omega arith) in
    let low = placed_low v placed in
    let p = place_among v (0 + i) in
    let k : start + (p + 22) ≡ start + p + 22 = omega arith in
    number_from (p + 22) (place_among v n) start bytes (omega (arith, room, low))
    ∙ ap (λ (k : ℕ). big_number 8 (drop k bytes)) k)) e
    ∙ ap (λ (k : ℕ). if (layout_of v).placed then Some (map (in_record place_from (layout_of v) bytes place)
    (range_with_len 0 k) ++ big_number 8 (drop (place + 14) bytes) ∷ []) else None) m
