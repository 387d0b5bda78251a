-- The checks on the scans of a container, one by one.
use Rattle.std.proofs.Common.{◌≡◌, ◌<◌, ◌≤◌, ◌+◌, ◌-◌, ◌*◌, ◌||◌, ◌&&◌, ◌==◌, not, Bool, true, false, if◌then◌else◌, ℕ, List, [], ◌∷◌, ◌++◌, length, drop, map, nat_lt, get_or, refl, sym, ap, ap₂, ◌∙◌, arith, drop-cons, add-one, length-drop, inl, inr}
use Rattle.std.specs.Prelude.{◌⊎◌, slice_index, Option, Some, None, option_map}
use Rattle.std.specs.Bool.{then_some}
use Rattle.std.specs.List.{list_any}
use Rattle.std.specs.Option.{option_or}
use Rattle.std.proofs.lemmas.Bool.{le-ltb, lt-ltb, ltb-false, or_parts}
use Rattle.std.proofs.lemmas.Bool.Decides.{nat_tests}
use Rattle.std.proofs.lemmas.List.{length-take-le}
use Rattle.std.proofs.lemmas.List.FromFn.{length-map-range_with_len}
use Rattle.jpeg_marker.specs.Plans.{PlanFields}
use Rattle.scan_spec.specs.FileParts.{is_last}
use Rattle.scan_spec.specs.Slots.{shape_of}
use Rattle.box_format.specs.Parts.{box_cut, bad_start, are_rising}
use Rattle.box_format.specs.Raws.{Raw, handover_from}
use Rattle.box_format.specs.Slices.{handovers_in}
use Rattle.box_format.specs.Versions.{layout_of, fewest_scans, most_scans, most_segments}
use Rattle.box_format.specs.Fields.{scans_in, segments_at, header_length, chunk_at, fields_place, header_place, named_end, trailer_at, scan_raw, raws_as, in_record}
use Rattle.box_format.specs.Checks.{late_fault, are_wrong, is_bad_chunk, is_bad_pad, are_bad_places, are_complete, some_are_wrong, segments_of, are_wrong_scans, scan_fault, scans_fault}
use Rattle.box_format.specs.Whole.{IsUncut, list_at, header_at, records_at, are_not_all, record_fault, listed_at}
use Rattle.box_format.specs.declared.chunk.Chunk.{Chunk}
use Rattle.box_format.specs.declared.version.Version.{Version}
use Rattle.box_format.specs.declared.refusal.BoxRefusal.{BoxRefusal}
use Rattle.box_format.specs.declared.refusal.BoxRefusal.TheVariants.{BoxSegments, BoxChunk, BoxPad, HandoverBad, BoxPlaces, BoxLong}
use Rattle.box_format.proofs.RawParts.{raws_from}
use Rattle.box_format.proofs.Lists.{sum_first}
use Rattle.box_format.proofs.Layouts.{most_more}
use Rattle.box_format.proofs.Sliced.{handovers_same}
use Rattle.box_format.proofs.HeadersRead.{raws_first, raw_header}
use Rattle.box_format.proofs.ScansSliced.{fields_there, header_ends}

-- ---- one scan

pub handovers_are : (v : Version) (bytes : List ℕ) (j : ℕ)
    → (scan_raw v bytes j).handovers
    ≡ handovers_in v (segments_at bytes (fields_place (layout_of v) bytes j))
    (records_at (layout_of v) bytes j)
unfolding scan_raw
handovers_are v bytes j =
    let place = fields_place (layout_of v) bytes j in
    sym (handovers_same v (segments_at bytes place) (place + (layout_of v).fields) bytes)

pub handover_count : (v : Version) (bytes : List ℕ) (j : ℕ)
    → length (scan_raw v bytes j).handovers
    ≡ segments_at bytes (fields_place (layout_of v) bytes j)
unfolding scan_raw
handover_count v bytes j =
    let place = fields_place (layout_of v) bytes j in
    length-map-range_with_len (in_record handover_from (layout_of v) bytes place) 0 (segments_at bytes place)

pub chunk_is : (v : Version) (bytes : List ℕ) (j place : ℕ)
    → place ≡ fields_place (layout_of v) bytes j
    → chunk_at (layout_of v) bytes place ≡ (scan_raw v bytes j).chunk
unfolding scan_raw
chunk_is v bytes j place e = ap (λ (p : ℕ). chunk_at (layout_of v) bytes p) e

pub records_there : (v : Version) (bytes : List ℕ) (j : ℕ) → IsUncut (layout_of v) bytes
    → j < scans_in (layout_of v) bytes
    → length (records_at (layout_of v) bytes j)
    ≡ (layout_of v).room * segments_at bytes (fields_place (layout_of v) bytes j)
records_there v bytes j whole below =
    let l = layout_of v in
    let place = fields_place l bytes j in
    let fields = fields_there l bytes j whole.fields below in
    length-take-le (l.room * segments_at bytes place) (drop (place + l.fields) bytes)
    (omega (arith, fields, length-drop (place + l.fields) bytes))

pub trailer_is : (v : Version) (bytes : List ℕ) (j : ℕ)
    → trailer_at (layout_of v) bytes j ≡ (scan_raw v bytes j).trailer
unfolding scan_raw
trailer_is v bytes j = refl

pub bad_chunk_is : (v : Version) (bytes : List ℕ) (j place : ℕ) (plan : PlanFields)
    (header trailer : List ℕ) (c : Option Chunk) (bad : Bool)
    → header ≡ header_at (layout_of v) bytes j → trailer ≡ trailer_at (layout_of v) bytes j
    → c ≡ chunk_at (layout_of v) bytes place → place ≡ fields_place (layout_of v) bytes j
    → is_bad_chunk plan.down header trailer c ≡ bad
    → is_bad_chunk plan.down (scan_raw v bytes j).header (scan_raw v bytes j).trailer
    (scan_raw v bytes j).chunk ≡ bad
bad_chunk_is v bytes j place plan header trailer c bad h t k e f =
    rw (
      sym (chunk_is v bytes j place e),
      sym (raw_header v bytes j),
      sym (trailer_is v bytes j),
      sym h,
      sym t,
      sym k,
    ) f

pub bad_pad_is : (v : Version) (bytes : List ℕ) (j pad : ℕ) (list : List ℕ) (plan : PlanFields)
    (listed bad : Bool) → listed ≡ (layout_of v).listed
    → pad ≡ slice_index bytes (fields_place (layout_of v) bytes j)
    → list ≡ list_at (layout_of v) bytes j
    → is_bad_pad listed (shape_of plan) pad list ≡ bad
    → is_bad_pad (layout_of (scan_raw v bytes j).version).listed (shape_of plan)
    (scan_raw v bytes j).pad (scan_raw v bytes j).list ≡ bad
unfolding scan_raw
bad_pad_is v bytes j pad list plan listed bad d e f g =
    let h : is_bad_pad (layout_of v).listed (shape_of plan) pad list ≡ bad =
    ap (λ (b : Bool). is_bad_pad b (shape_of plan) pad list) (sym d) ∙ g in
    rw (sym e, sym f) h

pub fault_is : (first : ℕ) (plan : PlanFields) (raw : Raw) (wrong bad : Bool)
    → is_bad_chunk plan.down raw.header raw.trailer raw.chunk ≡ wrong
    → is_bad_pad (layout_of raw.version).listed (shape_of plan) raw.pad raw.list ≡ bad
    → option_or (then_some wrong BoxChunk) (option_or (then_some bad BoxPad)
    (record_fault first plan raw))
    ≡ scan_fault first plan raw
fault_is first plan raw wrong bad e f = rw (sym e, sym f) refl

pub records_fault_is : (first : ℕ) (plan : PlanFields) (raw : Raw) (o : Option ℕ) (bad : Bool)
    → bad_start (shape_of plan) (box_cut plan raw.chunk (length raw.handovers)) 0 raw.handovers ≡ o
    → are_bad_places (length raw.header) raw.places ≡ bad
    → option_or (option_map (λ i. HandoverBad (first + i)) o) (then_some bad BoxPlaces)
    ≡ record_fault first plan raw
records_fault_is first plan raw o bad e f = rw (sym e, sym f) refl

-- its places
header_long : (v : Version) (bytes : List ℕ) (j : ℕ) → IsUncut (layout_of v) bytes
    → j < scans_in (layout_of v) bytes
    → length (scan_raw v bytes j).header
    ≡ header_length bytes (fields_place (layout_of v) bytes j)
unfolding scan_raw
header_long v bytes j whole below =
    let l = layout_of v in
    let ends = header_ends l bytes j whole below in
    length-take-le (header_length bytes (fields_place l bytes j))
    (drop (header_place l bytes j) bytes)
    (omega (arith, ends, length-drop (header_place l bytes j) bytes))

none_bad : (placed : Bool) (header : ℕ) (ps : List ℕ) → placed ≡ false
    → are_bad_places header (if placed then Some ps else None) ≡ false
none_bad true header ps e = cc
none_bad false header ps e = refl

some_bad : (placed : Bool) (header : ℕ) (ps : List ℕ) → placed ≡ true
    → are_bad_places header (if placed then Some ps else None)
    ≡ (not (slice_index ps 0 == header) || not (are_rising ps))
some_bad true header ps e = refl
some_bad false header ps e = cc

pub no_places : (v : Version) (bytes : List ℕ) (j : ℕ) → (layout_of v).placed ≡ false
    → are_bad_places (length (scan_raw v bytes j).header) (scan_raw v bytes j).places ≡ false
unfolding scan_raw
no_places v bytes j e =
    none_bad (layout_of v).placed (length (scan_raw v bytes j).header)
    (listed_at (layout_of v) bytes (fields_place (layout_of v) bytes j)) e

places_are : (v : Version) (bytes : List ℕ) (j : ℕ) → (layout_of v).placed ≡ true
    → are_bad_places (length (scan_raw v bytes j).header) (scan_raw v bytes j).places
    ≡ (not (slice_index (listed_at (layout_of v) bytes (fields_place (layout_of v) bytes j)) 0
    == length (scan_raw v bytes j).header)
    || not (are_rising (listed_at (layout_of v) bytes (fields_place (layout_of v) bytes j))))
unfolding scan_raw
places_are v bytes j e =
    some_bad (layout_of v).placed (length (scan_raw v bytes j).header)
    (listed_at (layout_of v) bytes (fields_place (layout_of v) bytes j)) e

-- by what is read
pub places_by : (v : Version) (bytes : List ℕ) (j place p f : ℕ) (same : Bool)
    → IsUncut (layout_of v) bytes → j < scans_in (layout_of v) bytes
    → (layout_of v).placed ≡ true → place ≡ fields_place (layout_of v) bytes j
    → p ≡ slice_index (listed_at (layout_of v) bytes place) 0 → f ≡ header_length bytes place
    → (p == f) ≡ same
    → (not same || not (are_rising (listed_at (layout_of v) bytes place)))
    ≡ are_bad_places (length (scan_raw v bytes j).header) (scan_raw v bytes j).places
places_by v bytes j place p f same whole below placed at is long test =
    let l = layout_of v in
    let rising : ℕ → Bool = λ q. not (are_rising (listed_at l bytes q)) in
    let first = is ∙ ap (λ (q : ℕ). slice_index (listed_at l bytes q) 0) at in
    let header = long ∙ ap (header_length bytes) at ∙ sym (header_long v bytes j whole below) in
    sym (places_are v bytes j placed
    ∙ ap₂ (λ (a b : ℕ). not (a == b) || rising (fields_place l bytes j)) (sym first) (sym header)
    ∙ ap₂ (λ (b : Bool) (q : ℕ). not b || rising q) test (sym at))

-- ---- from one scan to the next one

pub segments_next : (v : Version) (bytes : List ℕ) (j : ℕ) → j < scans_in (layout_of v) bytes
    → segments_of (raws_from v bytes j)
    ≡ length (scan_raw v bytes j).handovers + segments_of (raws_from v bytes (j + 1))
segments_next v bytes j below =
    ap segments_of (raws_first v bytes j below)
    ∙ sum_first (length (scan_raw v bytes j).handovers)
    (map (λ (raw : Raw). length raw.handovers) (raws_from v bytes (j + 1)))

pub wrong_next : (v : Version) (bytes : List ℕ) (plan : PlanFields) (plans rest : List PlanFields)
    (j : ℕ) → j < scans_in (layout_of v) bytes → plans ≡ plan ∷ rest
    → some_are_wrong (layout_of v).most plans (raws_from v bytes j)
    ≡ (are_wrong (layout_of v).most (box_cut plan (scan_raw v bytes j).chunk
    (length (scan_raw v bytes j).handovers))
    || some_are_wrong (layout_of v).most rest (raws_from v bytes (j + 1)))
wrong_next v bytes plan plans rest j below e = rw (e, raws_first v bytes j below) refl

pub fault_next : (v : Version) (bytes : List ℕ) (plan : PlanFields) (plans rest : List PlanFields)
    (first j : ℕ) → j < scans_in (layout_of v) bytes → plans ≡ plan ∷ rest
    → scans_fault first plans (raws_from v bytes j)
    ≡ option_or (scan_fault first plan (scan_raw v bytes j))
    (scans_fault (first + length (scan_raw v bytes j).handovers) rest (raws_from v bytes (j + 1)))
fault_next v bytes plan plans rest first j below e = rw (e, raws_first v bytes j below) refl

-- the plan of a scan, before those after it
pub plan_next : (plans : List PlanFields) (j at : ℕ) (plan : PlanFields) → j < length plans → at ≡ j
    → plan ≡ get_or plans at plan → drop j plans ≡ plan ∷ drop (j + 1) plans
plan_next plans j at plan below e f =
    drop-cons plans j plan below
    ∙ ap₂ (λ (p : PlanFields) (k : ℕ). p ∷ drop k plans)
    (ap (λ (k : ℕ). get_or plans k plan) (sym e) ∙ sym f) (sym (add-one j))

-- ---- whether the scans are all

none_last : (plan : PlanFields) (plans : List PlanFields) (last : PlanFields)
    → are_complete (plan ∷ (plans ++ last ∷ []))
    ≡ (not (is_last plan) && are_complete (plans ++ last ∷ []))
none_last plan [] last = refl
none_last plan (next ∷ plans) last = refl

pub and_true : (a : Bool) → (a && true) ≡ a
and_true true = refl
and_true false = refl

all_but : (a b c : Bool) → (not a && (c && not b)) ≡ (c && not (a || b))
all_but true b true = refl
all_but true b false = refl
all_but false b c = refl

pub complete_is : (before : List PlanFields) (last : PlanFields)
    → are_complete (before ++ last ∷ []) ≡ (is_last last && not (list_any is_last before))
complete_is [] last = sym (and_true (is_last last))
complete_is (plan ∷ before) last =
    none_last plan before last
    ∙ ap (λ (b : Bool). not (is_last plan) && b) (complete_is before last)
    ∙ all_but (is_last plan) (list_any is_last before) (is_last last)

pub complete_by : (plans before : List PlanFields) (last : PlanFields) (a b : Bool)
    → plans ≡ before ++ last ∷ [] → is_last last ≡ a → list_any is_last before ≡ b
    → (a && not b) ≡ are_complete plans
complete_by plans before last a b e f g =
    rw (e, sym f, sym g) (sym (complete_is before last))

-- ---- after the headers

raws_count : (v : Version) (bytes : List ℕ)
    → length (raws_as v bytes) ≡ scans_in (layout_of v) bytes
raws_count v bytes = length-map-range_with_len (scan_raw v bytes) 0 (scans_in (layout_of v) bytes)

outside : (low high n : ℕ) → low ≤ high → ((n < low) ⊎ (high < n)) → (b : Bool)
    → (nat_lt n low || (nat_lt high n || b)) ≡ true
outside low high n order (inl few) b = rw (lt-ltb n low few) refl
outside low high n order (inr many) b =
    rw (le-ltb n low (omega (arith, many, order)), lt-ltb high n many) refl

ordered : (b : Bool) → (if b then 2 else 1) ≤ (if b then 4 else 1)
ordered true = omega arith
ordered false = omega arith

pub late_outside : (v : Version) (plans : List PlanFields) (bytes : List ℕ)
    → ((scans_in (layout_of v) bytes < fewest_scans (layout_of v))
    ⊎ (most_scans (layout_of v) < scans_in (layout_of v) bytes))
    → late_fault v plans bytes ≡ Some BoxSegments
unfolding late_fault
late_outside v plans bytes is =
    let l = layout_of v in
    let wrong : are_wrong_scans l plans (raws_as v bytes) ≡ true =
    rw (raws_count v bytes) (outside (fewest_scans l) (most_scans l) (scans_in l bytes)
    (ordered l.several) is (are_not_all l.most plans (raws_as v bytes))) in
    rw wrong refl

inside : (low high n : ℕ) → low ≤ n → n ≤ high → (b : Bool)
    → (nat_lt n low || (nat_lt high n || b)) ≡ b
inside low high n some few b = rw (le-ltb n low some, le-ltb high n few) refl

rest_is : (end long : ℕ) → nat_lt 0 (long - end) ≡ nat_lt end long
rest_is end long = grind (arith, nat_tests)

-- the number of scans is one that the version can have
pub record IsInside (v : Version) (bytes : List ℕ) : Type 0 where
  pub some : fewest_scans (layout_of v) ≤ scans_in (layout_of v) bytes
  pub few : scans_in (layout_of v) bytes ≤ most_scans (layout_of v)

abbrev long_fault : Version → List ℕ → Option BoxRefusal
long_fault v bytes = then_some (nat_lt (named_end (layout_of v) bytes) (length bytes)) BoxLong

late_inside : (v : Version) (plans : List PlanFields) (bytes : List ℕ) → IsInside v bytes
    → late_fault v plans bytes
    ≡ option_or (then_some (are_not_all (layout_of v).most plans (raws_as v bytes)) BoxSegments)
    (option_or (scans_fault 0 plans (raws_as v bytes)) (long_fault v bytes))
unfolding late_fault
late_inside v plans bytes within =
    let l = layout_of v in
    let wrong : are_wrong_scans l plans (raws_as v bytes)
    ≡ are_not_all l.most plans (raws_as v bytes) =
    rw (raws_count v bytes) (inside (fewest_scans l) (most_scans l) (scans_in l bytes) within.some
    within.few (are_not_all l.most plans (raws_as v bytes))) in
    let rest : nat_lt 0 (length (drop (named_end l bytes) bytes))
    ≡ nat_lt (named_end l bytes) (length bytes) =
    ap (λ n. nat_lt 0 n) (length-drop (named_end l bytes) bytes)
    ∙ rest_is (named_end l bytes) (length bytes) in
    rw (wrong, rest) refl

-- what they give, in their order
pub late_wrong : (v : Version) (plans : List PlanFields) (bytes : List ℕ) → IsInside v bytes
    → are_not_all (layout_of v).most plans (raws_as v bytes) ≡ true
    → Some BoxSegments ≡ late_fault v plans bytes
late_wrong v plans bytes within wrong =
    sym (late_inside v plans bytes within
    ∙ ap (λ (b : Bool). option_or (then_some b BoxSegments)
    (option_or (scans_fault 0 plans (raws_as v bytes)) (long_fault v bytes))) wrong)

pub late_faulty : (v : Version) (plans : List PlanFields) (bytes : List ℕ)
    (fault : Option BoxRefusal) → IsInside v bytes
    → are_not_all (layout_of v).most plans (raws_as v bytes) ≡ false
    → scans_fault 0 plans (raws_as v bytes) ≡ fault
    → option_or fault (long_fault v bytes) ≡ late_fault v plans bytes
late_faulty v plans bytes fault within right e =
    sym (late_inside v plans bytes within
    ∙ ap (λ (b : Bool). option_or (then_some b BoxSegments)
    (option_or (scans_fault 0 plans (raws_as v bytes)) (long_fault v bytes))) right
    ∙ ap (λ (o : Option BoxRefusal). option_or o (long_fault v bytes)) e)

-- scans of a right number have few segments
pub few_segments : (v : Version) (plans : List PlanFields) (raws : List Raw)
    → are_not_all (layout_of v).most plans raws ≡ false → segments_of raws ≤ most_segments
few_segments v plans raws e =
    let l = layout_of v in
    let wrong = some_are_wrong l.most plans raws in
    let more = nat_lt l.most (segments_of raws) in
    let one = or_parts (not (are_complete plans)) (wrong || more) e in
    let few = ltb-false l.most (segments_of raws) (or_parts wrong more one.1).1 in
    omega (arith, few, most_more v)
