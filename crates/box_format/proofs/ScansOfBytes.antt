-- Bytes whose checks pass are the container of their fields.
use Rattle.std.proofs.Common.{◌≡◌, ◌<◌, ◌≤◌, ◌+◌, ◌-◌, ◌^◌, ◌==◌, ◌||◌, not, Bool, true, false, if◌then◌else◌, ℕ, zero, suc, List, [], length, take, drop, map, nat_lt, refl, sym, ap, ◌∙◌, arith, subst}
use Rattle.std.specs.Prelude.{slice_index, Some, None, is_some, IfSome}
use Rattle.std.specs.List.{AllByRecursion, range_with_len}
use Rattle.std.proofs.lemmas.Bool.{ltb-false, or_parts}
use Rattle.std.proofs.lemmas.List.FromFn.{length-map-range_with_len}
use Rattle.byteorder.specs.Endian.{big_number}
use Rattle.bit_list.specs.Bits.{IsByte}
use Rattle.jpeg_marker.specs.Plans.{PlanFields}
use Rattle.jpeg_marker.specs.FirstWalks.{opening_walk}
use Rattle.jpeg_marker.proofs.HeadersTaken.{none_known}
use Rattle.handover.specs.Handovers.{HandoverFields, IsHandover}
use Rattle.handover.specs.HandoverBytes.{is_handover, handover_in}
use Rattle.box_format.specs.Versions.{layout_of, version_in, fewest_scans, most_scans}
use Rattle.box_format.specs.Raws.{Raw, parted, parts_of, handover_from, length_from, place_from}
use Rattle.box_format.specs.Containers.{container_bytes}
use Rattle.box_format.specs.Fields.{scans_in, segments_at, header_length, list_length, chunk_at, record_place, fields_place, list_place, header_place, trailer_length, trailer_place, streams_place, scan_raw, raws_as, in_record, in_records}
use Rattle.box_format.specs.Checks.{are_complete, some_are_wrong, segments_of}
use Rattle.box_format.specs.Laws.{PassedIsContainer}
use Rattle.box_format.specs.declared.version.Layout.{Layout}
use Rattle.box_format.specs.declared.version.Version.{Version}
use Rattle.box_format.proofs.ByteParts.{all_take, all_drop, all_at, four_small, eight_small}
use Rattle.box_format.proofs.PartedLists.{parted_count, parted_bytes, all_values}
use Rattle.box_format.proofs.PlaceLists.{ended_long, all_ended}
use Rattle.box_format.proofs.OneCuts.{Fits, all_lengths}
use Rattle.box_format.proofs.Sound.{handover_of_test}
use Rattle.box_format.proofs.Layouts.{laid_out, version_is, false_not as not_false}
use Rattle.box_format.proofs.ScansWalked.{HaveTrailer, trailer_in}
use Rattle.box_format.proofs.ScansPlaced.{IsEarly, IsLate, early_of, late_of, lengths_at, trailer_long}
use Rattle.box_format.proofs.ScansSpelled.{raws_from, parts_from, has_trailer, text_is}
use Rattle.box_format.proofs.ScansSound.{IsPlain, all_padded, are_boxes, parts_same, count_same, segments_same, all_said}
use Rattle.box_format.proofs.ScansPassed.{least}

-- ---- the fields of a scan are as they can be in bytes

chosen : (P : List ℕ → Type 0) (b : Bool) (xs : List ℕ) → P xs → P [] → P (if b then xs else [])
chosen P true xs all none = all
chosen P false xs all none = none

is_handover_in : (bytes : List ℕ) → AllByRecursion IsByte bytes
    → is_handover (handover_in bytes) ≡ true → IsHandover (handover_in bytes)
unfolding handover_in
is_handover_in bytes are e = handover_of_test (handover_in bytes) e refl (all_at bytes are 0)
    (four_small (drop 10 bytes) (all_drop IsByte 10 bytes are))

each_plain : (l : Layout) (bytes : List ℕ) (place n : ℕ) → AllByRecursion IsByte bytes
    → AllByRecursion (λ (h : HandoverFields). is_handover h ≡ true → IsHandover h)
    (map (in_record handover_from l bytes place) (range_with_len 0 n))
each_plain l bytes place n are =
    all_values (λ (h : HandoverFields). is_handover h ≡ true → IsHandover h)
    (in_record handover_from l bytes place) 0 n
    (λ i below e.
    let from = drop (record_place l place (0 + i)) bytes in
    is_handover_in (take 14 from)
    (all_take IsByte 14 from (all_drop IsByte (record_place l place (0 + i)) bytes are)) e)

-- whether there is one, as the version says
there_is : {A : Type 0} (b : Bool) (x : A) → is_some (if b then Some x else None) ≡ b
there_is true x = refl
there_is false x = refl

if_there : {A : Type 0} (P : A → Type 0) (b : Bool) (x : A) → P x
    → IfSome (if b then Some x else None) P
if_there P true x holds = holds
if_there P false x holds = tt

chunk_small : (l : Layout) (bytes : List ℕ) (place : ℕ) → AllByRecursion IsByte bytes
    → IfSome (chunk_at l bytes place) Fits
chunk_small l bytes place are =
    let eight = λ (p : ℕ). eight_small (drop p bytes) (all_drop IsByte p bytes are) in
    let four = λ (p : ℕ). four_small (drop p bytes) (all_drop IsByte p bytes are) in
    if_there Fits l.chunked _ (record {
      place = eight (place + 14);
      long = eight (place + 22);
      skip = eight (place + 30);
      from = four (place + 38);
      to = four (place + 42);
    })

list_small : (listed : Bool) (bytes : List ℕ) (at : ℕ) → AllByRecursion IsByte bytes
    → (if listed then big_number 4 (drop at bytes) else 0) < 2 ^ 32
list_small true bytes at are = four_small (drop at bytes) (all_drop IsByte at bytes are)
list_small false bytes at are = omega arith

one_plain : (versions : List Version) (v : Version) (bytes : List ℕ) (j n : ℕ)
    → AllByRecursion IsByte bytes → IsEarly (layout_of v) versions bytes
    → scans_in (layout_of v) bytes ≡ j + 1 + n → IsPlain v (scan_raw v bytes j)
unfolding scan_raw
one_plain versions v bytes j n are early e =
    let l = layout_of v in
    let place = fields_place l bytes j in
    let lengths = lengths_at l versions bytes j n early e in
    let here = lengths.header in
    let list = lengths.list in
    let small = four_small (drop (place + 2) bytes) (all_drop IsByte (place + 2) bytes are) in
    let small_list = list_small l.listed bytes (place + l.list) are in
    let small_trailer = four_small (drop l.trailer bytes) (all_drop IsByte l.trailer bytes are) in
    let trailer = trailer_long l versions bytes early in
    let count = segments_at bytes place in
    let fits : AllByRecursion (λ n. n < 2 ^ 64) (in_records length_from l bytes place) =
    all_values (λ n. n < 2 ^ 64) (in_record length_from l bytes place) 0 count
    (λ i below. eight_small (drop (record_place l place (0 + i) + 14) bytes)
    (all_drop IsByte (record_place l place (0 + i) + 14) bytes are)) in
    let handovers = length-map-range_with_len (in_record handover_from l bytes place) 0 count in
    record {
      version = refl;
      chunked = there_is l.chunked _;
      chunk = chunk_small l bytes place are;
      placed = there_is l.placed _;
      places = if_there (λ ps. (length ps
          ≡ length (map (in_record handover_from l bytes place) (range_with_len 0 count)) + 1)
          × AllByRecursion (λ p. p < 2 ^ 64) ps) l.placed _ (
            ended_long (in_record place_from l bytes place) count (big_number 8 (drop (place + 14) bytes))
                ∙ ap (λ (k : ℕ). k + 1) (sym handovers),
            all_ended (λ p. p < 2 ^ 64) (map (in_record place_from l bytes place) (range_with_len 0 count))
                (big_number 8 (drop (place + 14) bytes))
                (all_values (λ p. p < 2 ^ 64) (in_record place_from l bytes place) 0 count
                (λ i below. eight_small (drop (record_place l place (0 + i) + 22) bytes)
                (all_drop IsByte (record_place l place (0 + i) + 22) bytes are)))
                (eight_small (drop (place + 14) bytes) (all_drop IsByte (place + 14) bytes are)),
          );
      streams = parted_count (in_records length_from l bytes place)
          (drop (streams_place l bytes j) bytes)
          ∙ length-map-range_with_len (in_record length_from l bytes place) 0 count ∙ sym handovers;
      each = each_plain l bytes place count are;
      header_fits = omega (arith, here, small);
      trailer_fits = chosen (λ (l : List ℕ). length l < 2 ^ 32) (j + 1 == scans_in l bytes)
          (trailer_in l bytes) (omega (arith, trailer, small_trailer)) (omega arith);
      list_fits = omega (arith, list, small_list);
      streams_fit = all_lengths (λ n. n < 2 ^ 64)
          (parted (in_records length_from l bytes place) (drop (streams_place l bytes j) bytes))
          (subst (AllByRecursion (λ n. n < 2 ^ 64)) (sym lengths.streams) fits);
      list_bytes_are = all_take IsByte (list_length l bytes place)
          (drop (list_place l bytes j) bytes) (all_drop IsByte (list_place l bytes j) bytes are);
      header_bytes = all_take IsByte (header_length bytes place)
          (drop (header_place l bytes j) bytes) (all_drop IsByte (header_place l bytes j) bytes are);
      trailer_bytes = chosen (AllByRecursion IsByte) (j + 1 == scans_in l bytes)
          (trailer_in l bytes)
          (all_take IsByte (trailer_length l bytes) (drop (trailer_place l bytes) bytes)
          (all_drop IsByte (trailer_place l bytes) bytes are)) tt;
      stream_bytes = parted_bytes (in_records length_from l bytes place)
          (drop (streams_place l bytes j) bytes)
          (all_drop IsByte (streams_place l bytes j) bytes are);
    }

all_plain : (versions : List Version) (v : Version) (bytes : List ℕ) (j n : ℕ)
    → AllByRecursion IsByte bytes → IsEarly (layout_of v) versions bytes
    → scans_in (layout_of v) bytes ≡ j + n → AllByRecursion (IsPlain v) (raws_from v bytes j n)
all_plain versions v bytes j zero are early e = tt
all_plain versions v bytes j (suc n) are early e =
    let k : scans_in (layout_of v) bytes ≡ j + 1 + n = omega (arith, e) in (
      one_plain versions v bytes j n are early k,
      all_plain versions v bytes (j + 1) n are early k,
    )

-- ---- how many scans and segments there are

record IsCounted (l : Layout) (plans : List PlanFields) (raws : List Raw) : Type 0 where
  enough : fewest_scans l ≤ length raws
  most : length raws ≤ most_scans l
  complete : are_complete plans ≡ true
  right : some_are_wrong l.most plans raws ≡ false
  few : segments_of raws ≤ l.most

counted : (v : Version) (plans : List PlanFields) (bytes : List ℕ) → IsLate v plans bytes
    → IsCounted (layout_of v) plans (raws_as v bytes)
counted v plans bytes late =
    let l = layout_of v in
    let raws = raws_as v bytes in
    let n = length raws in
    let wrong = some_are_wrong l.most plans raws in
    let more = nat_lt l.most (segments_of raws) in
    let one = or_parts (nat_lt n (fewest_scans l))
    (nat_lt (most_scans l) n || (not (are_complete plans) || (wrong || more))) late.wrong in
    let two = or_parts (nat_lt (most_scans l) n) (not (are_complete plans) || (wrong || more)) one.1
    in
    let three = or_parts (not (are_complete plans)) (wrong || more) two.1 in
    let four = or_parts wrong more three.1 in
    record {
      enough = ltb-false n (fewest_scans l) one.0;
      most = ltb-false (most_scans l) n two.0;
      complete = not_false (are_complete plans) three.0;
      right = four.0;
      few = ltb-false l.most (segments_of raws) four.1;
    }

pub passed_is_container : PassedIsContainer
passed_is_container versions plans bytes are passes =
    let v = version_in bytes in
    let l = layout_of v in
    let raws = raws_as v bytes in
    let early = early_of l versions bytes (laid_out v) passes.early in
    let late = late_of v plans bytes passes.late in
    let count = counted v plans bytes late in
    let enough = count.enough in
    let most = count.most in
    let few = count.few in
    let low = least v in
    let long = length-map-range_with_len (scan_raw v bytes) 0 (scans_in l bytes) in
    let n = scans_in l bytes - 1 in
    let some : scans_in l bytes ≡ suc n = omega (arith, enough, low, long) in
    let z : scans_in l bytes ≡ 0 + scans_in l bytes = omega arith in
    let first : scans_in l bytes ≡ 0 + suc n = omega (arith, some) in
    let plain = all_plain versions v bytes 0 (scans_in l bytes) are early z in
    let padded = all_padded opening_walk 0 plans raws passes.headers late.faults in
    let last : HaveTrailer (trailer_in l bytes) (map parts_of raws) =
    subst (λ (k : ℕ). HaveTrailer (trailer_in l bytes) (parts_from v bytes 0 k)) (sym some)
    (has_trailer v bytes 0 n first) in
    let boxes = count_same opening_walk plans raws passes.headers in
    let segments = segments_same opening_walk plans raws passes.headers in
    let said = version_is versions true (slice_index bytes 4) refl (ap not early.version) in (
      record {
        are = record {
          enough = omega (arith, boxes, enough);
          most = omega (arith, boxes, most);
          each = are_boxes v opening_walk 0 plans raws (trailer_in l bytes) none_known plain
              passes.headers count.complete count.right late.faults last;
          versions = all_said v plans raws plain;
          few = omega (arith, segments, few);
        };
        text = text_is versions v bytes n are early said.0 some padded late.rest
            ∙ ap (container_bytes v) (sym (parts_same opening_walk plans raws passes.headers));
      },
      said.1,
    )
