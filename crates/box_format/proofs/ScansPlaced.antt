-- The places of a container's parts, none below the one before, and the lengths of the parts.
use Rattle.std.proofs.Common.{◌≡◌, ◌≤◌, ◌+◌, ◌&&◌, not, Bool, true, false, cond, ◌<◌, ℕ, zero, suc, List, [], length, take, drop, map, nat_lt, refl, sym, arith, length-drop}
use Rattle.std.specs.Prelude.{slice_index, sum, bytes_eq, Option, Some, None}
use Rattle.std.specs.Bool.{then_some}
use Rattle.std.specs.Cmp.Lexicographic.{same_text}
use Rattle.std.specs.Option.{option_or}
use Rattle.std.proofs.lemmas.Bool.{ltb-false, lt-ltb, or_parts}
use Rattle.std.proofs.lemmas.List.{length-take-le}
use Rattle.jpeg_marker.specs.Plans.{PlanFields}
use Rattle.box_format.specs.Versions.{layout_of, is_version}
use Rattle.box_format.specs.Parts.{magic}
use Rattle.box_format.specs.Raws.{parted, length_from}
use Rattle.box_format.specs.declared.refusal.BoxRefusal.{BoxRefusal}
use Rattle.box_format.specs.declared.refusal.BoxRefusal.TheVariants.{BoxMagic, BoxVersion, BoxCut, BoxSegments, BoxLong}
use Rattle.box_format.proofs.PartedLists.{parted_lengths}
use Rattle.box_format.specs.Fields.{scans_in, header_length, list_length, fields_place, list_place, header_place, trailer_length, trailer_place, streams_place, named_end, raws_as, in_records}
use Rattle.box_format.specs.Checks.{early_fault, late_fault, is_cut, are_wrong_scans, scans_fault}
use Rattle.box_format.specs.declared.version.Layout.{Layout}
use Rattle.box_format.specs.declared.version.Version.{Version}
use Rattle.box_format.proofs.Layouts.{IsLaidOut, false_not}
use Rattle.box_format.proofs.ScansWalked.{next_fields, next_list, next_streams, trailer_in}
use Rattle.box_format.proofs.OneCuts.{and_false}
use Rattle.box_format.proofs.PadBytes.{nothing}

-- ---- places

-- numbers of which each is at least the one before
rising : (f : ℕ → ℕ) → ((j : ℕ) → f j ≤ f (j + 1)) → (j n : ℕ) → f j ≤ f (j + n)
rising f more j zero = let z : j + 0 ≡ j = omega arith in rw z (omega arith)
rising f more j (suc n) =
    let k : j + suc n ≡ j + n + 1 = omega arith in
    let before = rising f more j n in
    let here = more (j + n) in
    rw k (omega arith)

up_to : (f : ℕ → ℕ) → ((j : ℕ) → f j ≤ f (j + 1)) → (j k n : ℕ) → k ≡ j + n → f j ≤ f k
up_to f more j k n e = rw e (rising f more j n)

pub fields_up : (l : Layout) (bytes : List ℕ) (j k n : ℕ) → k ≡ j + n
    → fields_place l bytes j ≤ fields_place l bytes k
fields_up l bytes j k n e =
    up_to (fields_place l bytes) (λ i. omega (arith, next_fields l bytes i)) j k n e

pub list_up : (l : Layout) (bytes : List ℕ) (j k n : ℕ) → k ≡ j + n
    → list_place l bytes j ≤ list_place l bytes k
list_up l bytes j k n e =
    up_to (list_place l bytes) (λ i. omega (arith, next_list l bytes i)) j k n e

pub streams_up : (l : Layout) (bytes : List ℕ) (j k n : ℕ) → k ≡ j + n
    → streams_place l bytes j ≤ streams_place l bytes k
streams_up l bytes j k n e =
    up_to (streams_place l bytes) (λ i. omega (arith, next_streams l bytes i)) j k n e

-- ---- what the checks before the headers say

pub record IsEarly (l : Layout) (versions : List Version) (bytes : List ℕ) : Type 0 where
  pub begins : take 4 bytes ≡ magic
  pub version : is_version versions (slice_index bytes 4) ≡ true
  pub fields : fields_place l bytes (scans_in l bytes) ≤ length bytes
  pub ends : named_end l bytes ≤ length bytes
  pub there : 4 < length bytes

-- three tests in a row that don't fail
three_passed : (a b c : Bool) (r s t : BoxRefusal)
    → cond a (Some r) (cond b (Some s) (cond c (Some t) None)) ≡ None
    → (a ≡ false) × (b ≡ false) × (c ≡ false)
three_passed true b c r s t e = cc
three_passed false true c r s t e = cc
three_passed false false true r s t e = cc
three_passed false false false r s t e = (refl, refl, refl)

pub early_of : (l : Layout) (versions : List Version) (bytes : List ℕ) → IsLaidOut l
    → early_fault versions l bytes ≡ None → IsEarly l versions bytes
unfolding early_fault
early_of l versions bytes out e =
    let other = not (is_version versions (slice_index bytes 4)) in
    let parts = three_passed (not (bytes_eq (take 4 bytes) magic))
    (nat_lt 4 (length bytes) && other) (is_cut l bytes) BoxMagic BoxVersion BoxCut e in
    let ends = or_parts (nat_lt (length bytes) (fields_place l bytes (scans_in l bytes)))
    (nat_lt (length bytes) (named_end l bytes)) parts.2 in
    let fields = ltb-false (length bytes) (fields_place l bytes (scans_in l bytes)) ends.0 in
    let z : scans_in l bytes ≡ 0 + scans_in l bytes = omega arith in
    let up = fields_up l bytes 0 (scans_in l bytes) (scans_in l bytes) z in
    let low = out.low in
    let there : 4 < length bytes = omega (arith, low, up, fields) in
    let more : nat_lt 4 (length bytes) ≡ true = lt-ltb 4 (length bytes) there in
    record {
      begins = same_text (take 4 bytes) magic
          (sym (false_not (bytes_eq (take 4 bytes) magic) parts.0));
      version = false_not (is_version versions (slice_index bytes 4))
          (and_false (nat_lt 4 (length bytes)) other parts.1 more);
      fields = fields;
      ends = ltb-false (length bytes) (named_end l bytes) ends.1;
      there = there;
    }

-- ---- and those after them

pub or_none : (a b : Option BoxRefusal) → option_or a b ≡ None → (a ≡ None) × (b ≡ None)
or_none (Some r) b e = cc
or_none None b e = (refl, e)

pub check_passes : (failed : Bool) (r : BoxRefusal) → then_some failed r ≡ None → failed ≡ false
check_passes true r e = cc
check_passes false r e = refl

pub record IsLate (v : Version) (plans : List PlanFields) (bytes : List ℕ) : Type 0 where
  pub wrong : are_wrong_scans (layout_of v) plans (raws_as v bytes) ≡ false
  pub faults : scans_fault 0 plans (raws_as v bytes) ≡ None
  pub rest : drop (named_end (layout_of v) bytes) bytes ≡ []

pub late_of : (v : Version) (plans : List PlanFields) (bytes : List ℕ)
    → late_fault v plans bytes ≡ None → IsLate v plans bytes
unfolding late_fault
late_of v plans bytes e =
    let l = layout_of v in
    let raws = raws_as v bytes in
    let long = then_some (nat_lt 0 (length (drop (named_end l bytes) bytes))) BoxLong in
    let one = or_none (then_some (are_wrong_scans l plans raws) BoxSegments)
    (option_or (scans_fault 0 plans raws) long) e in
    let two = or_none (scans_fault 0 plans raws) long one.1 in
    record {
      wrong = check_passes (are_wrong_scans l plans raws) BoxSegments one.0;
      faults = two.0;
      rest = nothing (drop (named_end l bytes) bytes)
          (check_passes (nat_lt 0 (length (drop (named_end l bytes) bytes))) BoxLong two.1);
    }

-- ---- the lengths of the parts that the fields name

pub record HasLengths (l : Layout) (bytes : List ℕ) (j : ℕ) : Type 0 where
  pub list : length (take (list_length l bytes (fields_place l bytes j))
      (drop (list_place l bytes j) bytes)) ≡ list_length l bytes (fields_place l bytes j)
  pub header : length (take (header_length bytes (fields_place l bytes j))
      (drop (header_place l bytes j) bytes)) ≡ header_length bytes (fields_place l bytes j)
  pub streams : map (λ (s : List ℕ). length s)
      (parted (in_records length_from l bytes (fields_place l bytes j)) (drop (streams_place l bytes j) bytes))
      ≡ in_records length_from l bytes (fields_place l bytes j)

pub trailer_ends : (l : Layout) (versions : List Version) (bytes : List ℕ) → IsEarly l versions bytes
    → trailer_place l bytes + trailer_length l bytes ≤ length bytes
trailer_ends l versions bytes early =
    let z : scans_in l bytes ≡ 0 + scans_in l bytes = omega arith in
    let up = streams_up l bytes 0 (scans_in l bytes) (scans_in l bytes) z in
    let ends = early.ends in
    omega (arith, up, ends)

pub trailer_long : (l : Layout) (versions : List Version) (bytes : List ℕ) → IsEarly l versions bytes
    → length (trailer_in l bytes) ≡ trailer_length l bytes
trailer_long l versions bytes early =
    let ends = trailer_ends l versions bytes early in
    length-take-le (trailer_length l bytes) (drop (trailer_place l bytes) bytes)
    (omega (arith, ends, length-drop (trailer_place l bytes) bytes))

pub lengths_at : (l : Layout) (versions : List Version) (bytes : List ℕ) (j n : ℕ) → IsEarly l versions bytes → scans_in l bytes ≡ j + 1 + n
    → HasLengths l bytes j
lengths_at l versions bytes j n early e =
    let place = fields_place l bytes j in
    let here = list_up l bytes (j + 1) (scans_in l bytes) n e in
    let next = next_list l bytes j in
    let last = trailer_ends l versions bytes early in
    let there = streams_up l bytes (j + 1) (scans_in l bytes) n e in
    let after = next_streams l bytes j in
    let ends = early.ends in
    let all : list_place l bytes j + list_length l bytes place + header_length bytes place
    ≤ length bytes = omega (arith, here, next, last) in
    let streams : streams_place l bytes j + sum (in_records length_from l bytes place) ≤ length bytes =
    omega (arith, there, after, ends) in
    record {
      list = length-take-le (list_length l bytes place) (drop (list_place l bytes j) bytes)
          (omega (arith, all, length-drop (list_place l bytes j) bytes));
      header = length-take-le (header_length bytes place) (drop (header_place l bytes j) bytes)
          (omega (arith, all, length-drop (header_place l bytes j) bytes));
      streams = parted_lengths (in_records length_from l bytes place) (drop (streams_place l bytes j) bytes)
          (omega (arith, streams, length-drop (streams_place l bytes j) bytes));
    }
