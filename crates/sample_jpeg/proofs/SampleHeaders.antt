-- The header of a sample is one that is taken, and what it says.
use Rattle.std.proofs.Common.{◌≡◌, ℕ, ◌+◌, ◌*◌, ◌/◌, ◌^◌, ◌<◌, ◌≤◌, Bool, true, false, List, [], ◌∷◌, ◌++◌, length, flat_map, refl, ap, ap₂, ◌∙◌, arith, zero-add}
use Rattle.std.specs.Option.{option_or}
use Rattle.std.specs.Prelude.{◌==◌, ◌||◌, nat_lt, Option, Some, None, if◌then◌else◌}
use Rattle.std.specs.List.{AllByRecursion, list_all}
use Rattle.std.proofs.lemmas.Bool.{and_parts, ltb-true}
use Rattle.std.proofs.lemmas.Bool.Decides.{nat_tests}
use Rattle.bit_list.specs.Bits.{IsByte}
use Rattle.huff_table.proofs.Pairs.{all-append}
use Rattle.jpeg_marker.specs.declared.refusal.HeaderRefusal.{HeaderRefusal}
use Rattle.jpeg_marker.specs.declared.refusal.HeaderRefusal.TheVariants.{SizeZero, TooManyBlocks}
use Rattle.jpeg_marker.specs.Walks.{Walk}
use Rattle.jpeg_marker.specs.FirstWalks.{only_walk}
use Rattle.jpeg_marker.specs.HeaderPlan.{Accepts, plan_of}
use Rattle.jpeg_marker.specs.MarkerSegments.{Segment, is_known, number_at, segment_text, two_bytes}
use Rattle.jpeg_marker.specs.Plans.{PlanFields, most_blocks}
use Rattle.jpeg_marker.specs.GoodSegments.{ArePassed, IsGood, fault_of, length_place}
use Rattle.sample_jpeg.specs.declared.extent.Extent.{Extent}
use Rattle.sample_jpeg.specs.SampleHeader.{IsExtent, sample_header, sample_plan, sample_known, sample_component, segments_before, segment, frame_segment, table_segment, scan_segment, dc_table, ac_table}

-- the walk over the header of a file of one scan
abbrev one : Walk
one = only_walk

-- a segment that passes these tests
good : (before : List Segment) (s : Segment) → is_known s.code ≡ true → nat_lt (length s.body + 2) (2 ^ 16) ≡ true
    → fault_of one before (length_place one before s) s ≡ None → IsGood one before s
good before s known fits checked =
    record { whole = record { known = known; fits = ltb-true _ _ fits }; checked = checked }

-- two bytes are the number that they spell
number_again : (n : ℕ) → number_at (two_bytes n) ≡ n
number_again n = omega arith

-- how many blocks these bytes say, in samples, that a picture has in one direction
abbrev blocks_again : ℕ → ℕ
blocks_again n = (number_at (two_bytes (8 * n)) + 7) / 8

-- it is what they were made of
cover_again : (n : ℕ) → blocks_again n ≡ n
cover_again n = omega arith

-- neither of two sizes is zero
some_size : (x y : ℕ) → 1 ≤ x → 1 ≤ y → (x == 0 || y == 0) ≡ false
some_size x y p q = grind (arith, nat_tests)

-- what the frame's sizes are checked for
abbrev size_fault : Bool → Option HeaderRefusal
size_fault is_zero = option_or (if is_zero then Some SizeZero else None) None

-- the frame passes
frame_checked : (e : Extent) → IsExtent e
    → fault_of one [] (length_place one [] (frame_segment e)) (frame_segment e) ≡ None
frame_checked e is =
    let high : 1 ≤ number_at (two_bytes (8 * e.rows)) = let h = is.high in omega arith in
    let wide : 1 ≤ number_at (two_bytes (8 * e.columns)) = let w = is.wide in omega arith in
    ap size_fault (some_size _ _ high wide)

-- there are at most 256 by 256 blocks of each component, which are few enough
small_product : (x y : ℕ) → x ≤ 256 → y ≤ 256 → x * y * 3 ≤ 4194304
small_product x y p q = grind arith

few_blocks : (x y : ℕ) → x ≤ 256 → y ≤ 256 → nat_lt most_blocks (0 + x * y * 3) ≡ false
few_blocks x y p q = let h = small_product x y p q in grind (arith, nat_tests)

-- what the number of blocks is checked for
abbrev block_fault : Bool → Option HeaderRefusal
block_fault is_large = option_or None (option_or None (if is_large then Some TooManyBlocks else None))

-- the scan passes after such a frame and the tables
scan_checked : (columns rows : ℕ) → columns ≤ 256 → rows ≤ 256
    → block_fault (nat_lt most_blocks (0 + blocks_again columns * blocks_again rows * 3)) ≡ None
scan_checked columns rows narrow low =
    ap₂ (λ (across down : ℕ). block_fault (nat_lt most_blocks (0 + across * down * 3)))
    (cover_again columns) (cover_again rows)
    ∙ ap block_fault (few_blocks columns rows narrow low)

-- an extent by its numbers
abbrev extent : Bool → ℕ → ℕ → Extent
extent restarts columns rows = record { restarts = restarts; columns = columns; rows = rows }

-- the segments before the scan's pass, with an interval or without one
passed_at : (restarts : Bool) (columns rows : ℕ) → IsExtent (extent restarts columns rows)
    → ArePassed one (segments_before (extent restarts columns rows))
passed_at true columns rows is = record {
  good = (
    good _ _ refl refl (frame_checked (extent true columns rows) is),
    (good _ _ refl refl refl, (good _ _ refl refl refl, (good _ _ refl refl refl, tt))),
  );
  no_scan = (refl, (refl, (refl, (refl, tt))));
}
passed_at false columns rows is = record {
  good = (
    good _ _ refl refl (frame_checked (extent false columns rows) is),
    (good _ _ refl refl refl, (good _ _ refl refl refl, tt)),
  );
  no_scan = (refl, (refl, (refl, tt)));
}

-- and the scan's passes after them
scan_good : (restarts : Bool) (columns rows : ℕ) → IsExtent (extent restarts columns rows)
    → IsGood one (segments_before (extent restarts columns rows)) scan_segment
scan_good true columns rows is = good _ _ refl refl (scan_checked columns rows is.narrow is.low)
scan_good false columns rows is = good _ _ refl refl (scan_checked columns rows is.narrow is.low)

-- a plan of these numbers
abbrev plan_by : ℕ → ℕ → ℕ → ℕ → ℕ → ℕ → ℕ → PlanFields
plan_by header_length interval across down height width total = record {
  components = sample_component 0 ∷ sample_component 1 ∷ sample_component 2 ∷ [];
  across = across;
  down = down;
  interval = interval;
  header_length = header_length;
  blocks = across * down * 3;
  known = sample_known height width interval total;
}

-- the sizes that the frame says, and the blocks in all
said_again : (whole interval columns rows : ℕ)
    → Some (plan_by whole interval columns rows (number_at (two_bytes (8 * rows))) (number_at (two_bytes (8 * columns))) (0 + columns * rows * 3))
    ≡ Some (plan_by whole interval columns rows (8 * rows) (8 * columns) (columns * rows * 3))
said_again whole interval columns rows =
    ap₂ (λ (high wide : ℕ). Some (plan_by whole interval columns rows high wide (0 + columns * rows * 3))) (number_again (8 * rows)) (number_again (8 * columns))
    ∙ ap (λ (total : ℕ). Some (plan_by whole interval columns rows (8 * rows) (8 * columns) total)) (zero-add (columns * rows * 3))

-- what the header says
says_at : (restarts : Bool) (columns rows : ℕ) → plan_of one (segments_before (extent restarts columns rows)) scan_segment
    ≡ Some (sample_plan (extent restarts columns rows))
unfolding sample_header
says_at true columns rows =
    let whole = length (sample_header (extent true columns rows)) in
    let high = number_at (two_bytes (8 * rows)) in
    let wide = number_at (two_bytes (8 * columns)) in
    ap₂ (λ (across down : ℕ). Some (plan_by whole (number_at (two_bytes columns)) across down high wide (0 + across * down * 3)))
    (cover_again columns) (cover_again rows)
    ∙ ap (λ (interval : ℕ). Some (plan_by whole interval columns rows high wide (0 + columns * rows * 3))) (number_again columns)
    ∙ said_again whole columns columns rows
says_at false columns rows =
    let whole = length (sample_header (extent false columns rows)) in
    let high = number_at (two_bytes (8 * rows)) in
    let wide = number_at (two_bytes (8 * columns)) in
    ap₂ (λ (across down : ℕ). Some (plan_by whole 0 across down high wide (0 + across * down * 3))) (cover_again columns) (cover_again rows)
    ∙ said_again whole 0 columns rows

-- it is taken, whatever follows, and says what the plan has
pub sample_accepts : (e : Extent) (rest : List ℕ) → IsExtent e → Accepts (sample_header e ++ rest) (sample_plan e)
unfolding sample_header
sample_accepts e rest is = record {
  before = segments_before e;
  scan = scan_segment;
  rest = rest;
  header = record {
    passed = passed_at e.restarts e.columns e.rows is;
    good = scan_good e.restarts e.columns e.rows is;
    last = refl;
  };
  text = refl;
  says = says_at e.restarts e.columns e.rows;
}

-- bytes that pass a test
are_bytes : (xs : List ℕ) → list_all (λ x. nat_lt x 256) xs ≡ true → AllByRecursion IsByte xs
are_bytes [] all = tt
are_bytes (x ∷ xs) all =
    let both = and_parts (nat_lt x 256) (list_all (λ x. nat_lt x 256) xs) all in
    (ltb-true x 256 both.0, are_bytes xs both.1)

-- two bytes of a number that fits them, before others
two_before : (n : ℕ) (xs : List ℕ) → n < 2 ^ 16 → AllByRecursion IsByte xs → AllByRecursion IsByte (two_bytes n ++ xs)
two_before n xs fits rest = (omega arith, (omega arith, rest))

-- segments whose texts are bytes
abbrev AreTexts : List Segment → Type 0
AreTexts segments = AllByRecursion (λ s. AllByRecursion IsByte (segment_text s)) segments

-- one after another
texts_bytes : (segments : List Segment) → AreTexts segments → AllByRecursion IsByte (flat_map segment_text segments)
texts_bytes [] all = tt
texts_bytes (s ∷ segments) all =
    all-append IsByte (segment_text s) (flat_map segment_text segments) all.0 (texts_bytes segments all.1)

-- what stands before the frame's sizes, and after them
abbrev frame_front : List ℕ
frame_front = 0xff ∷ 0xc0 ∷ 0 ∷ 17 ∷ 8 ∷ []

abbrev frame_back : List ℕ
frame_back = 3 ∷ 1 ∷ 0x11 ∷ 0 ∷ 2 ∷ 0x11 ∷ 0 ∷ 3 ∷ 0x11 ∷ 0 ∷ []

-- the frame's text is bytes
frame_bytes : (e : Extent) → IsExtent e → AllByRecursion IsByte (segment_text (frame_segment e))
frame_bytes e is =
    let high : 8 * e.rows < 2 ^ 16 = let l = is.low in omega arith in
    let wide : 8 * e.columns < 2 ^ 16 = let l = is.narrow in omega arith in
    let back = two_before (8 * e.columns) frame_back wide (are_bytes frame_back refl) in
    let sizes = two_before (8 * e.rows) (two_bytes (8 * e.columns) ++ frame_back) high back in
    all-append IsByte frame_front (two_bytes (8 * e.rows) ++ (two_bytes (8 * e.columns) ++ frame_back))
    (are_bytes frame_front refl) sizes

-- what stands before an interval
abbrev interval_front : List ℕ
interval_front = 0xff ∷ 0xdd ∷ 0 ∷ 4 ∷ []

-- and that of an interval
interval_bytes : (columns : ℕ) → columns ≤ 256
    → AllByRecursion IsByte (segment_text (segment 0xdd (two_bytes columns)))
interval_bytes columns narrow =
    all-append IsByte interval_front (two_bytes columns) (are_bytes interval_front refl)
    (two_before columns [] (omega arith) tt)

-- the tables and the scan's segment are bytes, where what stands between them is
tables_texts : (between : List Segment) → AreTexts (between ++ scan_segment ∷ [])
    → AreTexts (table_segment 0x00 dc_table ∷ table_segment 0x10 ac_table ∷ between ++ scan_segment ∷ [])
tables_texts between all = (
  are_bytes (segment_text (table_segment 0x00 dc_table)) refl,
  (are_bytes (segment_text (table_segment 0x10 ac_table)) refl, all),
)

-- the scan's segment is bytes
scan_texts : AreTexts (scan_segment ∷ [])
scan_texts = (are_bytes (segment_text scan_segment) refl, tt)

-- each segment is bytes
segments_texts : (restarts : Bool) (columns rows : ℕ) → IsExtent (extent restarts columns rows)
    → AreTexts (segments_before (extent restarts columns rows) ++ scan_segment ∷ [])
segments_texts true columns rows is = (
  frame_bytes (extent true columns rows) is,
  tables_texts (segment 0xdd (two_bytes columns) ∷ []) (interval_bytes columns is.narrow, scan_texts),
)
segments_texts false columns rows is =
    (frame_bytes (extent false columns rows) is, tables_texts [] scan_texts)

-- and so is the header
pub sample_header_bytes : (e : Extent) → IsExtent e → AllByRecursion IsByte (sample_header e)
unfolding sample_header
sample_header_bytes e is = (
  omega arith,
  (
    omega arith,
    texts_bytes (segments_before e ++ scan_segment ∷ [])
        (segments_texts e.restarts e.columns e.rows is),
  ),
)
