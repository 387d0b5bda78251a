-- A segment of a scan stands for its slice of the scan.
use Rattle.std.proofs.Common.{◌≡◌, ℕ, ◌-◌, ◌≤◌, Bool, true, false, if◌then◌else◌, List, [], ◌∷◌, length, take, drop, Ok, Option, Some, None, refl, sym, ap, ap₂, ◌∙◌, arith, append-nil, zero-add}
use Rattle.std.specs.Prelude.{bytes_eq}
use Rattle.std.specs.List.{AllByRecursion}
use Rattle.std.proofs.lemmas.List.{length-take-le, length-drop}
use Rattle.std.proofs.lemmas.Slice.Eq.{bytes_eq-Decides}
use Rattle.coef_block.specs.Block.{IsBlock}
use Rattle.huff_table.proofs.Pairs.{all-append}
use Rattle.scan_spec.specs.Pads.{PadBits, bit_for}
use Rattle.scan_spec.specs.Scans.{Mcu, IsMcu, AreMcus, scan_bytes}
use Rattle.scan_spec.specs.ScanLaws.{IsShape}
use Rattle.scan_spec.specs.Slots.{Shape}
use Rattle.scan_spec.specs.Spots.{first_spot, bytes_done, spot_at}
use Rattle.scan_spec.specs.declared.slot.Slot.{Slot}
use Rattle.scan_spec.proofs.DoneBytes.{done_in_parts}
use Rattle.handover.specs.Handovers.{HandoverFields}
use Rattle.handover.specs.HandoverBytes.{handover_bytes}
use Rattle.handover.specs.PadSums.{no_pads, pads_with}
use Rattle.handover.specs.declared.pads.PadSum.{PadSum}
use Rattle.handover.specs.declared.outcome.Outcome.TheVariants.{Good}
use Rattle.handover.specs.declared.outcome.StreamCause.TheVariants.{Seam, StreamBad}
use Rattle.cut_spec.specs.RowHandovers.{handover_of, handover_at, spot_of, segment_bytes, mcus_between}
use Rattle.cut_spec.proofs.Slices.{each_slice}
use Rattle.cut_spec.proofs.SpotsBegun.{handover_is_spot, spots_are_begun}
use Rattle.block_spec.specs.Grid.{Grid}
use Rattle.container_spec.specs.ScanStream.{blocks_of, blocks_stream, starts}
use Rattle.container_spec.specs.Segments.{SegmentFields, Progress, Output, first_progress, stopped, with_prefix, stream_ending, seam_ending, ending, mcus_output, rest_output, with_place, segment_output}
use Rattle.container_spec.specs.SegmentLaws.{Suits, AreKept, IsNextStart, SegmentIsItsSlice, segment_between, progress_through, mcus_sum}
use Rattle.container_spec.proofs.StreamsOfBlocks.{blocks_stream_starts, stream_gives}
use Rattle.container_spec.proofs.McusPut.{mcus_are_put}
use Rattle.container_spec.proofs.PlacesKept.{all_kept, place_is_good}
use Rattle.box_format.proofs.ByteParts.{all_drop, all_take}

-- ---- lists

-- the blocks of MCUs
pub blocks_are : (slots : List Slot) (mcus : List Mcu) → AllByRecursion (IsMcu slots) mcus
    → AllByRecursion IsBlock (blocks_of mcus)
blocks_are slots [] h = tt
blocks_are slots (mcu ∷ mcus) h =
    all-append IsBlock mcu (blocks_of mcus) h.0.1 (blocks_are slots mcus h.1)

pub between_are : (slots : List Slot) (mcus : List Mcu) (from to : ℕ)
    → AllByRecursion (IsMcu slots) mcus → AllByRecursion (IsMcu slots) (mcus_between mcus from to)
between_are slots mcus from to each =
    all_take (IsMcu slots) (to - from) (drop from mcus) (all_drop (IsMcu slots) from mcus each)

pub between_long : (mcus : List Mcu) (from to : ℕ) → from ≤ to → to ≤ length mcus
    → length (mcus_between mcus from to) ≡ to - from
between_long mcus from to order within =
    let d = length-drop from mcus in
    length-take-le (to - from) (drop from mcus) (omega (arith, d, order, within))

-- ---- handovers

-- what is handed over is where a scan's first MCUs leave off
pub spot_again : (shape : Shape) (pads : ℕ → Bool) (mcus : List Mcu) (scan : List ℕ) (n : ℕ)
    → IsShape shape → AreMcus shape mcus → scan_bytes shape pads mcus ≡ Ok scan
    → n ≤ shape.mcus → spot_of (handover_at shape pads mcus n) n ≡ spot_at shape pads mcus n
spot_again shape pads mcus scan n is are text within =
    let at = spot_at shape pads mcus n in
    let put = (done_in_parts shape pads mcus scan n is are text).0 in
    let begun = spots_are_begun shape pads (take n mcus) first_spot at
    (take (bytes_done shape pads mcus n) scan) (omega arith) put in
    let long : n ≤ length mcus = (let m = are.count in omega (arith, m, within)) in
    let count : at.count ≡ n =
    begun.1 ∙ zero-add (length (take n mcus)) ∙ length-take-le n mcus long in
    ap (spot_of (handover_of shape at)) (sym count) ∙ handover_is_spot shape at begun.0

-- ---- endings

pub opened : (t : Bool) (a b : Output) → t ≡ true → (if t then a else b) ≡ a
opened true a b h = refl
opened false a b h = absurd (let e : false ≡ true = h in cc)

same_bytes : (a b : List ℕ) → a ≡ b → bytes_eq a b ≡ true
same_bytes a b e = (bytes_eq-Decides a b).1 e

good_stream : (s : SegmentFields) (at : Progress) → blocks_stream s.grid at.blocks ≡ s.stream
    → stream_ending s at ≡ ([], Good at.padded)
good_stream s at is =
    opened (bytes_eq (blocks_stream s.grid at.blocks) s.stream) ([], Good at.padded)
    (stopped s StreamBad) (same_bytes (blocks_stream s.grid at.blocks) s.stream is)

good_by : (s : SegmentFields) (at : Progress) (shape : Shape) (pads : ℕ → Bool) (mcus : List Mcu)
    (to : ℕ) (next : Option HandoverFields) → IsNextStart shape pads mcus to next
    → blocks_stream s.grid at.blocks ≡ s.stream
    → seam_ending s at (handover_at shape pads mcus to) next ≡ ([], Good at.padded)
good_by s at shape pads mcus to None following is = good_stream s at is
good_by s at shape pads mcus to (Some kept) following is =
    let found = handover_at shape pads mcus to in
    opened (bytes_eq (handover_bytes found) (handover_bytes kept)) (stream_ending s at)
    (stopped s (Seam found kept))
    (same_bytes (handover_bytes found) (handover_bytes kept) (ap handover_bytes (sym following)))
    ∙ good_stream s at is

good_ending : (s : SegmentFields) (at : Progress) (pads : ℕ → Bool) (mcus : List Mcu) (to : ℕ)
    → at.spot ≡ spot_at s.shape pads mcus to → IsNextStart s.shape pads mcus to s.next
    → blocks_stream s.grid at.blocks ≡ s.stream → ending s at ≡ ([], Good at.padded)
unfolding ending
good_ending s at pads mcus to spot following is =
    ap (λ p. seam_ending s at (handover_of s.shape p) s.next) spot
    ∙ good_by s at s.shape pads mcus to s.next following is

-- ---- a segment

-- what a segment pads
abbrev pub slice_sum : Shape → PadBits → List Mcu → ℕ → ℕ → PadSum
slice_sum shape pads mcus from to =
    mcus_sum shape pads (spot_at shape (bit_for pads) mcus from) (mcus_between mcus from to)

-- nothing was padded before
none_before : (a : PadSum) → pads_with no_pads a ≡ a
none_before a = refl

pub slice_output : (shape : Shape) (grid : Grid) (pads : PadBits) (mcus : List Mcu)
    (scan : List ℕ) (number from to : ℕ) (next : Option HandoverFields) (kept : Option ℕ)
    → Suits shape grid
    → AreMcus shape mcus → scan_bytes shape (bit_for pads) mcus ≡ Ok scan → from ≤ to
    → to ≤ shape.mcus → IsNextStart shape (bit_for pads) mcus to next
    → AreKept (segment_bytes shape (bit_for pads) mcus scan from to) kept
    → segment_output (segment_between shape grid pads mcus number from to
    (handover_at shape (bit_for pads) mcus from) next kept)
    ≡ (
      segment_bytes shape (bit_for pads) mcus scan from to,
      Good (slice_sum shape pads mcus from to),
    )
slice_output shape grid pads mcus scan number from to next kept suits are text order within
    following places =
    let bits = bit_for pads in
    let start = handover_at shape bits mcus from in
    let s : SegmentFields = segment_between shape grid pads mcus number from to start next kept in
    let between = mcus_between mcus from to in
    let bytes = segment_bytes shape bits mcus scan from to in
    let end = spot_at shape bits mcus to in
    let long : to ≤ length mcus = (let m = are.count in omega (arith, m, within)) in
    let each = between_are shape.slots mcus from to are.each in
    let have =
    stream_gives grid (blocks_of between) suits.grid_is (blocks_are shape.slots between each) in
    let put = each_slice shape bits mcus scan from to suits.shape_is are text order within in
    let at : Progress = progress_through s (first_progress s) between end in
    let first : spot_of start from ≡ spot_at shape bits mcus from =
    spot_again shape bits mcus scan from suits.shape_is are text (omega (arith, order, within)) in
    let rest : rest_output (to - from) s (first_progress s)
    ≡ (bytes, Good (slice_sum shape pads mcus from to)) =
    opened (starts s.stream) (mcus_output (to - from) s (first_progress s)) (stopped s StreamBad)
    (blocks_stream_starts grid (blocks_of between))
    ∙ ap (λ n. mcus_output n s (first_progress s)) (sym (between_long mcus from to order long))
    ∙ mcus_are_put s (first_progress s) between bytes end have each put
    ∙ ap (with_prefix bytes) (good_ending s at bits mcus to refl following refl)
    ∙ ap₂ (λ (l : List ℕ) (p : PadSum). let o : Output = (l, Good p) in o) (append-nil bytes)
    (none_before (mcus_sum shape pads (spot_of start from) between)
    ∙ ap (λ spot. mcus_sum shape pads spot between) first) in
    ap (with_place s 0) rest
    ∙ place_is_good s 0 bytes (slice_sum shape pads mcus from to) (all_kept bytes kept places)

pub segment_is_its_slice : SegmentIsItsSlice
segment_is_its_slice shape grid pads mcus scan number from to next kept suits are text order within
    next_is places = (
      slice_sum shape pads mcus from to,
      slice_output shape grid pads mcus scan number from to next kept suits are text order within
          next_is places,
    )
