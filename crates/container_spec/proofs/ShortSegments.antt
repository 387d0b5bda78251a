-- How many bytes a segment of a container can have.
use Rattle.std.proofs.Common.{◌≡◌, ℕ, zero, suc, ◌+◌, ◌*◌, ◌^◌, ◌<◌, ◌≤◌, List, length, take, Result, Ok, Err, Option, Some, None, refl, sym, subst, arith, length-append}
use Rattle.std.specs.Prelude.{bytes_eq}
use Rattle.std.proofs.Math.Nat.{mul-le-mul_left}
use Rattle.std.proofs.lemmas.List.{length-take}
use Rattle.std.proofs.lemmas.List.Elements.{All-from_recursion}
use Rattle.bit_list.specs.Bits.{low_bits}
use Rattle.jpeg_marker.proofs.HeadersTaken.{begun_has_plan}
use Rattle.jpeg_marker.proofs.PlanGrids.{few_mcus}
use Rattle.scan_spec.specs.Pads.{bit_for}
use Rattle.scan_spec.proofs.PlanShapes.{begun_is_shape}
use Rattle.handover.specs.Handovers.{HandoverFields, IsHandover, start}
use Rattle.handover.specs.HandoverBytes.{handover_bytes}
use Rattle.handover.specs.declared.outcome.StreamCause.{StreamCause}
use Rattle.cut_spec.specs.RowHandovers.{handover_of}
use Rattle.scan_spec.specs.TextBounds.{mcu_room}
use Rattle.block_spec.specs.ReadingLaws.{HaveGiven}
use Rattle.container_spec.specs.ScanStream.{blocks_stream, starts}
use Rattle.container_spec.specs.Segments.{SegmentFields, Progress, Output, first_progress, progress_after, stream_ending, seam_ending, ending, after_step, mcu_step, mcus_output, rest_output}
use Rattle.box_format.specs.Parts.{box_cut}
use Rattle.box_format.proofs.OneCuts.{ordered, in_grid}
use Rattle.container_spec.specs.Meanings.{segment_in}
use Rattle.container_spec.specs.MeaningLaws.{SegmentIsShort}
use Rattle.container_spec.proofs.CutsOfPlans.{mcus_within}
use Rattle.container_spec.proofs.GoodSegments.{stepped}
use Rattle.container_spec.proofs.McuSizes.{IsSmall, either, mcu_fits}
use Rattle.container_spec.proofs.PlacesKept.{place_keeps_bytes}
use Rattle.container_spec.proofs.PlanGrids.{plan_suits}
use Rattle.container_spec.proofs.ReachedSegments.{none_given}

-- ---- all MCUs

-- no bytes come after the last MCU
abbrev HasNone : Output → Type 0
HasNone output = length output.0 ≡ 0

stream_ending_none : (s : SegmentFields) (at : Progress) → HasNone (stream_ending s at)
stream_ending_none s at =
    either HasNone (bytes_eq (blocks_stream s.grid at.blocks) s.stream) _ _ refl refl

ending_none : (s : SegmentFields) (at : Progress) (found : HandoverFields)
    (next : Option HandoverFields) → HasNone (seam_ending s at found next)
ending_none s at found None = stream_ending_none s at
ending_none s at found (Some kept) =
    either HasNone (bytes_eq (handover_bytes found) (handover_bytes kept)) _ _
    (stream_ending_none s at) refl

-- room for each of so many MCUs is enough
abbrev IsShort : ℕ → Output → Type 0
IsShort left output = length output.0 ≤ mcu_room * left

-- the next MCU and those after it
step_short : (left : ℕ) (s : SegmentFields) (at : Progress)
    (r : Result (List ℕ × Progress) StreamCause) → IsSmall s.shape
    → HaveGiven s.grid s.stream at.blocks → length at.spot.begun < 8
    → ((next : Progress) → HaveGiven s.grid s.stream next.blocks → length next.spot.begun < 8
    → IsShort left (mcus_output left s next))
    → mcu_step s at ≡ r → IsShort (suc left) (after_step s r (λ next. mcus_output left s next))
step_short left s at (Err cause) small have begun again e = omega arith
step_short left s at (Ok made) small have begun again e =
    let m = stepped s at made.0 made.1 have e in
    let fits =
    mcu_fits s.shape (bit_for s.pads) at.spot m.mcu (made.0, m.spot) small m.is begun m.put in
    let more = subst (λ (p : Progress). IsShort left (mcus_output left s p)) m.at_next
    (again (progress_after s at m.mcu m.spot) m.given fits.1) in
    let all = length-append made.0 (mcus_output left s made.1).0 in
    omega (arith, fits.0, more, all)

mcus_short : (left : ℕ) (s : SegmentFields) (at : Progress) → IsSmall s.shape
    → HaveGiven s.grid s.stream at.blocks → length at.spot.begun < 8
    → IsShort left (mcus_output left s at)
unfolding mcus_output ending
mcus_short zero s at small have begun =
    let none = ending_none s at (handover_of s.shape at.spot) s.next in omega (arith, none)
mcus_short (suc left) s at small have begun =
    step_short left s at (mcu_step s at) small have begun
    (λ next given few. mcus_short left s next small given few) refl

-- ---- segments of a container

-- less than a byte is begun where a segment starts
start_few : (h : HandoverFields) → IsHandover h → length (take h.bits (low_bits 8 h.partial)) < 8
start_few h is =
    let long = length-take h.bits (low_bits 8 h.partial) in
    let few = is.few in omega (arith, long, few)

pub segment_is_short : SegmentIsShort
segment_is_short w plan b i box within =
    let has = begun_has_plan w b.header plan box.header_bytes box.known box.header in
    let shape = begun_is_shape w b.header plan box.header_bytes box.known box.header in
    let suits = plan_suits w b.header plan box.header_bytes box.known box.header in
    let s : SegmentFields = segment_in plan b i in
    let kept = All-from_recursion IsHandover b.handovers box.each i start within in
    let each = mcus_short s.count s (first_progress s) (record { is = shape.0; few = shape.1 })
    (none_given s.grid s.stream suits.grid_is) (start_few s.start kept) in
    let cut = box_cut plan b.chunk (length b.handovers) in
    let order = ordered plan b.header b.trailer b.chunk (length b.handovers) box.chunk in
    let last = mcus_within cut (i + 1) order (omega (arith, within)) (omega (arith, within)) in
    let high = mul-le-mul_left plan.across
    (in_grid plan b.header b.trailer b.chunk (length b.handovers) box.chunk) in
    let most = few_mcus plan has.is_plan in
    let output = rest_output s.count s (first_progress s) in
    subst (λ (bytes : List ℕ). length bytes ≤ mcu_room * 2 ^ 32)
    (sym (place_keeps_bytes s 0 output))
    (either (λ (o : Output). length o.0 ≤ mcu_room * 2 ^ 32) (starts s.stream) _ _
    (omega (arith, each, last, high, most)) (omega arith))
