-- The bytes and the outcomes that the board of a stretch is for.
use Rattle.std.proofs.Common.{◌≡◌, ℕ, ◌+◌, ◌-◌, ◌^◌, ◌<◌, ◌≤◌, Bool, true, false, if◌then◌else◌, List, [], ◌∷◌, length, get_or, refl, sym, ap, subst, ◌∙◌, arith, length-append, Some, None, ⊎_elim}
use Rattle.std.specs.Prelude.{◌==◌, ◌&&◌, slice_get}
use Rattle.std.proofs.lemmas.Bool.{cases_lt, lt-ltb, le-ltb}
use Rattle.std.proofs.lemmas.List.FromFn.{length-map-range_with_len, get_or-map-range_with_len}
use Rattle.jpeg_marker.specs.Walks.{Walk, next_walk}
use Rattle.jpeg_marker.specs.FirstWalks.{opening_walk}
use Rattle.handover.specs.PadSums.{no_pads}
use Rattle.handover.specs.declared.outcome.Outcome.{Outcome}
use Rattle.handover.specs.declared.outcome.Outcome.TheVariants.{Good}
use Rattle.board_core.specs.BoardInvariants.{bytes_at}
use Rattle.box_format.specs.Parts.{IsScanBox, BoxSeen}
use Rattle.box_format.specs.Containers.{AreBoxes, IsContainer}
use Rattle.container_spec.specs.ScansMeanings.{lead_of, led_output, output_from, output_at}
use Rattle.container_spec.specs.Segments.{Output, segment_output}
use Rattle.container_spec.specs.Meanings.{segment_in}
use Rattle.container_spec.proofs.Numbered.{got_at, got_none}
use Rattle.container_spec.proofs.ShortSegments.{segment_is_short}
use Rattle.segment_worker.specs.Contents.{Stretch, segments_bytes, segments_outcomes, segment_room, AreShort}
use Rattle.segment_worker.proofs.Tails.{mapped_twice, past_end}

-- the bytes and the outcome of the container's segment with a number
abbrev pub output_in : Stretch → ℕ → Output
output_in v n = output_at v.container n

-- of the stretch's segment with an index
abbrev pub output_of : Stretch → ℕ → Output
output_of v i = output_in v (v.first + i)

-- there are as many as segments
pub bytes_long : (v : Stretch) → length (segments_bytes v) ≡ v.count
bytes_long v =
    ap length (mapped_twice (λ (o : Output). o.0) (output_in v) v.first v.count)
    ∙ length-map-range_with_len (λ i. (output_in v i).0) v.first v.count

pub outcomes_long : (v : Stretch) → length (segments_outcomes v) ≡ v.count
outcomes_long v =
    ap length (mapped_twice (λ (o : Output). o.1) (output_in v) v.first v.count)
    ∙ length-map-range_with_len (λ i. (output_in v i).1) v.first v.count

-- each is its segment's
pub bytes_of : (v : Stretch) (i : ℕ) → i < v.count
    → bytes_at (segments_bytes v) i ≡ (output_of v i).0
bytes_of v i within =
    ap (λ (xs : List (List ℕ)). get_or xs i [])
    (mapped_twice (λ (o : Output). o.0) (output_in v) v.first v.count)
    ∙ get_or-map-range_with_len (λ i. (output_in v i).0) v.first v.count i (v.first + i) [] within refl

pub outcome_of : (v : Stretch) (i : ℕ) → i < v.count
    → slice_get (segments_outcomes v) i ≡ Some (output_of v i).1
outcome_of v i within =
    let long = outcomes_long v in
    got_at (segments_outcomes v) i (Good no_pads) (omega (arith, long, within))
    ∙ ap (λ (o : Outcome). Some o)
    (ap (λ (xs : List Outcome). get_or xs i (Good no_pads))
    (mapped_twice (λ (o : Output). o.1) (output_in v) v.first v.count)
    ∙ get_or-map-range_with_len (λ i. (output_in v i).1) v.first v.count i (v.first + i) (Good no_pads) within refl)

-- an outcome is a segment's
pub outcome_within : (v : Stretch) (i : ℕ) (o : Outcome) → slice_get (segments_outcomes v) i ≡ Some o
    → i < v.count
outcome_within v i o is =
    ⊎_elim (λ (within : i < v.count). within)
    (λ (past : v.count ≤ i).
    let long = outcomes_long v in
    let none = got_none (segments_outcomes v) i (omega (arith, long, past)) in
    absurd (let e : None ≡ Some o = sym none ∙ is in cc))
    (cases_lt i v.count)

-- ---- how long they are

-- each of these has the parts of a scan
abbrev pub AreScans : List BoxSeen → Type 0
AreScans [] = Unit {0}
AreScans (s ∷ scans) = IsScanBox s.plan s.parts × AreScans scans

boxes_are : (w : Walk) (scans : List BoxSeen) → AreBoxes w scans → AreScans scans
boxes_are w [] are = absurd are
boxes_are w (s ∷ []) are = ((w, are.0), tt)
boxes_are w (s ∷ t ∷ scans) are =
    ((w, are.0), boxes_are (next_walk s.plan.known 0) (t ∷ scans) are.3)

-- those of a container have
pub scans_are : (scans : List BoxSeen) (bytes : List ℕ) → IsContainer scans bytes → AreScans scans
scans_are scans bytes is = boxes_are opening_walk scans is.1.are.each

few_if : (test : Bool) (header : List ℕ) → length header < 2 ^ 32
    → length (if test then header else []) ≤ 2 ^ 32
few_if true header few = omega (arith, few)
few_if false header few = omega arith

-- a scan's segment is short, with the header that may come before it
led_short : (later : Bool) (first : ℕ) (s : BoxSeen) (i : ℕ) → IsScanBox s.plan s.parts
    → i < length s.parts.handovers → length (led_output later first s i).0 ≤ segment_room
led_short later first s i is within =
    let own : List ℕ = (segment_output (segment_in s.plan s.parts i)).0 in
    let short = segment_is_short is.0 s.plan s.parts i is.1 within in
    let few = few_if (later && i == 0) s.parts.header is.1.header_fits in
    let long = length-append (lead_of later s.parts.header i) own in
    omega (arith, short, few, long)

-- so is each segment of several scans; past the last one there is no byte
output_short : (later : Bool) (first : ℕ) (scans : List BoxSeen) (i : ℕ) → AreScans scans
    → length (output_from later first scans i).0 ≤ segment_room
output_short later first [] i are = omega arith
output_short later first (s ∷ scans) i are =
    let count : ℕ = length s.parts.handovers in
    let by : Bool → Output =
    λ t. if t then led_output later first s i else output_from true (first + count) scans (i - count) in
    ⊎_elim (λ (within : i < count).
    subst (λ (t : Bool). length (by t).0 ≤ segment_room) (sym (lt-ltb i count within))
    (led_short later first s i are.0 within))
    (λ (past : count ≤ i).
    subst (λ (t : Bool). length (by t).0 ≤ segment_room) (sym (le-ltb i count past))
    (output_short true (first + count) scans (i - count) are.1))
    (cases_lt i count)

-- none is long
pub are_short : (v : Stretch) → AreScans v.container → AreShort v
are_short v are i =
    ⊎_elim (λ (within : i < v.count).
    subst (λ (xs : List ℕ). length xs ≤ segment_room) (sym (bytes_of v i within))
    (output_short false 0 v.container (v.first + i) are))
    (λ (past : v.count ≤ i).
    let long = bytes_long v in
    let none = ap length (past_end (segments_bytes v) i (omega (arith, long, past))) in
    omega (arith, none))
    (cases_lt i v.count)
