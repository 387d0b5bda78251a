-- Scans whose checks pass are a container's.
use Rattle.std.proofs.Common.{◌≡◌, ◌<◌, ◌+◌, ◌^◌, not, cond, Bool, true, false, ℕ, List, [], ◌∷◌, length, map, refl, ap, ◌∙◌, arith, subst}
use Rattle.std.specs.Prelude.{sum, Option, Some, None, option_map, is_some, IfSome}
use Rattle.std.specs.Bool.{then_some}
use Rattle.std.specs.List.{AllByRecursion}
use Rattle.std.specs.Option.{option_or}
use Rattle.std.proofs.lemmas.Bool.{or_parts, and_parts, false≢true}
use Rattle.bit_list.specs.Bits.{IsByte}
use Rattle.jpeg_marker.specs.Plans.{PlanFields}
use Rattle.jpeg_marker.specs.KnownBefore.{AreKnown}
use Rattle.jpeg_marker.specs.HeaderPlan.{Begins}
use Rattle.jpeg_marker.specs.Walks.{Walk, next_walk}
use Rattle.jpeg_marker.proofs.HeadersTaken.{begun_has_plan, next_known}
use Rattle.scan_spec.specs.Slots.{Shape, shape_of}
use Rattle.scan_spec.specs.FileParts.{is_last}
use Rattle.handover.specs.Handovers.{HandoverFields, IsHandover}
use Rattle.handover.specs.HandoverBytes.{is_handover}
use Rattle.cut_spec.specs.Cuts.{Cut, first_mcu}
use Rattle.box_format.specs.Versions.{layout_of}
use Rattle.box_format.specs.Parts.{BoxParts, BoxSeen, IsBoxIn, ArePlaces, bad_start, can_start, box_cut}
use Rattle.box_format.specs.Raws.{Raw, parts_of}
use Rattle.box_format.specs.Containers.{AreBoxes, all_parts, segment_count}
use Rattle.box_format.specs.Checks.{are_wrong, is_bad_chunk, is_bad_pad, are_bad_places, HeadersPass, are_complete, some_are_wrong, segments_of, scan_fault, scans_fault, boxes_of}
use Rattle.box_format.specs.declared.version.Version.{Version}
use Rattle.box_format.specs.declared.refusal.BoxRefusal.TheVariants.{BoxChunk, BoxPad, HandoverBad, BoxPlaces}
use Rattle.box_format.proofs.PadBytes.{pad_again, list_again, pad_can}
use Rattle.box_format.proofs.PlaceLists.{good_places}
use Rattle.box_format.proofs.OneCuts.{Fits, cut_is, chunk_is_in, ordered}
use Rattle.box_format.proofs.ScansWalked.{HaveTrailer}
use Rattle.box_format.proofs.ScansPlaced.{or_none, check_passes}
use Rattle.box_format.proofs.ScansSpelled.{IsPadded}

-- fields as they can be in bytes, whatever these are
pub record IsPlain (v : Version) (raw : Raw) : Type 0 where
  pub version : raw.version ≡ v
  pub chunked : is_some raw.chunk ≡ (layout_of raw.version).chunked
  pub chunk : IfSome raw.chunk Fits
  pub placed : is_some raw.places ≡ (layout_of raw.version).placed
  pub places : IfSome raw.places (λ ps. (length ps ≡ length raw.handovers + 1)
      × AllByRecursion (λ p. p < 2 ^ 64) ps)
  pub streams : length raw.streams ≡ length raw.handovers
  pub each : AllByRecursion (λ (h : HandoverFields). is_handover h ≡ true → IsHandover h)
      raw.handovers
  pub header_fits : length raw.header < 2 ^ 32
  pub trailer_fits : length raw.trailer < 2 ^ 32
  pub list_fits : length raw.list < 2 ^ 32
  pub streams_fit : AllByRecursion (λ stream. length stream < 2 ^ 64) raw.streams
  pub list_bytes_are : AllByRecursion IsByte raw.list
  pub header_bytes : AllByRecursion IsByte raw.header
  pub trailer_bytes : AllByRecursion IsByte raw.trailer
  pub stream_bytes : AllByRecursion (AllByRecursion IsByte) raw.streams

-- ---- one scan

-- the checks on it
pub record Passes (w : Walk) (plan : PlanFields) (raw : Raw) : Type 0 where
  pub known : AreKnown w.known
  pub header : Begins w raw.header plan
  pub whole : plan.header_length ≡ length raw.header
  pub wrong : are_wrong (layout_of raw.version).most (box_cut plan raw.chunk (length raw.handovers))
      ≡ false
  pub chunk : is_bad_chunk plan.down raw.header raw.trailer raw.chunk ≡ false
  pub pad : is_bad_pad (layout_of raw.version).listed (shape_of plan) raw.pad raw.list ≡ false
  pub starts : bad_start (shape_of plan) (box_cut plan raw.chunk (length raw.handovers)) 0
      raw.handovers ≡ None
  pub places : are_bad_places (length raw.header) raw.places ≡ false

good_or_bad : (b : Bool) (i : ℕ) (later : Option ℕ) → cond b later (Some i) ≡ None
    → (b ≡ true) × (later ≡ None)
good_or_bad true i later e = (refl, e)
good_or_bad false i later e = cc

are_handovers : (shape : Shape) (cut : Cut) (i : ℕ) (hs : List HandoverFields)
    → AllByRecursion (λ (h : HandoverFields). is_handover h ≡ true → IsHandover h) hs
    → bad_start shape cut i hs ≡ None → AllByRecursion IsHandover hs
are_handovers shape cut i [] each e = tt
are_handovers shape cut i (h ∷ hs) each e =
    let here = good_or_bad (can_start shape (first_mcu cut i) h) i
    (bad_start shape cut (i + 1) hs) e in
    (each.0 (and_parts (is_handover h) _ here.0).0, are_handovers shape cut (i + 1) hs each.1 here.1)

all_places : (header n : ℕ) (places : Option (List ℕ))
    → IfSome places (λ ps. (length ps ≡ n + 1) × AllByRecursion (λ p. p < 2 ^ 64) ps)
    → are_bad_places header places ≡ false → IfSome places (ArePlaces header n)
all_places header n None plain e = tt
all_places header n (Some ps) plain e = good_places header n ps plain.0 plain.1 e

is_box : (v : Version) (w : Walk) (plan : PlanFields) (raw : Raw) → IsPlain v raw
    → Passes w plan raw → IsBoxIn w plan (parts_of raw)
is_box v w plan raw plain passes =
    let n = length raw.handovers in
    let l = layout_of raw.version in
    let chunk = chunk_is_in plan.down raw.header raw.trailer raw.chunk plain.chunk passes.chunk in
    let cut = cut_is l.most (box_cut plan raw.chunk n)
    (ordered plan raw.header raw.trailer raw.chunk n chunk) passes.wrong in
    let list = list_again l.listed (shape_of plan) raw.pad raw.list passes.pad in
    record {
      known = passes.known;
      header = passes.header;
      whole = passes.whole;
      few = cut.1;
      cut = cut.0;
      chunked = plain.chunked;
      chunk = chunk;
      placed = plain.placed;
      places = all_places (length raw.header) n raw.places plain.places passes.places;
      pads = pad_can l.listed (shape_of plan) raw.pad raw.list passes.pad;
      streams = plain.streams;
      each = are_handovers (shape_of plan) (box_cut plan raw.chunk n) 0 raw.handovers plain.each
          passes.starts;
      starts = passes.starts;
      header_fits = plain.header_fits;
      trailer_fits = plain.trailer_fits;
      list_fits = subst (λ (l : List ℕ). length l < 2 ^ 32) list plain.list_fits;
      streams_fit = plain.streams_fit;
      list_bytes_are = subst (AllByRecursion IsByte) list plain.list_bytes_are;
      header_bytes = plain.header_bytes;
      trailer_bytes = plain.trailer_bytes;
      stream_bytes = plain.stream_bytes;
    }

none_mapped : (first : ℕ) (o : Option ℕ) → option_map (λ i. HandoverBad (first + i)) o ≡ None
    → o ≡ None
none_mapped first (Some i) e = cc
none_mapped first None e = refl

-- what its own checks say
record HasPassed (plan : PlanFields) (raw : Raw) : Type 0 where
  chunk : is_bad_chunk plan.down raw.header raw.trailer raw.chunk ≡ false
  pad : is_bad_pad (layout_of raw.version).listed (shape_of plan) raw.pad raw.list ≡ false
  starts : bad_start (shape_of plan) (box_cut plan raw.chunk (length raw.handovers)) 0 raw.handovers
      ≡ None
  places : are_bad_places (length raw.header) raw.places ≡ false

has_passed : (first : ℕ) (plan : PlanFields) (raw : Raw) → scan_fault first plan raw ≡ None
    → HasPassed plan raw
has_passed first plan raw e =
    let wrong = is_bad_chunk plan.down raw.header raw.trailer raw.chunk in
    let bad = is_bad_pad (layout_of raw.version).listed (shape_of plan) raw.pad raw.list in
    let o = bad_start (shape_of plan) (box_cut plan raw.chunk (length raw.handovers)) 0
    raw.handovers in
    let places = are_bad_places (length raw.header) raw.places in
    let later = option_or (option_map (λ i. HandoverBad (first + i)) o)
    (then_some places BoxPlaces) in
    let one = or_none (then_some wrong BoxChunk) (option_or (then_some bad BoxPad) later) e in
    let two = or_none (then_some bad BoxPad) later one.1 in
    let three = or_none (option_map (λ i. HandoverBad (first + i)) o)
    (then_some places BoxPlaces) two.1 in
    record {
      chunk = check_passes wrong BoxChunk one.0;
      pad = check_passes bad BoxPad two.0;
      starts = none_mapped first o three.0;
      places = check_passes places BoxPlaces three.1;
    }

-- ---- all scans

pub all_padded : (w : Walk) (first : ℕ) (plans : List PlanFields) (raws : List Raw)
    → HeadersPass w raws plans → scans_fault first plans raws ≡ None
    → AllByRecursion IsPadded raws
all_padded w first plans [] headers e = tt
all_padded w first [] (raw ∷ raws) headers e = absurd headers
all_padded w first (plan ∷ plans) (raw ∷ raws) headers e =
    let next = first + length raw.handovers in
    let parts = or_none (scan_fault first plan raw) (scans_fault next plans raws) e in
    let here = has_passed first plan raw parts.0 in (
      record {
        byte = pad_again (layout_of raw.version).listed (shape_of plan) raw.pad raw.list here.pad;
        list = list_again (layout_of raw.version).listed (shape_of plan) raw.pad raw.list here.pad;
      },
      all_padded (next_walk plan.known 0) next plans raws headers.2 parts.1,
    )

-- one scan of some, and what is known after it
one_passes : (v : Version) (w : Walk) (first : ℕ) (plan : PlanFields) (plans : List PlanFields)
    (raw : Raw) (raws : List Raw) → AreKnown w.known → raw.version ≡ v
    → HeadersPass w (raw ∷ raws) (plan ∷ plans)
    → some_are_wrong (layout_of v).most (plan ∷ plans) (raw ∷ raws) ≡ false
    → scans_fault first (plan ∷ plans) (raw ∷ raws) ≡ None → Passes w plan raw
one_passes v w first plan plans raw raws known said headers wrong e =
    let here = has_passed first plan raw (or_none (scan_fault first plan raw)
    (scans_fault (first + length raw.handovers) plans raws) e).0 in
    let right = (or_parts
    (are_wrong (layout_of v).most (box_cut plan raw.chunk (length raw.handovers)))
    (some_are_wrong (layout_of v).most plans raws) wrong).0 in
    record {
      known = known;
      header = headers.0;
      whole = headers.1;
      wrong = ap (λ (w : Version). are_wrong (layout_of w).most
          (box_cut plan raw.chunk (length raw.handovers))) said ∙ right;
      chunk = here.chunk;
      pad = here.pad;
      starts = here.starts;
      places = here.places;
    }

known_after : (v : Version) (w : Walk) (plan : PlanFields) (raw : Raw) → IsPlain v raw → Passes w plan raw
    → AreKnown plan.known
known_after v w plan raw plain passes =
    next_known plan.known
    (begun_has_plan w raw.header plan plain.header_bytes passes.known passes.header).known

pub not_true : (b : Bool) → not b ≡ true → b ≡ false
not_true true e = cc
not_true false e = refl

pub are_boxes : (v : Version) (w : Walk) (first : ℕ) (plans : List PlanFields) (raws : List Raw)
    (trailer : List ℕ) → AreKnown w.known → AllByRecursion (IsPlain v) raws
    → HeadersPass w raws plans → are_complete plans ≡ true → some_are_wrong (layout_of v).most plans raws ≡ false
    → scans_fault first plans raws ≡ None → HaveTrailer trailer (map parts_of raws)
    → AreBoxes w (boxes_of plans raws)
are_boxes v w first [] raws trailer known plain headers complete wrong e last =
    absurd (false≢true complete)
are_boxes v w first (plan ∷ plans) [] trailer known plain headers complete wrong e last =
    absurd headers
are_boxes v w first (plan ∷ []) (raw ∷ []) trailer known plain headers complete wrong e last = (
  is_box v w plan raw plain.0 (one_passes v w first plan [] raw [] known plain.0.version headers wrong e),
  complete,
)
are_boxes v w first (plan ∷ []) (raw ∷ other ∷ raws) trailer known plain headers complete wrong e
    last =
    absurd headers.2
are_boxes v w first (plan ∷ more ∷ plans) (raw ∷ []) trailer known plain headers complete wrong e
    last =
    absurd headers.2
are_boxes v w first (plan ∷ more ∷ plans) (raw ∷ other ∷ raws) trailer known plain headers complete
    wrong e last =
    let passes = one_passes v w first plan (more ∷ plans) raw (other ∷ raws) known
    plain.0.version headers wrong e in
    let next = first + length raw.handovers in
    let ends = and_parts (not (is_last plan)) (are_complete (more ∷ plans)) complete in (
      is_box v w plan raw plain.0 passes,
      not_true (is_last plan) ends.0,
      last.0,
      are_boxes v (next_walk plan.known 0) next (more ∷ plans) (other ∷ raws) trailer
          (known_after v w plan raw plain.0 passes) plain.1 headers.2 ends.1
          (or_parts (are_wrong (layout_of v).most (box_cut plan raw.chunk (length raw.handovers)))
          (some_are_wrong (layout_of v).most (more ∷ plans) (other ∷ raws)) wrong).1
          (or_none (scan_fault first plan raw) (scans_fault next (more ∷ plans) (other ∷ raws)) e).1
          last.1,
    )

-- ---- their parts, and how many they are

pub parts_same : (w : Walk) (plans : List PlanFields) (raws : List Raw) → HeadersPass w raws plans
    → all_parts (boxes_of plans raws) ≡ map parts_of raws
parts_same w [] [] headers = refl
parts_same w [] (raw ∷ raws) headers = absurd headers
parts_same w (plan ∷ plans) [] headers = absurd headers
parts_same w (plan ∷ plans) (raw ∷ raws) headers =
    ap (λ (l : List BoxParts). parts_of raw ∷ l)
    (parts_same (next_walk plan.known 0) plans raws headers.2)

pub count_same : (w : Walk) (plans : List PlanFields) (raws : List Raw) → HeadersPass w raws plans
    → length (boxes_of plans raws) ≡ length raws
count_same w [] [] headers = refl
count_same w [] (raw ∷ raws) headers = absurd headers
count_same w (plan ∷ plans) [] headers = absurd headers
count_same w (plan ∷ plans) (raw ∷ raws) headers =
    let later = count_same (next_walk plan.known 0) plans raws headers.2 in omega arith

counts_same : (w : Walk) (plans : List PlanFields) (raws : List Raw) → HeadersPass w raws plans
    → map (λ (s : BoxSeen). length s.parts.handovers) (boxes_of plans raws)
    ≡ map (λ (raw : Raw). length raw.handovers) raws
counts_same w [] [] headers = refl
counts_same w [] (raw ∷ raws) headers = absurd headers
counts_same w (plan ∷ plans) [] headers = absurd headers
counts_same w (plan ∷ plans) (raw ∷ raws) headers =
    ap (λ (l : List ℕ). length raw.handovers ∷ l)
    (counts_same (next_walk plan.known 0) plans raws headers.2)

pub segments_same : (w : Walk) (plans : List PlanFields) (raws : List Raw)
    → HeadersPass w raws plans → segment_count (boxes_of plans raws) ≡ segments_of raws
segments_same w plans raws headers = ap sum (counts_same w plans raws headers)

pub all_said : (v : Version) (plans : List PlanFields) (raws : List Raw)
    → AllByRecursion (IsPlain v) raws
    → AllByRecursion (λ (s : BoxSeen). s.parts.version ≡ v) (boxes_of plans raws)
all_said v [] raws plain = tt
all_said v (plan ∷ plans) [] plain = tt
all_said v (plan ∷ plans) (raw ∷ raws) plain = (plain.0.version, all_said v plans raws plain.1)
