-- How long the container of a file of several scans can be.
use Rattle.std.proofs.Common.{◌≡◌, ℕ, ◌+◌, ◌*◌, ◌^◌, ◌<◌, ◌≤◌, false, List, replicate, [], ◌∷◌, ◌++◌, length, sym, ap, ◌∙◌, arith, length-append, zero-add}
use Rattle.std.specs.Prelude.{min, flat_map, sum}
use Rattle.std.specs.List.{AllByRecursion}
use Rattle.bit_list.specs.Bits.{IsByte}
use Rattle.jpeg_marker.specs.AcceptedPlans.{HasBegun}
use Rattle.jpeg_marker.specs.KnownBefore.{AreKnown}
use Rattle.jpeg_marker.specs.FirstWalks.{opening_walk}
use Rattle.jpeg_marker.specs.Plans.{most_blocks}
use Rattle.jpeg_marker.specs.Walks.{Walk, next_walk}
use Rattle.jpeg_marker.proofs.CodedComponents.{none_coded}
use Rattle.jpeg_marker.proofs.HeadersTaken.{none_known}
use Rattle.scan_spec.specs.Slots.{shape_of}
use Rattle.scan_spec.proofs.FilesOnce.{known_on}
use Rattle.scan_spec.proofs.PlanShapes.{slots_count}
use Rattle.box_format.specs.Parts.{BoxParts, list_bytes, BoxSeen}
use Rattle.box_format.specs.Single.{box_bytes}
use Rattle.box_format.specs.Versions.{layout_of}
use Rattle.box_format.specs.declared.version.Version.{Version}
use Rattle.box_format.proofs.Lists.{sum_first}
use Rattle.box_format.proofs.Layouts.{most_few}
use Rattle.container_spec.specs.Files.{segment_mcus}
use Rattle.container_spec.proofs.ScanContainers.{IsScanContainer}
use Rattle.container_spec.specs.ScanStream.{stream_of}
use Rattle.container_spec.proofs.ContainerSizes.{fields_long, scans_long}
use Rattle.container_spec.proofs.FileParts.{cut, cuts, stream_long, list_long, mcus_few}
use Rattle.container_spec.proofs.StreamSizes.{streams_short}
use Rattle.box_format.specs.Containers.{all_parts, scan_fields, scan_header, scan_streams, trailer_of}
use Rattle.container_spec.specs.ScansFiles.{IsScanIn, AreScansIn, share_of, version_for}
use Rattle.container_spec.specs.ScansMeaningLaws.{ContainerIsShort, ContainerOfFileIsShort}
use Rattle.container_spec.proofs.ScanParts.{has, header, bytes_are, rest_bytes, own, contained, trailer_is, segments_are, is_box}
use Rattle.container_spec.proofs.ScansRestored.{scans_few, shares_are, for_most}

-- ---- one scan

header_is : (b : BoxParts) → length (scan_header b) ≡ length (list_bytes b.pads) + length b.header
header_is b = length-append (list_bytes b.pads) b.header

-- the room of a scan's fields, its pad list and its streams
record IsShort (s : BoxSeen) : Type 0 where
  fields : length (scan_fields s.parts) ≤ 1974
  list : length (list_bytes s.parts.pads) ≤ 2097152
  streams : length (scan_streams s.parts) ≤ 64 + 1141 * s.plan.blocks

module _ (v : Version) (whole : (layout_of v).chunked ≡ false) (w : Walk) (most : ℕ) (bytes rest trailer : List ℕ) (s : BoxSeen) (known : AreKnown w.known)
    (all : AllByRecursion IsByte bytes) (tail : AllByRecursion IsByte trailer)
    (fits : length trailer < 2 ^ 32) (is : IsScanIn v w most bytes rest trailer s) (some : 0 < most)
    (few : most ≤ (layout_of v).most) where
  abbrev made : List ℕ
  made = own v whole w most bytes rest trailer s known all tail fits is

  abbrev container : IsScanContainer w v most (box_bytes s.parts) made
  container = contained v whole w most bytes rest trailer s known all tail fits is

  -- its header comes before the bytes that follow it
  header_before : length s.parts.header + length rest ≤ length bytes
  header_before =
      let first : List ℕ = header v whole w most bytes rest trailer s known all tail fits is in
      let text = ap length (bytes_are v whole w most bytes rest trailer s known all tail fits is) in
      let same = ap (λ (b : BoxParts). length b.header) is.parts in
      omega (arith, text, same, length-append first (is.is.scan ++ rest), length-append is.is.scan rest)

  trailer_long : length s.parts.trailer ≡ length trailer
  trailer_long = ap length (trailer_is v whole w most bytes rest trailer s known all tail fits is)

  begun : HasBegun w bytes s.plan
  begun = has v whole w most bytes rest trailer s known all tail fits is

  scan_is_short : IsShort s
  scan_is_short =
      let b : BoxParts = s.parts in
      let plan : HasBegun w bytes s.plan = begun in
      let many = segments_are v whole w most bytes rest trailer s known all tail fits is in
      let box = is_box v whole w most bytes rest trailer s known all tail fits is some few in
      let fields = fields_long b box.each in
      let least = most_few v in
      let list = list_long v most (box_bytes b) made some container in
      let pads = ap (λ (b : BoxParts). length (list_bytes b.pads)) is.parts in
      let mcus = mcus_few v most (box_bytes b) made some container in
      let count : ℕ = min most s.plan.down in
      let d : ℕ → ℕ = cut v most (box_bytes b) made some container in
      let rise = cuts v most (box_bytes b) made some container in
      let n : ℕ = length (shape_of s.plan).slots in
      let stream : ℕ → List ℕ = λ j. stream_of s.plan (segment_mcus s.plan is.mcus most j) in
      let streams = streams_short stream d n count 0
      (λ j after within. rise.order j (omega (arith, within)))
      (λ j after within. stream_long v most (box_bytes b) made some container j
      (omega (arith, within))) in
      let all : d (0 + count) * n ≡ s.plan.across * s.plan.down * n =
      ap (λ m. d m * n) (zero-add count) ∙ ap (λ m. m * n) rise.whole in
      let blocks : s.plan.across * s.plan.down * n ≡ s.plan.blocks =
      ap (λ m. s.plan.across * s.plan.down * m) (slots_count s.plan.components plan.is_plan.some)
      ∙ sym plan.is_plan.grid in
      let text = ap (λ (b : BoxParts). length (scan_streams b)) is.parts in
      record {
        fields = omega (arith, fields, many, few, least);
        list = omega (arith, list, pads, mcus);
        streams = omega (arith, streams, all, blocks, text, few, least);
      }

-- ---- all scans

-- the bytes of one and then of others
first_long : (f : BoxParts → List ℕ) (b : BoxParts) (others : List BoxParts)
    → length (flat_map f (b ∷ others)) ≡ length (f b) + length (flat_map f others)
first_long f b others = length-append (f b) (flat_map f others)

record AreShort (w : Walk) (bytes trailer : List ℕ) (scans : List BoxSeen) : Type 0 where
  fields : length (flat_map scan_fields (all_parts scans)) ≤ 1974 * length scans
  headers : length (flat_map scan_header (all_parts scans)) + length (trailer_of (all_parts scans))
      ≤ 2097152 * length scans + length bytes
  streams : length (flat_map scan_streams (all_parts scans)) + 1141 * w.known.blocks
      ≤ 64 * length scans + 1141 * most_blocks

are_short : (v : Version) (whole : (layout_of v).chunked ≡ false)
    (w : Walk) (mosts bytes trailer : List ℕ) (scans : List BoxSeen) → AreKnown w.known
    → AllByRecursion IsByte bytes → length trailer < 2 ^ 32
    → AllByRecursion (λ most. 0 < most) mosts → sum mosts ≤ (layout_of v).most
    → AreScansIn v w mosts bytes trailer scans → AreShort w bytes trailer scans
are_short v whole w [] bytes trailer [] known all fits some few are = absurd are
are_short v whole w (most ∷ mosts) bytes trailer [] known all fits some few are = absurd are
are_short v whole w [] bytes trailer (s ∷ scans) known all fits some few are = absurd are
are_short v whole w (most ∷ mosts) bytes trailer (s ∷ []) known all fits some few are =
    let is = are.0 in
    let b : BoxParts = s.parts in
    let tail = rest_bytes w bytes trailer s.plan is.mcus is.pads all is.is in
    let sum_is = sum_first most mosts in
    let below : most ≤ (layout_of v).most = omega (arith, few, sum_is) in
    let one = scan_is_short v whole w most bytes trailer trailer s known all tail fits is some.0 below in
    let before = header_before v whole w most bytes trailer trailer s known all tail fits is some.0 below in
    let same = trailer_long v whole w most bytes trailer trailer s known all tail fits is some.0 below in
    let plan = begun v whole w most bytes trailer trailer s known all tail fits is some.0 below in
    let blocks = plan.blocks in
    let most_few = plan.few in
    let fields = one.fields in
    let list = one.list in
    let streams = one.streams in
    record {
      fields = omega (arith, fields, first_long scan_fields b []);
      headers = omega (
        arith,
        list,
        before,
        same,
        header_is b,
        first_long scan_header b [],
        first_long (λ (b : BoxParts). b.trailer) b [],
      );
      streams = omega (arith, streams, blocks, most_few, first_long scan_streams b []);
    }
are_short v whole w (most ∷ mosts) bytes trailer (s ∷ t ∷ scans) known all fits some few are =
    let rest : List ℕ = are.0 in
    let is = are.1 in
    let b : BoxParts = s.parts in
    let others : List BoxParts = all_parts (t ∷ scans) in
    let none : length {A = ℕ} [] < 2 ^ 32 = omega arith in
    let sum_is = sum_first most mosts in
    let below : most ≤ (layout_of v).most = omega (arith, few, sum_is) in
    let fewer : sum mosts ≤ (layout_of v).most = omega (arith, few, sum_is) in
    let one = scan_is_short v whole w most bytes rest [] s known all tt none is some.0 below in
    let before = header_before v whole w most bytes rest [] s known all tt none is some.0 below in
    let same = trailer_long v whole w most bytes rest [] s known all tt none is some.0 below in
    let plan = begun v whole w most bytes rest [] s known all tt none is some.0 below in
    let more = are_short v whole (next_walk s.plan.known 0) mosts rest trailer (t ∷ scans)
    (known_on w bytes rest s.plan is.mcus is.pads all known is.is)
    (rest_bytes w bytes rest s.plan is.mcus is.pads all is.is) fits some.1 fewer are.3 in
    let blocks = plan.blocks in
    let fields = one.fields in
    let list = one.list in
    let streams = one.streams in
    let more_fields = more.fields in
    let more_headers = more.headers in
    let more_streams = more.streams in
    record {
      fields = omega (arith, fields, more_fields, first_long scan_fields b others);
      headers = omega (
        arith,
        list,
        before,
        same,
        more_headers,
        header_is b,
        first_long scan_header b others,
        first_long (λ (b : BoxParts). b.trailer) b others,
      );
      streams = omega (arith, streams, blocks, more_streams, first_long scan_streams b others);
    }

pub container_is_short : ContainerIsShort
container_is_short v mosts made file some few is short =
    let all = are_short v is.whole opening_walk mosts file is.trailer is.scans none_known is.bytes
    is.trailer_fits some few is.are in
    let text = ap length is.spelled in
    let long = scans_long v (all_parts is.scans) in
    let count = scans_few v is.whole opening_walk 0 mosts file is.trailer is.scans none_known
    none_coded is.bytes is.trailer_fits is.are in
    let fields = all.fields in
    let headers = all.headers in
    let streams = all.streams in
    omega (arith, text, long, count, fields, headers, streams, short)

pub container_of_file_is_short : ContainerOfFileIsShort
container_of_file_is_short most made file few (n, is) short =
    let shares = shares_are (version_for n) most n made file few is in
    let all = shares.few in
    let room = for_most n in
    container_is_short (version_for n) (replicate n (share_of most n)) made file shares.some
    (omega (arith, all, room)) is short
