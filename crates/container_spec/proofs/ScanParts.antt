-- A scan of a file of several has the parts of a container of its own, whose segments are the scan's own bytes.
use Rattle.std.proofs.Common.{◌≡◌, ℕ, ◌^◌, ◌<◌, ◌≤◌, Bool, false, List, ◌++◌, length, take, drop, refl, sym, ap, subst, ◌∙◌}
use Rattle.std.specs.Prelude.{min}
use Rattle.std.specs.List.{AllByRecursion}
use Rattle.std.proofs.lemmas.List.{take-append-drop, length-take-le, take_at, drop_at}
use Rattle.std.proofs.lemmas.List.FromFn.{length-map-range_with_len}
use Rattle.huff_table.proofs.Pairs.{all-append}
use Rattle.bit_list.specs.Bits.{IsByte}
use Rattle.jpeg_marker.specs.AcceptedPlans.{HasBegun}
use Rattle.jpeg_marker.specs.KnownBefore.{AreKnown}
use Rattle.jpeg_marker.specs.Plans.{PlanFields}
use Rattle.jpeg_marker.specs.Walks.{Walk}
use Rattle.jpeg_marker.proofs.HeadersTaken.{begun_has_plan}
use Rattle.scan_spec.specs.FileParts.{IsScanOf}
use Rattle.scan_spec.specs.Scans.{Mcu}
use Rattle.handover.specs.Handovers.{HandoverFields}
use Rattle.box_format.specs.Parts.{BoxParts, IsBoxIn, BoxSeen}
use Rattle.box_format.specs.Single.{box_bytes}
use Rattle.box_format.specs.Versions.{layout_of}
use Rattle.box_format.specs.declared.version.Version.{Version}
use Rattle.container_spec.specs.Files.{parts_of_file, segment_start}
use Rattle.container_spec.proofs.ScanContainers.{IsScanContainer}
use Rattle.container_spec.specs.Indexed.{outputs_of}
use Rattle.container_spec.proofs.FileParts.{box_is}
use Rattle.container_spec.proofs.JoinedSegments.{joined}
use Rattle.container_spec.proofs.RestoredFiles.{is_restored}
use Rattle.container_spec.proofs.RestoredMeanings.{IsRestored}
use Rattle.container_spec.specs.ScansFiles.{IsScanIn}
use Rattle.box_format.proofs.ByteParts.{all_drop, all_take}

-- what follows a scan
pub rest_bytes : (w : Walk) (bytes rest : List ℕ) (plan : PlanFields) (mcus : List Mcu)
    (pads : List Bool) → AllByRecursion IsByte bytes → IsScanOf w bytes plan mcus pads rest
    → AllByRecursion IsByte rest
rest_bytes w bytes rest plan mcus pads all is =
    subst (AllByRecursion IsByte)
    (ap (drop (length is.scan)) is.text ∙ drop_at is.scan rest (length is.scan) refl)
    (all_drop IsByte (length is.scan) (drop plan.header_length bytes)
    (all_drop IsByte plan.header_length bytes all))

module _ (v : Version) (whole : (layout_of v).chunked ≡ false) (w : Walk) (most : ℕ)
    (bytes rest trailer : List ℕ) (s : BoxSeen) (known : AreKnown w.known)
    (all : AllByRecursion IsByte bytes) (tail : AllByRecursion IsByte trailer)
    (fits : length trailer < 2 ^ 32) (is : IsScanIn v w most bytes rest trailer s) where
  pub has : HasBegun w bytes s.plan
  has = begun_has_plan w bytes s.plan all known is.is.header

  abbrev pub header : List ℕ
  header = take s.plan.header_length bytes

  abbrev pub scan : List ℕ
  scan = is.is.scan

  pub header_long : length header ≡ s.plan.header_length
  header_long = length-take-le s.plan.header_length bytes has.within

  pub bytes_are : bytes ≡ header ++ (scan ++ rest)
  bytes_are =
      sym (take-append-drop s.plan.header_length bytes)
      ∙ ap (λ (l : List ℕ). header ++ l) is.is.text

  scan_bytes : AllByRecursion IsByte scan
  scan_bytes =
      subst (AllByRecursion IsByte)
      (ap (take (length scan)) is.is.text ∙ take_at scan rest (length scan) refl)
      (all_take IsByte (length scan) (drop s.plan.header_length bytes)
      (all_drop IsByte s.plan.header_length bytes all))

  -- the scan's own bytes, with its trailer
  abbrev pub own : List ℕ
  own = header ++ (scan ++ trailer)

  pub own_bytes : AllByRecursion IsByte own
  own_bytes =
      all-append IsByte header (scan ++ trailer) (all_take IsByte s.plan.header_length bytes all)
      (all-append IsByte scan trailer scan_bytes tail)

  own_header : take s.plan.header_length own ≡ header
  own_header = take_at header (scan ++ trailer) s.plan.header_length header_long

  abbrev pub own_scan : IsScanOf w own s.plan is.mcus is.pads trailer
  own_scan = record {
    header = has.alone w.place (scan ++ trailer);
    scan = scan;
    is = is.is.is;
    text = drop_at header (scan ++ trailer) s.plan.header_length header_long;
  }

  abbrev pub parts_by : List ℕ → BoxParts
  parts_by header = parts_of_file v s.plan is.mcus is.pads header trailer most

  pub parts_are : s.parts ≡ parts_by (take s.plan.header_length own)
  parts_are = is.parts ∙ ap parts_by (sym own_header)

  abbrev pub contained : IsScanContainer w v most (box_bytes s.parts) own
  contained = record {
    known = known;
    whole = whole;
    bytes = own_bytes;
    plan = s.plan;
    mcus = is.mcus;
    pads = is.pads;
    trailer = trailer;
    is = own_scan;
    header_fits = is.header_fits;
    trailer_fits = fits;
    can = is.can;
    spelled = ap box_bytes parts_are;
  }

  pub is_version : s.parts.version ≡ v
  is_version = ap (λ (b : BoxParts). b.version) is.parts

  pub trailer_is : s.parts.trailer ≡ trailer
  trailer_is = ap (λ (b : BoxParts). b.trailer) is.parts

  pub segments_are : length s.parts.handovers ≡ min most s.plan.down
  segments_are =
      let start : ℕ → HandoverFields = segment_start s.plan is.mcus is.pads most in
      ap (λ (b : BoxParts). length b.handovers) is.parts
      ∙ length-map-range_with_len start 0 (min most s.plan.down)

  module _ (some : 0 < most) (few : most ≤ (layout_of v).most) where
    pub is_box : IsBoxIn w s.plan s.parts
    is_box =
        subst (IsBoxIn w s.plan) (sym parts_are)
        (box_is v most (box_bytes s.parts) own some contained few)

    pub restored : IsRestored s.parts (joined (outputs_of s.plan s.parts)) own
    restored =
        subst (λ (b : BoxParts). IsRestored b (joined (outputs_of s.plan b)) own) (sym parts_are)
        (is_restored v most (box_bytes s.parts) own some contained)
