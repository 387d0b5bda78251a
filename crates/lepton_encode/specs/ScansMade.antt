-- Steps: the parts of the scans of a file by where their segments start (own).
use Rattle.std.specs.Prelude.{ℕ, ◌≡◌, ◌*◌, ◌≤◌, ◌-◌, Bool, true, false, if◌then◌else◌, List, [], ◌∷◌, ◌++◌, length, take, drop, map, flat_map, get_or, Some, None}
use Rattle.std.specs.List.{range_with_len}
use Rattle.jpeg_marker.specs.Plans.{PlanFields}
use Rattle.scan_spec.specs.Scans.{Mcu}
use Rattle.box_format.specs.Containers.{AreScans, all_parts}
use Rattle.box_format.specs.Parts.{BoxParts, BoxSeen}
use Rattle.box_format.specs.Versions.{layout_of, fewest_scans, most_scans}
use Rattle.box_format.specs.declared.version.Version.{Version}
use Rattle.container_spec.specs.Files.{plan_cut, segment_mcus}
use Rattle.container_spec.specs.ScanStream.{stream_of}
use Rattle.segment_code.specs.FileStarts.{StartsFields}
use Rattle.segment_code.specs.Starting.{AreStarts, IsFileAt}
use Rattle.lepton_encode.specs.declared.container.CodedScan.{CodedScan}
use Rattle.lepton_encode.specs.declared.heads.Head.{Head}

-- a version of whole files has room for this many scans, with at most `share` segments each, and can say their pad bits
pub record CanHold (version : Version) (scans share : ℕ) : Type 0 where
  pub whole : (layout_of version).chunked ≡ false
  pub listed : (layout_of version).listed ≡ true
  pub enough : fewest_scans (layout_of version) ≤ scans
  pub most : scans ≤ most_scans (layout_of version)
  pub few : scans * share ≤ (layout_of version).most
  pub placed : (layout_of version).placed ≡ true → scans ≤ 1

-- the streams of a file's segments, of at most `most`, if it is a file whose trailer is there
abbrev pub AreStreamsOf : PlanFields → List ℕ → ℕ → StartsFields → List (List ℕ) → Type 0
AreStreamsOf plan bytes most starts streams =
    (mcus : List Mcu) (pads : List Bool) → IsFileAt bytes plan mcus pads starts.trailer
    → streams ≡ map (λ i. stream_of plan (segment_mcus plan mcus most i))
    (range_with_len 0 (plan_cut plan most).segments)

-- the places of the segments and of the scan's end
abbrev pub places_made : StartsFields → List ℕ
places_made starts =
    map (λ i. get_or starts.places i 0) (range_with_len 0 (length starts.rows)) ++ starts.trailer ∷ []

-- the starts, the places and the streams of the segments of a scan, of at most `most`
pub record IsCoded (most : ℕ) (file : List ℕ) (h : Head) (c : CodedScan) : Type 0 where
  pub starts : AreStarts h.plan file most c.starts
  pub places : c.places.items ≡ places_made c.starts
  pub streams : AreStreamsOf h.plan file most c.starts (map (λ v. v.items) c.streams.items)

-- those of all scans
abbrev pub AreCoded : ℕ → List ℕ → List Head → List CodedScan → Type 0
AreCoded most file [] [] = Unit {0}
AreCoded most file [] (c ∷ coded) = ⊥
AreCoded most file (h ∷ heads) [] = ⊥
AreCoded most file (h ∷ heads) (c ∷ coded) = IsCoded most file h c × AreCoded most file heads coded

-- a file has the parts of a scan
pub record HasParts (file : List ℕ) (h : Head) (c : CodedScan) : Type 0 where
  pub place : h.place ≤ h.plan.header_length
  pub header : h.plan.header_length ≤ length file
  pub trailer : c.starts.trailer ≤ length file

-- and of all scans
abbrev pub AreWithin : List ℕ → List Head → List CodedScan → Type 0
AreWithin file [] [] = Unit {0}
AreWithin file [] (c ∷ coded) = ⊥
AreWithin file (h ∷ heads) [] = ⊥
AreWithin file (h ∷ heads) (c ∷ coded) = HasParts file h c × AreWithin file heads coded

-- the parts of a scan before a trailer, in a version
abbrev pub scan_made : Version → List ℕ → List ℕ → Head → CodedScan → BoxParts
scan_made version file trailer h c = record {
  version = version;
  chunk = None;
  places = if (layout_of version).placed then Some c.places.items else None;
  pads = c.starts.pads;
  header = take (h.plan.header_length - h.place) (drop h.place file);
  trailer = trailer;
  handovers = c.starts.handovers;
  streams = map (λ v. v.items) c.streams.items;
}

-- those of all scans, of which the last one has the trailer
abbrev pub scans_made : Version → List ℕ → List Head → List CodedScan → List BoxParts
scans_made version file [] coded = []
scans_made version file (h ∷ heads) [] = []
scans_made version file (h ∷ []) (c ∷ coded) =
    scan_made version file (drop c.starts.trailer file) h c ∷ []
scans_made version file (h ∷ g ∷ heads) (c ∷ coded) =
    scan_made version file [] h c ∷ scans_made version file (g ∷ heads) coded

-- they are scans of a container
abbrev pub AreScansMade : Version → List ℕ → List Head → List CodedScan → Type 0
AreScansMade version file heads coded =
    (boxes : List BoxSeen) × AreScans version boxes
    × (all_parts boxes ≡ scans_made version file heads coded)

-- the streams of a scan
abbrev pub streams_in : CodedScan → List ℕ
streams_in c = flat_map (λ stream. stream) (map (λ v. v.items) c.streams.items)
