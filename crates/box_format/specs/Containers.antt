-- Statement: a container by the parts of its scans, and its bytes (docs/FORMAT.md, The container).
use Rattle.std.specs.Prelude.{ℕ, ◌≡◌, ◌≤◌, Bool, true, false, if◌then◌else◌, List, [], ◌∷◌, ◌++◌, length, map, flat_map, sum, not}
use Rattle.std.specs.List.{AllByRecursion}
use Rattle.byteorder.specs.Endian.{big_bytes}
use Rattle.jpeg_marker.specs.Plans.{PlanFields}
use Rattle.jpeg_marker.specs.Walks.{Walk, next_walk}
use Rattle.jpeg_marker.specs.FirstWalks.{opening_walk}
use Rattle.scan_spec.specs.FileParts.{is_last}
use Rattle.box_format.specs.Versions.{layout_of, fewest_scans, most_scans}
use Rattle.box_format.specs.Parts.{BoxParts, BoxSeen, IsBoxIn, magic, pad_byte, list_bytes, length_said, chunk_bytes, place_bytes, records}
use Rattle.box_format.specs.declared.version.Version.{Version}

-- A container has one scan or several, all in its version. The trailer is the last one's, and those before have none.

-- a scan's fields: its pad byte, how many segments it has, the lengths of its header, of the trailer and of its pad
-- list, the chunk, the place of the scan's end, and a record for each segment
abbrev pub scan_fields : BoxParts → List ℕ
scan_fields b =
    pad_byte b.pads ∷ length b.handovers
    ∷ big_bytes 4 (length b.header) ++ length_said (not (layout_of b.version).several) b.trailer
    ++ length_said (layout_of b.version).listed (list_bytes b.pads) ++ chunk_bytes b.chunk
    ++ place_bytes b.places (length b.handovers)
    ++ records b.places 0 b.handovers b.streams

-- its pad list and its header
abbrev pub scan_header : BoxParts → List ℕ
scan_header b = list_bytes b.pads ++ b.header

-- its streams
abbrev pub scan_streams : BoxParts → List ℕ
scan_streams b = flat_map (λ stream. stream) b.streams

-- the trailer
abbrev pub trailer_of : List BoxParts → List ℕ
trailer_of scans = flat_map (λ b. b.trailer) scans

-- the number of scans and the length of the trailer, where they come before the scans
abbrev pub scans_said : Bool → ℕ → List ℕ → List ℕ
scans_said several count trailer =
    if several then count ∷ big_bytes 4 (length trailer) else []

-- the container: what comes before the scans, the fields of each scan, their pad lists and headers, the trailer, and
-- their streams
unfoldable pub container_bytes : Version → List BoxParts → List ℕ
container_bytes version scans =
    magic ++ (layout_of version).byte
    ∷ scans_said (layout_of version).several (length scans) (trailer_of scans)
    ++ flat_map scan_fields scans ++ flat_map scan_header scans ++ trailer_of scans
    ++ flat_map scan_streams scans

-- scans one after another through the last one, which alone has the trailer; the headers are those of one file
abbrev pub AreBoxes : Walk → List BoxSeen → Type 0
AreBoxes w [] = ⊥
AreBoxes w (s ∷ []) = IsBoxIn w s.plan s.parts × (is_last s.plan ≡ true)
AreBoxes w (s ∷ t ∷ scans) =
    IsBoxIn w s.plan s.parts × (is_last s.plan ≡ false) × (s.parts.trailer ≡ [])
    × AreBoxes (next_walk s.plan.known 0) (t ∷ scans)

-- the parts of each scan
abbrev pub all_parts : List BoxSeen → List BoxParts
all_parts scans = map (λ (s : BoxSeen). s.parts) scans

-- the plan of each scan's header
abbrev pub all_plans : List BoxSeen → List PlanFields
all_plans scans = map (λ (s : BoxSeen). s.plan) scans

-- how many segments they have in all
abbrev pub segment_count : List BoxSeen → ℕ
segment_count scans = sum (map (λ (s : BoxSeen). length s.parts.handovers) scans)

-- the scans of a container of a version
pub record AreScans (version : Version) (scans : List BoxSeen) : Type 0 where
  pub enough : fewest_scans (layout_of version) ≤ length scans
  pub most : length scans ≤ most_scans (layout_of version)
  pub each : AreBoxes opening_walk scans
  pub versions : AllByRecursion (λ (s : BoxSeen). s.parts.version ≡ version) scans
  pub few : segment_count scans ≤ (layout_of version).most

-- the bytes are the container of these
pub record IsContainerIn (version : Version) (scans : List BoxSeen) (bytes : List ℕ) : Type 0 where
  pub are : AreScans version scans
  pub text : bytes ≡ container_bytes version (all_parts scans)

abbrev pub IsContainer : List BoxSeen → List ℕ → Type 0
IsContainer scans bytes = (version : Version) × IsContainerIn version scans bytes
