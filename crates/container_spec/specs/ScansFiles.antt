-- Statement: the container of a file of one scan or of several, and files that have none (docs/FORMAT.md,
-- docs/JPEG.md).
use Rattle.std.specs.Prelude.{ℕ, ◌≡◌, ◌+◌, ◌<◌, ◌≤◌, ◌^◌, ◌/◌, ◌==◌, if◌then◌else◌, max, Bool, true, false, List, [], ◌∷◌, length, take, drop, replicate}
use Rattle.std.specs.List.{AllByRecursion}
use Rattle.bit_list.specs.Bits.{IsByte}
use Rattle.jpeg_marker.specs.HeaderPlan.{Begins, BeginsNot}
use Rattle.jpeg_marker.specs.Plans.{PlanFields}
use Rattle.jpeg_marker.specs.Walks.{Walk, next_walk}
use Rattle.jpeg_marker.specs.FirstWalks.{opening_walk}
use Rattle.jpeg_marker.specs.declared.refusal.HeaderRefusal.{HeaderRefusal}
use Rattle.scan_spec.specs.FileParts.{FileScan, IsFile, IsScanOf, is_last}
use Rattle.scan_spec.specs.Items.{Refuses as ItemsRefuse}
use Rattle.scan_spec.specs.Scans.{Mcu}
use Rattle.scan_spec.specs.Slots.{shape_of}
use Rattle.scan_spec.specs.declared.refusal.ScanRefusal.{ScanRefusal}
use Rattle.box_format.specs.Parts.{BoxSeen, can_pad}
use Rattle.box_format.specs.Versions.{layout_of, fewest_scans, most_scans}
use Rattle.box_format.specs.declared.version.Version.{Version}
use Rattle.box_format.specs.declared.version.Version.TheVariants.{Second, Fourth}
use Rattle.container_spec.specs.Files.{parts_of_file, told_pads}
use Rattle.box_format.specs.Containers.{all_parts, container_bytes}

-- how many segments each of n scans is given, of `most` in all: one at least
abbrev pub share_of : ℕ → ℕ → ℕ
share_of most n = max 1 (most / n)

-- a scan that bytes begin with, after its header, with at most `most` segments and before a trailer: its MCUs and its
-- pad bits, of which its parts are made; the version can say the pad bits
pub record IsScanIn (version : Version) (w : Walk) (most : ℕ) (bytes rest trailer : List ℕ)
    (s : BoxSeen) : Type 0 where
  pub mcus : List Mcu
  pub pads : List Bool
  pub is : IsScanOf w bytes s.plan mcus pads rest
  pub header_fits : s.plan.header_length < 2 ^ 32
  pub can : can_pad (layout_of version).listed (shape_of s.plan) (told_pads s.plan mcus pads)
      ≡ true
  pub parts : s.parts
      ≡ parts_of_file version s.plan mcus pads (take s.plan.header_length bytes) trailer most

-- the scans of a file, each with at most as many segments as the numbers say, through the last one, which has the
-- trailer
abbrev pub AreScansIn : Version → Walk → List ℕ → List ℕ → List ℕ → List BoxSeen → Type 0
AreScansIn v w mosts bytes trailer [] = ⊥
AreScansIn v w [] bytes trailer (s ∷ scans) = ⊥
AreScansIn v w (most ∷ mosts) bytes trailer (s ∷ []) =
    IsScanIn v w most bytes trailer trailer s × (is_last s.plan ≡ true)
AreScansIn v w (most ∷ mosts) bytes trailer (s ∷ t ∷ scans) =
    (rest : List ℕ) × IsScanIn v w most bytes rest [] s × (is_last s.plan ≡ false)
    × AreScansIn v (next_walk s.plan.known 0) mosts rest trailer (t ∷ scans)

-- `made` is the file's container in a version of whole files, each scan with at most as many segments as its number of
-- `mosts` says
pub record IsContainerOf (version : Version) (mosts : List ℕ) (made file : List ℕ) : Type 0 where
  pub whole : (layout_of version).chunked ≡ false
  pub bytes : AllByRecursion IsByte file
  pub scans : List BoxSeen
  pub trailer : List ℕ
  pub enough : fewest_scans (layout_of version) ≤ length scans
  pub most : length scans ≤ most_scans (layout_of version)
  pub counted : length mosts ≡ length scans
  pub are : AreScansIn version opening_walk mosts file trailer scans
  pub trailer_fits : length trailer < 2 ^ 32
  pub spelled : made ≡ container_bytes version (all_parts scans)

-- the version that a file of n scans is encoded in
abbrev pub version_for : ℕ → Version
version_for n = if n == 1 then Second else Fourth

-- the container of a file of n scans with at most `most` segments, but at least one a scan: the scans share them
abbrev pub IsContainerOfFile : ℕ → List ℕ → List ℕ → Type 0
IsContainerOfFile most made file =
    (n : ℕ) × IsContainerOf (version_for n) (replicate n (share_of most n)) made file

-- a file that has several scans, all of them accepted
abbrev pub HasSeveralScans : List ℕ → Type 0
HasSeveralScans file =
    (scans : List FileScan) × (trailer : List ℕ) × IsFile file scans trailer × (2 ≤ length scans)

-- why a file is refused: a header, or the scan after one
pub data FileRefusal : Type 0 where
  Header : HeaderRefusal → FileRefusal
  Scan : ScanRefusal → FileRefusal

-- the header that is due at a walk's place in a file is refused, or it is accepted and its scan is refused
abbrev pub StopsAt : Walk → List ℕ → FileRefusal → Type 0
StopsAt w file (Header refusal) = BeginsNot w (drop w.place file) refusal
StopsAt w file (Scan refusal) =
    (plan : PlanFields) × Begins w (drop w.place file) plan
    × ItemsRefuse (shape_of plan) file (w.place + plan.header_length) refusal

-- the same after scans that are accepted
abbrev pub StopsAfter : Walk → List ℕ → List FileScan → FileRefusal → Type 0
StopsAfter w file [] refusal = StopsAt w file refusal
StopsAfter w file (s ∷ scans) refusal =
    (rest : List ℕ) × (is : IsScanOf w (drop w.place file) s.plan s.mcus s.pads rest)
    × (is_last s.plan ≡ false)
    × StopsAfter
    (next_walk s.plan.known (w.place + s.plan.header_length + length is.scan)) file scans refusal

-- a file that has no container: the first header or scan that is refused, from left to right
pub record FileIsRefused (file : List ℕ) (refusal : FileRefusal) : Type 0 where
  pub before : List FileScan
  pub stops : StopsAfter opening_walk file before refusal
