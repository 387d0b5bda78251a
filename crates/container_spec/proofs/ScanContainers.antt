-- The container that a scan of a file would have of its own (own).
use Rattle.std.specs.Prelude.{ℕ, ◌<◌, ◌≡◌, ◌^◌, Bool, true, false, List, length, take}
use Rattle.std.specs.List.{AllByRecursion}
use Rattle.bit_list.specs.Bits.{IsByte}
use Rattle.jpeg_marker.specs.KnownBefore.{AreKnown}
use Rattle.jpeg_marker.specs.FirstWalks.{only_walk}
use Rattle.jpeg_marker.specs.Plans.{PlanFields}
use Rattle.jpeg_marker.specs.Walks.{Walk}
use Rattle.scan_spec.specs.FileParts.{IsScanOf}
use Rattle.scan_spec.specs.Scans.{Mcu}
use Rattle.scan_spec.specs.Slots.{shape_of}
use Rattle.box_format.specs.Parts.{can_pad}
use Rattle.box_format.specs.Single.{box_bytes}
use Rattle.box_format.specs.Versions.{layout_of}
use Rattle.box_format.specs.declared.version.Version.{Version}
use Rattle.container_spec.specs.Files.{parts_of_file, told_pads}

-- `made` is the container in a version of whole files, with at most `most` segments, of bytes that begin with a header,
-- which a walk passes, and its scan: by the plan of the header, the MCUs, the pad bit of each interval and what follows
-- the scan; the lengths of header and trailer have fields of four bytes, and the version can say the pad bits
pub record IsScanContainer (w : Walk) (version : Version) (most : ℕ) (made file : List ℕ) : Type 0
  where
    pub known : AreKnown w.known
    pub whole : (layout_of version).chunked ≡ false
    pub bytes : AllByRecursion IsByte file
    pub plan : PlanFields
    pub mcus : List Mcu
    pub pads : List Bool
    pub trailer : List ℕ
    pub is : IsScanOf w file plan mcus pads trailer
    pub header_fits : plan.header_length < 2 ^ 32
    pub trailer_fits : length trailer < 2 ^ 32
    pub can : can_pad (layout_of version).listed (shape_of plan) (told_pads plan mcus pads) ≡ true
    pub spelled : made
        ≡ box_bytes (parts_of_file version plan mcus pads (take plan.header_length file) trailer most)

-- that of a file of one scan
abbrev pub IsContainerOfOne : Version → ℕ → List ℕ → List ℕ → Type 0
IsContainerOfOne version most made file = IsScanContainer only_walk version most made file
