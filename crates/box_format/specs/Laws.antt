-- Law: what holds of all containers (own).
use Rattle.std.specs.Prelude.{ℕ, ◌≡◌, List}
use Rattle.std.specs.List.{AllByRecursion}
use Rattle.bit_list.specs.Bits.{IsByte}
use Rattle.jpeg_marker.specs.Plans.{PlanFields}
use Rattle.box_format.specs.Versions.{version_in, IsRead}
use Rattle.box_format.specs.Parts.{BoxSeen}
use Rattle.box_format.specs.Containers.{container_bytes, all_parts, all_plans, AreScans, IsContainerIn, IsContainer}
use Rattle.box_format.specs.Fields.{raws_of}
use Rattle.box_format.specs.Checks.{PassesChecks, IsRefusedBy, boxes_of}
use Rattle.box_format.specs.declared.version.Version.{Version}
use Rattle.box_format.specs.declared.refusal.BoxRefusal.{BoxRefusal}

-- a container's checks pass if its version is read, and its fields are its scans
abbrev pub ContainerPasses : Type 0
ContainerPasses =
    (versions : List Version) (version : Version) (scans : List BoxSeen) → IsRead versions version
    → AreScans version scans
    → let bytes = container_bytes version (all_parts scans) in
    PassesChecks versions (all_plans scans) bytes
    × (boxes_of (all_plans scans) (raws_of bytes) ≡ scans)

-- and bytes whose checks pass are the container of their fields
abbrev pub PassedIsContainer : Type 0
PassedIsContainer =
    (versions : List Version) (plans : List PlanFields) (bytes : List ℕ)
    → AllByRecursion IsByte bytes → PassesChecks versions plans bytes
    → IsContainerIn (version_in bytes) (boxes_of plans (raws_of bytes)) bytes
    × IsRead versions (version_in bytes)

-- so a container has one list of scans
abbrev pub OneListOfScans : Type 0
OneListOfScans =
    (scans others : List BoxSeen) (bytes : List ℕ) → IsContainer scans bytes
    → IsContainer others bytes → scans ≡ others

-- bytes have at most one refusal
abbrev pub OneRefusal : Type 0
OneRefusal =
    (versions : List Version) (bytes : List ℕ) (refusal other : BoxRefusal)
    → IsRefusedBy versions bytes refusal → IsRefusedBy versions bytes other → refusal ≡ other

-- and no bytes are both
abbrev pub NeverBoth : Type 0
NeverBoth =
    (versions : List Version) (version : Version) (scans : List BoxSeen) (bytes : List ℕ)
    (refusal : BoxRefusal) → IsRead versions version → IsContainerIn version scans bytes
    → IsRefusedBy versions bytes refusal → ⊥
