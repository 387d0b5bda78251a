-- Law: what holds of all files (ITU-T T.81, B.2.1).
use Rattle.std.specs.Prelude.{ℕ, ◌≡◌, ◌≤◌, Bool, List, [], ◌∷◌, length}
use Rattle.std.specs.List.{AllByRecursion}
use Rattle.bit_list.specs.Bits.{IsByte}
use Rattle.jpeg_marker.specs.KnownBefore.{AreKnown}
use Rattle.jpeg_marker.specs.HeaderPlan.{Begins}
use Rattle.jpeg_marker.specs.Plans.{PlanFields}
use Rattle.jpeg_marker.specs.Walks.{Walk}
use Rattle.scan_spec.specs.Slots.{shape_of}
use Rattle.scan_spec.specs.ShapeInside.{most_slots}
use Rattle.scan_spec.specs.Scans.{Mcu}
use Rattle.scan_spec.specs.ScanLaws.{IsShape}
use Rattle.scan_spec.specs.FileParts.{FileScan, IsScanOf, IsFileOf, IsFile}

-- a header that is accepted gives the shape of a scan, of ten blocks in an MCU at most
abbrev pub BegunIsShape : Type 0
BegunIsShape =
    (w : Walk) (bytes : List ℕ) (plan : PlanFields) → AllByRecursion IsByte bytes
    → AreKnown w.known → Begins w bytes plan
    → IsShape (shape_of plan) × (length (shape_of plan).slots ≤ most_slots)

-- bytes that begin with a header and its scan determine its plan, its MCUs, the pad bit of each interval and what
-- follows its scan
abbrev pub OneScanOf : Type 0
OneScanOf =
    (w : Walk) (bytes after rest : List ℕ) (plan other : PlanFields) (mcus others : List Mcu)
    (pads bits : List Bool) → AllByRecursion IsByte bytes → AreKnown w.known
    → IsScanOf w bytes plan mcus pads after → IsScanOf w bytes other others bits rest
    → (plan ≡ other) × (mcus ≡ others) × (pads ≡ bits) × (after ≡ rest)

-- so a file determines its scans and its trailer
abbrev pub OneFile : Type 0
OneFile =
    (bytes trailer rest : List ℕ) (scans others : List FileScan) → AllByRecursion IsByte bytes
    → IsFile bytes scans trailer → IsFile bytes others rest → (scans ≡ others) × (trailer ≡ rest)

-- a file of one scan is one of several of which the first is the last
abbrev pub OneIsAll : Type 0
OneIsAll =
    (bytes trailer : List ℕ) (plan : PlanFields) (mcus : List Mcu) (pads : List Bool)
    → AllByRecursion IsByte bytes → IsFileOf bytes plan mcus pads trailer
    → IsFile bytes (record { plan = plan; mcus = mcus; pads = pads } ∷ []) trailer
