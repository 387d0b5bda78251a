-- Steps: a file by the place of its trailer, and where its segments start (own).
use Rattle.std.specs.Prelude.{ℕ, ◌≡◌, Bool, List}
use Rattle.jpeg_marker.specs.Plans.{PlanFields}
use Rattle.jpeg_marker.specs.AcceptedPlans.{CanScan}
use Rattle.scan_spec.specs.Slots.{shape_of}
use Rattle.scan_spec.specs.Scans.{Mcu}
use Rattle.scan_spec.specs.ScanLaws.{Begins}
use Rattle.segment_code.specs.FileStarts.{StartsFields, starts_of}

-- a file by its header's plan, its MCUs, its pad bits and the place of its trailer (T.81 B.2.1)
pub record IsFileAt (bytes : List ℕ) (plan : PlanFields) (mcus : List Mcu) (pads : List Bool)
    (trailer : ℕ) : Type 0 where
  pub can : CanScan bytes plan
  pub scan : Begins (shape_of plan) mcus pads bytes plan.header_length trailer

-- the starts of a file's segments, of at most `most`
pub record AreStarts (plan : PlanFields) (bytes : List ℕ) (most : ℕ) (starts : StartsFields)
    : Type 0 where
  pub mcus : List Mcu
  pub pads : List Bool
  pub file : IsFileAt bytes plan mcus pads starts.trailer
  pub are : starts ≡ starts_of plan mcus pads starts.trailer most
