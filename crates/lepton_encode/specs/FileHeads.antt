-- Steps: the headers of a file of several scans, by their places (own).
use Rattle.std.specs.Prelude.{ℕ, ◌≡◌, ◌≤◌, Bool, true, false, List, [], ◌∷◌, length, drop}
use Rattle.jpeg_marker.specs.KnownBefore.{AreKnown}
use Rattle.jpeg_marker.specs.HeaderPlan.{Begins}
use Rattle.jpeg_marker.specs.Plans.{PlanFields, plan_at}
use Rattle.jpeg_marker.specs.Walks.{Walk, next_walk}
use Rattle.scan_spec.specs.FileParts.{is_last}
use Rattle.scan_spec.specs.ScanLaws.{Begins as ScanBegins}
use Rattle.scan_spec.specs.Scans.{Mcu}
use Rattle.scan_spec.specs.Slots.{shape_of}
use Rattle.lepton_encode.specs.declared.heads.Head.{Head}

-- a header of a file, which a walk passes: its plan, which is kept with all bytes before the scan as its header
pub record IsHead (w : Walk) (file : List ℕ) (h : Head) : Type 0 where
  pub plan : PlanFields
  pub known : AreKnown w.known
  pub within : w.place ≤ length file
  pub begins : Begins w (drop w.place file) plan
  pub place : h.place ≡ w.place
  pub moved : h.plan ≡ plan_at w.place plan

-- its scan ends at a place
pub record EndsAt (file : List ℕ) (h : Head) (after : ℕ) : Type 0 where
  pub mcus : List Mcu
  pub pads : List Bool
  pub scan : ScanBegins (shape_of h.plan) mcus pads file h.plan.header_length after

-- the walk over a header there
abbrev pub walk_after : Head → ℕ → Walk
walk_after h after = next_walk h.plan.known after

-- a header follows the scan of another
pub record Follows (file : List ℕ) (h next : Head) : Type 0 where
  pub ends : EndsAt file h next.place
  pub head : IsHead (walk_after h next.place) file next

-- the headers from one on, each after the scan of the one before, through that of the last scan
abbrev pub AreHeads : Walk → List ℕ → List Head → Type 0
AreHeads w file [] = ⊥
AreHeads w file (h ∷ []) = IsHead w file h × (is_last h.plan ≡ true)
AreHeads w file (h ∷ g ∷ heads) =
    IsHead w file h × (is_last h.plan ≡ false) × (after : ℕ) × EndsAt file h after
    × AreHeads (walk_after h after) file (g ∷ heads)
