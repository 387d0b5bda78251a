-- Statement: a file by its parts, headers with their scans and what follows the last one (ITU-T T.81, B.2.1).
use Rattle.std.specs.Prelude.{ℕ, ◌≡◌, Bool, true, false, List, [], ◌∷◌, ◌++◌, drop}
use Rattle.jpeg_marker.specs.Plans.{PlanFields, are_all_coded}
use Rattle.jpeg_marker.specs.Walks.{Walk, next_walk}
use Rattle.jpeg_marker.specs.FirstWalks.{only_walk, opening_walk}
use Rattle.jpeg_marker.specs.HeaderPlan.{Begins}
use Rattle.scan_spec.specs.Slots.{shape_of}
use Rattle.scan_spec.specs.Scans.{Mcu, IsScan}

-- bytes by the header that they begin with and its scan: the header's plan, the MCUs, the pad bit of each interval, and
-- what follows the scan
pub record IsScanOf (w : Walk) (bytes : List ℕ) (plan : PlanFields) (mcus : List Mcu)
    (pads : List Bool) (rest : List ℕ) : Type 0 where
  pub header : Begins w bytes plan
  pub scan : List ℕ
  pub is : IsScan (shape_of plan) mcus pads scan
  pub text : drop plan.header_length bytes ≡ scan ++ rest

-- a file of one scan
abbrev pub IsFileOf : List ℕ → PlanFields → List Mcu → List Bool → List ℕ → Type 0
IsFileOf bytes plan mcus pads trailer = IsScanOf only_walk bytes plan mcus pads trailer

-- a scan of a file: its header's plan, its MCUs, and the pad bit of each of its intervals
pub record FileScan : Type 0 where
  pub plan : PlanFields
  pub mcus : List Mcu
  pub pads : List Bool

-- whether no scan follows: those up to this one had all of the frame's components
abbrev pub is_last : PlanFields → Bool
is_last plan = are_all_coded plan.known plan.known.frame

-- scans one after another, each with its header before it, through the last one, and then the trailer
abbrev pub AreScans : Walk → List ℕ → List FileScan → List ℕ → Type 0
AreScans w bytes [] trailer = ⊥
AreScans w bytes (s ∷ []) trailer =
    IsScanOf w bytes s.plan s.mcus s.pads trailer × (is_last s.plan ≡ true)
AreScans w bytes (s ∷ t ∷ scans) trailer =
    (rest : List ℕ) × IsScanOf w bytes s.plan s.mcus s.pads rest × (is_last s.plan ≡ false)
    × AreScans (next_walk s.plan.known 0) rest (t ∷ scans) trailer

-- a file by its scans, one or several, and its trailer
abbrev pub IsFile : List ℕ → List FileScan → List ℕ → Type 0
IsFile bytes scans trailer = AreScans opening_walk bytes scans trailer
