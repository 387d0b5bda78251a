-- Law: what holds of the plan of every header that is accepted (ITU-T T.81, B.2).
use Rattle.std.specs.Prelude.{ℕ, ◌+◌, ◌≤◌, ◌≡◌, true, false, List, ◌++◌, length, take, drop, map, Some, IfSome}
use Rattle.std.specs.List.{AllByRecursion, list_any}
use Rattle.jpeg_marker.specs.HuffmanTables.{IsTable}
use Rattle.jpeg_marker.specs.Frames.{FrameFields, IsFrame}
use Rattle.jpeg_marker.specs.Plans.{PlanFields, IsPlan, is_coded, coded_after, are_all_coded, most_blocks}
use Rattle.jpeg_marker.specs.KnownBefore.{AreBytes, AreKnown, IsSound}
use Rattle.jpeg_marker.specs.HeaderPlan.{Begins, Accepts, Opens, AcceptsNext}
use Rattle.jpeg_marker.specs.Walks.{Walk, walk_from}
use Rattle.jpeg_marker.specs.declared.component.Component.{Component}
use Rattle.jpeg_marker.specs.declared.scans.Scans.{Scans}
use Rattle.jpeg_marker.specs.declared.scans.Scans.TheVariants.{One, Several}
use Rattle.jpeg_marker.specs.declared.definitions.Definitions.{Definitions}

-- both tables of a component are tables, and their values bytes (B.2.4.2)
pub record HasTables (c : Component) : Type 0 where
  pub dc : IsTable c.dc
  pub ac : IsTable c.ac
  pub dc_bytes : AreBytes c.dc.values
  pub ac_bytes : AreBytes c.ac.values

-- a frame, and tables
pub record IsKnown (known : Definitions) : Type 0 where
  pub frame : FrameFields
  pub there : known.frame ≡ Some frame
  pub is_frame : IsFrame frame
  pub tables : AllByRecursion (λ t. IfSome t IsSound) known.tables

-- A plan of bytes that begin with a header of a file, whichever one (B.2.1): it is one that `Plan` keeps; its
-- components have tables; the header is no longer than the bytes, and determines the plan wherever it is and whatever
-- follows it; a frame and tables are known after it; the scan has no component that a scan before had, and its
-- components and blocks are counted with those before.
pub record HasBegun (w : Walk) (bytes : List ℕ) (plan : PlanFields) : Type 0 where
  pub is_plan : IsPlan plan
  pub tables : AllByRecursion HasTables plan.components
  pub within : plan.header_length ≤ length bytes
  pub alone : (place : ℕ) (rest : List ℕ)
      → Begins (walk_from w.known w.scans place w.start) (take plan.header_length bytes ++ rest) plan
  pub known : IsKnown plan.known
  pub fresh : list_any (is_coded w.known.coded) (map (λ c. c.index) plan.components) ≡ false
  pub coded : plan.known.coded
      ≡ coded_after w.known.coded (map (λ c. c.index) plan.components)
  pub blocks : plan.known.blocks ≡ w.known.blocks + plan.blocks
  pub few : plan.known.blocks ≤ most_blocks

-- every header of a file has such a plan, after a frame and tables
abbrev pub BegunHasPlan : Type 0
BegunHasPlan =
    (w : Walk) (bytes : List ℕ) (plan : PlanFields) → AreBytes bytes → AreKnown w.known
    → Begins w bytes plan → HasBegun w bytes plan

-- bytes can have the scan of a plan after its header: it is a plan that `Plan` keeps, its components have tables, and
-- the header is no longer than the bytes
pub record CanScan (bytes : List ℕ) (plan : PlanFields) : Type 0 where
  pub is_plan : IsPlan plan
  pub tables : AllByRecursion HasTables plan.components
  pub within : plan.header_length ≤ length bytes

-- A plan of bytes that begin with a file's first header (B.2.1): it is one that `Plan` keeps; its components have
-- tables; the header is no longer than the bytes, and determines the plan whatever follows it; a frame and tables are
-- known after it.
pub record HasOpened (scans : Scans) (bytes : List ℕ) (plan : PlanFields) : Type 0 where
  pub is_plan : IsPlan plan
  pub tables : AllByRecursion HasTables plan.components
  pub within : plan.header_length ≤ length bytes
  pub alone : (rest : List ℕ) → Opens scans (take plan.header_length bytes ++ rest) plan
  pub known : IsKnown plan.known

-- the same of a file of one scan
abbrev pub HasPlan : List ℕ → PlanFields → Type 0
HasPlan bytes plan = HasOpened One bytes plan

-- every accepted header has such a plan
abbrev pub AcceptedHasPlan : Type 0
AcceptedHasPlan =
    (scans : Scans) (bytes : List ℕ) (plan : PlanFields) → AreBytes bytes
    → Opens scans bytes plan → HasOpened scans bytes plan

-- a file's one scan has all of the frame's components, so that none follows
abbrev pub OneIsLast : Type 0
OneIsLast =
    (bytes : List ℕ) (plan : PlanFields) → AreBytes bytes → Accepts bytes plan
    → are_all_coded plan.known plan.known.frame ≡ true

-- a header of a file of one scan is one of a file of several, and says the same
abbrev pub OneIsSeveral : Type 0
OneIsSeveral =
    (bytes : List ℕ) (plan : PlanFields) → Accepts bytes plan → Opens Several bytes plan

-- and a first header of a file of several, whose scan is the last, is one of a file of one scan
abbrev pub SeveralIsOne : Type 0
SeveralIsOne =
    (bytes : List ℕ) (plan : PlanFields) → AreBytes bytes → Opens Several bytes plan
    → are_all_coded plan.known plan.known.frame ≡ true → Accepts bytes plan

-- A plan of the header of a further scan, which is at a place: also, the header says it at place 0, the frame stays,
-- the scan has no component that a scan before had, and its components and blocks are counted with those before.
pub record HasNextPlan (plan : PlanFields) (bytes : List ℕ) (place : ℕ) (next : PlanFields)
    : Type 0 where
  pub is_plan : IsPlan next
  pub tables : AllByRecursion HasTables next.components
  pub within : next.header_length ≤ length (drop place bytes)
  pub alone : (rest : List ℕ)
      → AcceptsNext plan (take next.header_length (drop place bytes) ++ rest) 0 next
  pub known : IsKnown next.known
  pub frame : next.known.frame ≡ plan.known.frame
  pub fresh : list_any (is_coded plan.known.coded) (map (λ c. c.index) next.components) ≡ false
  pub coded : next.known.coded
      ≡ coded_after plan.known.coded (map (λ c. c.index) next.components)
  pub blocks : next.known.blocks ≡ plan.known.blocks + next.blocks

-- every such header has one
abbrev pub NextHasPlan : Type 0
NextHasPlan =
    (plan : PlanFields) (bytes : List ℕ) (place : ℕ) (next : PlanFields)
    → AreBytes bytes → IsKnown plan.known → AcceptsNext plan bytes place next
    → HasNextPlan plan bytes place next
