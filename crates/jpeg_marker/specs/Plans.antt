-- Statement: what a header says as a whole (ITU-T T.81, A.1.1, A.2, B.2.3).
use Rattle.std.specs.Prelude.{ℕ, ◌+◌, ◌-◌, ◌*◌, ◌/◌, ◌%◌, ◌≡◌, ◌≤◌, max, fold, Bool, true, false, not, List, [], ◌∷◌, length, drop, take, map, set, sum_by, get_or, ◌==◌, ◌&&◌, ◌||◌, nat_lt, nat_le, Option, Some, None, option_map, if◌then◌else◌, IsTrue}
use Rattle.std.specs.Option.{option_or}
use Rattle.std.specs.List.{list_all, list_any}
use Rattle.jpeg_marker.specs.declared.refusal.HeaderRefusal.{HeaderRefusal}
use Rattle.jpeg_marker.specs.declared.refusal.HeaderRefusal.TheVariants.{LengthBad, NoFrame, MultiScan, ScanParams, NoTable, TooManyBlocks}
use Rattle.jpeg_marker.specs.declared.parameters.FrameComponent.{FrameComponent}
use Rattle.jpeg_marker.specs.declared.parameters.ScanComponent.{ScanComponent}
use Rattle.jpeg_marker.specs.declared.component.Component.{Component}
use Rattle.jpeg_marker.specs.declared.definitions.Definitions.{Definitions}
use Rattle.jpeg_marker.specs.declared.scans.Scans.{Scans}
use Rattle.jpeg_marker.specs.declared.scans.Scans.TheVariants.{One, Several}
use Rattle.jpeg_marker.specs.HuffmanTables.{TableFields}
use Rattle.jpeg_marker.specs.HeldTables.{table_in}
use Rattle.jpeg_marker.specs.Frames.{FrameFields, no_part, area, are_components}

-- the scan's components with their tables, its MCUs across and down, the restart interval in MCUs, how many bytes the
-- header has, how many blocks the scan has, and what is known after the scan
pub record PlanFields : Type 0 where
  pub components : List Component
  pub across : ℕ
  pub down : ℕ
  pub interval : ℕ
  pub header_length : ℕ
  pub blocks : ℕ
  pub known : Definitions

-- two bytes for a component of the scan: its identifier, and the numbers of its two tables (B.2.3)
abbrev pub selectors_of : List ℕ → List ScanComponent
selectors_of [] = []
selectors_of (id ∷ []) = []
selectors_of (id ∷ tables ∷ bytes) =
    record { id = id; dc = tables / 16; ac = tables % 16 } ∷ selectors_of bytes

-- how many components a scan has, and each of them
abbrev pub scan_count : List ℕ → ℕ
scan_count body = get_or body 0 0

-- its components (B.2.3)
abbrev pub scan_selectors : List ℕ → List ScanComponent
scan_selectors body = selectors_of (take (2 * scan_count body) (drop 1 body))

-- The indexes of the frame's components that the scan names, in the frame's order, `index` being that of the frame's
-- first one here; none if it names another or one out of this order (B.2.3).
abbrev pub indexes_from : ℕ → List FrameComponent → List ScanComponent → Option (List ℕ)
indexes_from index parts [] = Some []
indexes_from index [] (s ∷ selectors) = None
indexes_from index (p ∷ parts) (s ∷ selectors) =
    if p.id == s.id
    then option_map (λ others. index ∷ others) (indexes_from (index + 1) parts selectors)
    else indexes_from (index + 1) parts (s ∷ selectors)

-- numbers of tables from 0 to 3 (B.2.3; that baseline files may have 2 and 3 too is own)
abbrev pub is_in_range : ScanComponent → Bool
is_in_range s = nat_le s.dc 3 && nat_le s.ac 3

-- spectral selection from 0 to 63, and no successive approximation, after the components (B.2.3)
abbrev pub is_sequential : List ℕ → Bool
is_sequential bytes = get_or bytes 0 0 == 0 && get_or bytes 1 0 == 63 && get_or bytes 2 0 == 0

-- a component of an index with its tables, if it has both
abbrev pub component_with : ℕ → FrameComponent → Option TableFields → Option TableFields
    → Option Component
component_with index p (Some dc) (Some ac) =
    Some (record { index = index; id = p.id; h = p.h; v = p.v; dc = dc; ac = ac })
component_with index p (Some dc) None = None
component_with index p None ac = None

-- a component before the others, if there are all
abbrev pub with_prefix : Option Component → Option (List Component) → Option (List Component)
with_prefix (Some first) (Some others) = Some (first ∷ others)
with_prefix (Some first) None = None
with_prefix None others = None

-- a component with the tables that the scan names, if both are there
abbrev pub component_of : (ℕ → ℕ → Option TableFields) → ℕ → FrameComponent → ScanComponent
    → Option Component
component_of table index p s = component_with index p (table 0 s.dc) (table 1 s.ac)

-- components by their indexes with the tables that the scan names, if all are there
abbrev pub components_of : (ℕ → ℕ → Option TableFields) → List ℕ → List FrameComponent
    → List ScanComponent → Option (List Component)
components_of table [] parts selectors = Some []
components_of table (index ∷ indexes) [] selectors = Some []
components_of table (index ∷ indexes) (p ∷ parts) [] = Some []
components_of table (index ∷ indexes) (p ∷ parts) (s ∷ selectors) =
    with_prefix (component_of table index p s) (components_of table indexes parts selectors)

-- the frame's components of these indexes
abbrev pub parts_at : List FrameComponent → List ℕ → List FrameComponent
parts_at parts indexes = map (λ index. get_or parts index no_part) indexes

-- components by their indexes, if any, with the tables that the scan names, if all are there
abbrev pub components_at : (ℕ → ℕ → Option TableFields) → List FrameComponent → Option (List ℕ)
    → List ScanComponent → Option (List Component)
components_at table parts None selectors = None
components_at table parts (Some indexes) selectors =
    components_of table indexes (parts_at parts indexes) selectors

-- the components that a scan names with their tables, if all are there
abbrev pub scan_components : Definitions → FrameFields → List ℕ → Option (List Component)
scan_components known f body =
    components_at (table_in known.tables) f.parts (indexes_from 0 f.parts (scan_selectors body))
    (scan_selectors body)

-- what the frame says of a component
abbrev pub part_of : Component → FrameComponent
part_of c = record { id = c.id; h = c.h; v = c.v }

-- the largest sampling factor (A.1.1)
abbrev pub largest : (FrameComponent → ℕ) → List FrameComponent → ℕ
largest factor parts = fold (λ most p. max most (factor p)) 1 parts

-- samples of a component across or down, by those of the picture, the component's sampling factor and the largest one
-- (A.1.1)
abbrev pub sampled : ℕ → ℕ → ℕ → ℕ
sampled samples factor most = (samples * factor + (most - 1)) / most

-- MCUs that cover these samples, each as wide, or as high, as `blocks` blocks of eight samples (A.2.4)
abbrev pub cover : ℕ → ℕ → ℕ
cover samples blocks = (samples + (8 * blocks - 1)) / (8 * blocks)

-- MCUs of a scan across or down: if it has one component, those of one block that cover that component's samples
-- (A.2.2); else those that cover the picture, as large as the largest sampling factor of the frame (A.2.3)
abbrev pub mcus_of : (FrameComponent → ℕ) → ℕ → List FrameComponent → List FrameComponent → ℕ
mcus_of factor samples parts scan =
    if length scan == 1
    then cover (sampled samples (factor (get_or scan 0 no_part)) (largest factor parts)) 1
    else cover samples (largest factor parts)

-- MCUs in a row
abbrev pub across_of : FrameFields → List FrameComponent → ℕ
across_of f scan = mcus_of (λ p. p.h) f.width f.parts scan

-- rows of MCUs
abbrev pub down_of : FrameFields → List FrameComponent → ℕ
down_of f scan = mcus_of (λ p. p.v) f.height f.parts scan

-- blocks in an MCU: one if the scan has one component (A.2.2, A.2.3)
abbrev pub blocks_in_mcu : List FrameComponent → ℕ
blocks_in_mcu parts = if length parts == 1 then 1 else sum_by area parts

-- blocks of a scan's whole grid (A.2)
abbrev pub blocks_of : FrameFields → List FrameComponent → ℕ
blocks_of f scan = across_of f scan * down_of f scan * blocks_in_mcu scan

-- the most blocks of all scans that are accepted (own)
abbrev pub most_blocks : ℕ
most_blocks = 16777216

-- whether a scan had the component of an index, by which components scans had
abbrev pub is_coded : List Bool → ℕ → Bool
is_coded coded index = get_or coded index false

-- which components scans had, after one more with the components of these indexes
abbrev pub coded_after : List Bool → List ℕ → List Bool
coded_after coded indexes = fold (λ all index. set all index true) coded indexes

-- whether a scan of `count` of `all` components leaves some out that no further scan may have
abbrev pub leaves_out : Scans → ℕ → ℕ → Bool
leaves_out One count all = nat_le 1 count && nat_lt count all
leaves_out Several count all = false

-- whether these indexes are refused: the scan names no components in the frame's order, or one that a scan before had
abbrev pub indexes_fault : List Bool → Option (List ℕ) → Option HeaderRefusal
indexes_fault coded None = Some ScanParams
indexes_fault coded (Some indexes) =
    if list_any (is_coded coded) indexes then Some MultiScan else None

-- The first check that the scan's components fail, with these in the frame, those that scans before had, and the
-- segment's length at a place (B.2.3): a length that fits their number; all of the frame's components if the file has
-- one scan; some of them, in its order; none that a scan before had.
abbrev pub order_fault : Scans → List Bool → List FrameComponent → ℕ → List ℕ
    → Option HeaderRefusal
order_fault scans coded parts at body =
    if nat_lt (length body) 1 || not (length body == 4 + 2 * scan_count body)
    then Some (LengthBad at)
    else if leaves_out scans (scan_count body) (length parts) then Some MultiScan
    else if scan_count body == 0 || nat_lt (length parts) (scan_count body) then Some ScanParams
    else indexes_fault coded (indexes_from 0 parts (scan_selectors body))

-- whether its numbers are refused: tables of a number of at most 3, and a sequential scan (B.2.3)
abbrev pub range_fault : List ℕ → Option HeaderRefusal
range_fault body =
    if list_all is_in_range (scan_selectors body)
    && is_sequential (drop (1 + 2 * scan_count body) body) then None
    else Some ScanParams

-- what fails then: a table that isn't there (B.2.3), or more blocks with those of the scans before than are accepted
-- (own)
abbrev pub plan_fault : ℕ → FrameFields → Option (List Component) → Option HeaderRefusal
plan_fault before f None = Some NoTable
plan_fault before f (Some components) =
    if nat_lt most_blocks (before + blocks_of f (map part_of components)) then Some TooManyBlocks
    else None

-- the first check that a scan fails after what is known, with its frame, if any
abbrev pub scan_fault : Scans → Definitions → Option FrameFields → ℕ → List ℕ
    → Option HeaderRefusal
scan_fault scans known None at body = Some NoFrame
scan_fault scans known (Some f) at body =
    option_or (order_fault scans known.coded f.parts at body)
    (option_or (range_fault body)
    (plan_fault known.blocks f (scan_components known f body)))

-- a plan of these components and this frame
abbrev pub plan_with : Definitions → FrameFields → ℕ → List Component → PlanFields
plan_with known f header_length components =
    let parts = map part_of components in
    record {
      components = components;
      across = across_of f parts;
      down = down_of f parts;
      interval = known.interval;
      header_length = header_length;
      blocks = blocks_of f parts;
      known = record known {
        coded = coded_after known.coded (map (λ c. c.index) components);
        blocks = known.blocks + blocks_of f parts;
      };
    }

-- the plan of a scan after what is known, with its frame, if any
abbrev pub plan_after : Definitions → Option FrameFields → ℕ → List ℕ → Option PlanFields
plan_after known None header_length body = None
plan_after known (Some f) header_length body =
    option_map (plan_with known f header_length) (scan_components known f body)

-- the plan of a header that is at a place of a file, with all bytes before its scan as its header
abbrev pub plan_at : ℕ → PlanFields → PlanFields
plan_at place plan = record plan { header_length = place + plan.header_length }

-- whether indexes rise, from `from` on and below `below`
abbrev pub are_indexes : ℕ → ℕ → List ℕ → Bool
are_indexes from below [] = true
are_indexes from below (index ∷ indexes) =
    nat_le from index && nat_lt index below && are_indexes (index + 1) below indexes

-- some of a frame's components in its order, by their indexes
pub record IsChoice (parts : List FrameComponent) (indexes : List ℕ) : Type 0 where
  pub some : 1 ≤ length indexes
  pub rising : IsTrue (are_indexes 0 (length parts) indexes)

-- sampling factors from 1 to the largest ones
pub record IsWithin (parts : List FrameComponent) (p : FrameComponent) : Type 0 where
  pub wide : 1 ≤ p.h
  pub narrow : p.h ≤ largest (λ q. q.h) parts
  pub high : 1 ≤ p.v
  pub low : p.v ≤ largest (λ q. q.v) parts

-- what a plan keeps: one to four components as a frame may have them, in its order, and the blocks of the grid, which
-- are not too many
pub record IsPlan (p : PlanFields) : Type 0 where
  pub some : 1 ≤ length p.components
  pub few : length p.components ≤ 4
  pub indexes : IsTrue (are_indexes 0 4 (map (λ c. c.index) p.components))
  pub components : IsTrue (are_components (map part_of p.components))
  pub grid : p.blocks ≡ p.across * p.down * blocks_in_mcu (map part_of p.components)
  pub blocks : p.blocks ≤ most_blocks
  pub wide : 1 ≤ p.across
  pub high : 1 ≤ p.down

-- whether the scans up to this one had all of the frame's components
abbrev pub are_all_coded : Definitions → Option FrameFields → Bool
are_all_coded known None = false
are_all_coded known (Some f) = list_all (λ coded. coded) (take (length f.parts) known.coded)
