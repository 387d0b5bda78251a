-- View: how a scan's shape is kept: its slots as components by their index in the frame, and the code words of each
-- (own).
use Rattle.std.specs.Prelude.{ℕ, ◌<◌, ◌≤◌, List, [], ◌∷◌, length, map, flat_map, take, replicate, get_or}
use Rattle.std.specs.List.{All}
use Rattle.jpeg_marker.specs.Frames.{area}
use Rattle.jpeg_marker.specs.Plans.{part_of}
use Rattle.jpeg_marker.specs.declared.component.Component.{Component}
use Rattle.huff_table.specs.ComponentTables.{no_codes}
use Rattle.huff_table.specs.declared.plan_codes.ComponentCodes.{ComponentCodes}
use Rattle.scan_spec.specs.Slots.{Shape}
use Rattle.scan_spec.specs.declared.slot.Slot.{Slot}
use Rattle.scan_spec.specs.declared.scan_shape.ScanShape.TheInside.{Inside}

-- the most blocks of an MCU (B.2.3)
abbrev pub most_slots : ℕ
most_slots = 10

-- the slot of a component, by the code words of all components
abbrev pub slot_in : List ComponentCodes → ℕ → Slot
slot_in codes component = record { component = component; codes = get_or codes component no_codes }

-- the component of each block of an MCU, for components whose sampling factors count (A.2.3)
abbrev pub each_index : List Component → List ℕ
each_index components = flat_map (λ part. replicate (area (part_of part)) part.index) components

-- the component of each block of an MCU: one block if there is one component (A.2.2, A.2.3)
abbrev pub component_indexes : List Component → List ℕ
component_indexes [] = []
component_indexes (c ∷ []) = c.index ∷ []
component_indexes (c ∷ d ∷ components) = each_index (c ∷ d ∷ components)

-- the shape that is kept
abbrev pub shape_in : Inside → Shape
shape_in s = record {
  slots = map (slot_in s.codes) (take s.blocks s.components);
  mcus = s.mcus;
  interval = s.interval;
}

-- what always holds of it
pub record IsShapeInside (s : Inside) : Type 0 where
  pub few : length s.codes ≤ 4
  pub blocks : s.blocks ≤ most_slots
  pub within : All (λ component. component < length s.codes) (take s.blocks s.components)
