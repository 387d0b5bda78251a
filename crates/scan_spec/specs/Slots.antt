-- Statement: the blocks of an MCU, and the MCUs of a scan (ITU-T T.81, A.2, B.2.3, B.2.4.4).
use Rattle.std.specs.Prelude.{ℕ, ◌*◌, List, [], ◌∷◌, replicate, flat_map}
use Rattle.jpeg_marker.specs.Frames.{area}
use Rattle.jpeg_marker.specs.Plans.{PlanFields, part_of}
use Rattle.jpeg_marker.specs.declared.component.Component.{Component}
use Rattle.huff_table.specs.ComponentTables.{tables_of}
use Rattle.scan_spec.specs.declared.slot.Slot.{Slot}

-- a block of a component, by its index in the frame
abbrev pub slot_of : Component → Slot
slot_of c = record { component = c.index; codes = tables_of c }

-- The blocks of an MCU in their order: one if the scan has one component, whatever its sampling (A.2.2), else as many
-- of each as its sampling factors say (A.2.3).
abbrev pub slots_of : List Component → List Slot
slots_of [] = []
slots_of (c ∷ []) = slot_of c ∷ []
slots_of (c ∷ d ∷ components) =
    flat_map (λ part. replicate (area (part_of part)) (slot_of part)) (c ∷ d ∷ components)

-- what a scan is made of (own): the blocks of an MCU, how many MCUs there are, and how many MCUs a restart interval
-- has, 0 if there are no restarts (B.2.4.4)
pub record Shape : Type 0 where
  pub slots : List Slot
  pub mcus : ℕ
  pub interval : ℕ

-- the shape of a plan's scan (A.2)
abbrev pub shape_of : PlanFields → Shape
shape_of plan = record {
  slots = slots_of plan.components;
  mcus = plan.across * plan.down;
  interval = plan.interval;
}
