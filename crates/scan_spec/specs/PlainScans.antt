-- Steps: what the plain program for a whole scan is given, and what it puts (own).
use Rattle.std.specs.Prelude.{ℕ, zero, suc, Bool, if◌then◌else◌, List, [], ◌∷◌, ◌++◌, take, drop, ℤ}
use Rattle.scan_spec.specs.Slots.{Shape}
use Rattle.scan_spec.specs.Scans.{Mcu, restart_marker}
use Rattle.scan_spec.specs.declared.slot.Slot.{Slot}

-- the shape of a scan by its parts
abbrev pub shape_with : List Slot → ℕ → ℕ → Shape
shape_with slots mcus interval = record { slots = slots; mcus = mcus; interval = interval }

-- blocks as MCUs of `size` blocks each, `count` of them
abbrev pub mcus_in : ℕ → ℕ → List (List ℤ) → List Mcu
mcus_in size zero blocks = []
mcus_in size (suc count) blocks = take size blocks ∷ mcus_in size count (drop size blocks)

-- the slots of one MCU, for each of `count` MCUs
abbrev pub slots_times : ℕ → List Slot → List Slot
slots_times zero slots = []
slots_times (suc count) slots = slots ++ slots_times count slots

-- the marker after an interval, none after the last one (B.2.1)
abbrev pub marker_between : Bool → ℕ → List ℕ
marker_between last number = if last then [] else restart_marker number
