-- The shape of the scan of a plan.
use Rattle.std.proofs.Common.{◌≡◌, ℕ, zero, suc, ◌+◌, ◌<◌, ◌≤◌, Bool, false, ◌==◌, List, [], ◌∷◌, ◌++◌, length, map, replicate, cond, refl, sym, ap, ◌∙◌, arith, length-append}
use Rattle.std.specs.Prelude.{flat_map}
use Rattle.std.specs.List.{AllByRecursion, sum_by}
use Rattle.std.proofs.lemmas.Bool.Decides.{nat_tests}
use Rattle.std.proofs.lemmas.List.{length-map, length-replicate}
use Rattle.std.proofs.lemmas.List.Sums.{sum_by-cons}
use Rattle.std.proofs.Math.Nat.{one-le-mul}
use Rattle.jpeg_marker.specs.Frames.{area}
use Rattle.jpeg_marker.specs.Plans.{PlanFields, IsPlan, part_of, blocks_in_mcu}
use Rattle.jpeg_marker.specs.declared.component.Component.{Component}
use Rattle.jpeg_marker.specs.AcceptedPlans.{HasTables, CanScan}
use Rattle.jpeg_marker.proofs.PlanGrids.{some_block, few_in_mcu}
use Rattle.jpeg_marker.specs.FirstWalks.{only_walk}
use Rattle.jpeg_marker.specs.HeaderPlan.{Accepts}
use Rattle.jpeg_marker.proofs.HeadersTaken.{begun_has_plan, none_known}
use Rattle.jpeg_marker.proofs.Choices.{Rising, rising_is}
use Rattle.huff_table.proofs.FrameComponents.{index_of}
use Rattle.bit_list.specs.Bits.{IsByte}
use Rattle.scan_spec.specs.Slots.{slot_of, slots_of, shape_of}
use Rattle.scan_spec.specs.ShapeInside.{most_slots}
use Rattle.scan_spec.specs.ScanLaws.{IsSlot, IsShape}
use Rattle.scan_spec.specs.FileLaws.{BegunIsShape}
use Rattle.scan_spec.specs.declared.slot.Slot.{Slot}

slot_is : (c : Component) → c.index < 4 → HasTables c → IsSlot (slot_of c)
slot_is c below has = record { component = below; dc = has.dc; ac = has.ac; bytes = has.ac_bytes }

each_is : (n : ℕ) (s : Slot) → IsSlot s → AllByRecursion IsSlot (replicate n s)
each_is zero s is = tt
each_is (suc n) s is = (is, each_is n s is)

all-append : (xs ys : List Slot) → AllByRecursion IsSlot xs → AllByRecursion IsSlot ys → AllByRecursion IsSlot (xs ++ ys)
all-append [] ys p q = q
all-append (x ∷ xs) ys p q = (p.0, all-append xs ys p.1 q)

-- the slots of components, each as often as its sampling factors say
abbrev each_slot : List Component → List Slot
each_slot components = flat_map (λ part. replicate (area (part_of part)) (slot_of part)) components

each_are : (from : ℕ) (components : List Component) → Rising from 4 (map index_of components) → AllByRecursion HasTables components → AllByRecursion IsSlot (each_slot components)
each_are from [] rising all = tt
each_are from (c ∷ components) rising all =
    all-append (replicate (area (part_of c)) (slot_of c)) (each_slot components)
    (each_is (area (part_of c)) (slot_of c) (slot_is c rising.1 all.0))
    (each_are (c.index + 1) components rising.2 all.1)

slots_are : (components : List Component) → Rising 0 4 (map index_of components) → AllByRecursion HasTables components → AllByRecursion IsSlot (slots_of components)
slots_are [] rising all = tt
slots_are (c ∷ []) rising all = (slot_is c rising.1 all.0, tt)
slots_are (c ∷ d ∷ components) rising all = each_are 0 (c ∷ d ∷ components) rising all

-- as many as there are blocks
pub each_count : (components : List Component) → length (each_slot components) ≡ sum_by area (map part_of components)
each_count [] = refl
each_count (c ∷ components) =
    omega (arith, length-append (replicate (area (part_of c)) (slot_of c)) (each_slot components), length-replicate (area (part_of c)) (slot_of c), each_count components, sum_by-cons area (part_of c) (map part_of components))

pub slots_count : (components : List Component) → 1 ≤ length components → length (slots_of components) ≡ blocks_in_mcu (map part_of components)
slots_count [] some = absurd (omega arith)
slots_count (c ∷ []) some = refl
slots_count (c ∷ d ∷ components) some =
    let test : (length (map part_of (c ∷ d ∷ components)) == 1) ≡ false = grind (arith, nat_tests) in
    each_count (c ∷ d ∷ components) ∙ sym (ap (λ (b : Bool). cond b 1 (sum_by area (map part_of (c ∷ d ∷ components)))) test)

-- a plan's scan
shape_is : (plan : PlanFields) → IsPlan plan → AllByRecursion HasTables plan.components → IsShape (shape_of plan) × (length (shape_of plan).slots ≤ most_slots)
shape_is plan is tables =
    let count = slots_count plan.components is.some in
    let some = some_block (map part_of plan.components) (omega (arith, is.some, length-map plan.components part_of)) is.components in (
      record {
        some = omega (arith, count, some);
        slots = slots_are plan.components (rising_is 0 4 _ is.indexes) tables;
        mcus = one-le-mul is.wide is.high;
      },
      omega (arith, count, few_in_mcu (map part_of plan.components) is.components),
    )

-- of a plan whose scan can follow its header
pub can_be_shape : (bytes : List ℕ) (plan : PlanFields) → CanScan bytes plan → IsShape (shape_of plan) × (length (shape_of plan).slots ≤ most_slots)
can_be_shape bytes plan can = shape_is plan can.is_plan can.tables

pub begun_is_shape : BegunIsShape
begun_is_shape w bytes plan all known is =
    let has = begun_has_plan w bytes plan all known is in
    shape_is plan has.is_plan has.tables

-- the same of a file of one scan
pub accepted_is_shape : (bytes : List ℕ) (plan : PlanFields) → AllByRecursion IsByte bytes → Accepts bytes plan → IsShape (shape_of plan) × (length (shape_of plan).slots ≤ most_slots)
accepted_is_shape bytes plan all is = begun_is_shape only_walk bytes plan all none_known is
