-- The grid of a plan suits its scan.
use Rattle.std.proofs.Common.{◌≡◌, ℕ, zero, suc, ◌+◌, ◌*◌, ◌<◌, ◌≤◌, Bool, true, false, cond, ◌==◌, List, [], ◌∷◌, length, map, Option, Some, None, refl, sym, ap, ◌∙◌, arith}
use Rattle.std.specs.Option.{option_map_or}
use Rattle.std.specs.List.{AllByRecursion, sum_by}
use Rattle.std.proofs.lemmas.Bool.{eqb-true}
use Rattle.std.proofs.lemmas.Bool.Decides.{nat_tests}
use Rattle.std.proofs.lemmas.List.{length-map}
use Rattle.std.proofs.lemmas.List.Sums.{sum_by-cons}
use Rattle.bit_list.specs.Bits.{IsByte}
use Rattle.coef_block.specs.BlockRows.{block_count}
use Rattle.jpeg_marker.specs.Frames.{area}
use Rattle.jpeg_marker.specs.KnownBefore.{AreKnown}
use Rattle.jpeg_marker.specs.HeaderPlan.{Begins}
use Rattle.jpeg_marker.specs.Walks.{Walk}
use Rattle.jpeg_marker.specs.Plans.{PlanFields, IsPlan, part_of, blocks_in_mcu}
use Rattle.jpeg_marker.specs.declared.component.Component.{Component}
use Rattle.jpeg_marker.proofs.Choices.{Rising, rising_is}
use Rattle.jpeg_marker.proofs.HeadersTaken.{begun_has_plan}
use Rattle.jpeg_marker.proofs.PlanGrids.{some_block}
use Rattle.huff_table.specs.ComponentTables.{component_at}
use Rattle.huff_table.proofs.FrameComponents.{index_of, none_below}
use Rattle.scan_spec.specs.Slots.{shape_of}
use Rattle.scan_spec.proofs.PlanShapes.{slots_count, begun_is_shape}
use Rattle.block_spec.specs.Grid.{IsGrid}
use Rattle.container_spec.specs.ScanStream.{extents_by, mcu_extents, grid_of}
use Rattle.container_spec.specs.SegmentLaws.{Suits}

-- a number of the component of an index, after one more component before the others
abbrev at_index : (Component → ℕ) → List Component → ℕ → ℕ
at_index number cs k = option_map_or number (component_at cs k) 0

one_more : (number : Component → ℕ) (c : Component) (cs : List Component) (k : ℕ)
    → Rising (c.index + 1) 4 (map index_of cs)
    → at_index number (c ∷ cs) k ≡ cond (c.index == k) (number c) 0 + at_index number cs k
one_more number c cs k rising = go (c.index == k) refl
  where
    go : (b : Bool) → (c.index == k) ≡ b
        → at_index number (c ∷ cs) k ≡ cond (c.index == k) (number c) 0 + at_index number cs k
    go true e =
        let same : c.index ≡ k = eqb-true c.index k e in
        let none = none_below k (c.index + 1) cs (omega (arith, same)) rising in
        rw (e, none) (omega arith)
    go false e = rw e (omega arith)

-- a number for one of four indexes
of_four : (i n : ℕ) → i < 4
    → cond (i == 0) n 0 + cond (i == 1) n 0 + cond (i == 2) n 0 + cond (i == 3) n 0 ≡ n
of_four zero n below = omega arith
of_four (suc zero) n below = omega arith
of_four (suc (suc zero)) n below = omega arith
of_four (suc (suc (suc zero))) n below = omega arith
of_four (suc (suc (suc (suc i)))) n below = absurd (omega (arith, below))

-- the numbers by index add up to those of the components
abbrev total : (Component → ℕ) → List Component → ℕ
total number cs =
    at_index number cs 0 + at_index number cs 1 + at_index number cs 2 + at_index number cs 3

total_is : (number : Component → ℕ) (from : ℕ) (cs : List Component)
    → Rising from 4 (map index_of cs) → total number cs ≡ sum_by number cs
total_is number from [] rising = refl
total_is number from (c ∷ cs) rising =
    omega (
      arith,
      one_more number c cs 0 rising.2,
      one_more number c cs 1 rising.2,
      one_more number c cs 2 rising.2,
      one_more number c cs 3 rising.2,
      of_four c.index (number c) rising.1,
      total_is number (c.index + 1) cs rising.2,
      sum_by-cons number c cs,
    )

-- blocks across by blocks down
product_at : (across down : Component → ℕ) (found : Option Component)
    → option_map_or across found 0 * option_map_or down found 0
    ≡ option_map_or (λ part. across part * down part) found 0
product_at across down None = refl
product_at across down (Some c) = refl

counted_by : (across down : Component → ℕ) (cs : List Component) → Rising 0 4 (map index_of cs)
    → block_count (extents_by across down cs) ≡ sum_by (λ part. across part * down part) cs
counted_by across down cs rising =
    omega (
      arith,
      product_at across down (component_at cs 0),
      product_at across down (component_at cs 1),
      product_at across down (component_at cs 2),
      product_at across down (component_at cs 3),
      total_is (λ part. across part * down part) 0 cs rising,
    )

sum_of_parts : (cs : List Component)
    → sum_by (λ (part : Component). part.h * part.v) cs ≡ sum_by area (map part_of cs)
sum_of_parts [] = refl
sum_of_parts (c ∷ cs) =
    omega (
      arith,
      sum_by-cons (λ (part : Component). part.h * part.v) c cs,
      sum_by-cons area (part_of c) (map part_of cs),
      sum_of_parts cs,
    )

-- the blocks of an MCU
pub counted : (cs : List Component) → 1 ≤ length cs → Rising 0 4 (map index_of cs)
    → block_count (mcu_extents cs) ≡ blocks_in_mcu (map part_of cs)
counted [] some rising = absurd (omega arith)
counted (c ∷ []) some rising = counted_by (λ part. 1) (λ part. 1) (c ∷ []) rising
counted (c ∷ d ∷ cs) some rising =
    let test : (length (map part_of (c ∷ d ∷ cs)) == 1) ≡ false = grind (arith, nat_tests) in
    counted_by (λ part. part.h) (λ part. part.v) (c ∷ d ∷ cs) rising ∙ sum_of_parts (c ∷ d ∷ cs)
    ∙ sym (ap (λ (b : Bool). cond b 1 (sum_by area (map part_of (c ∷ d ∷ cs)))) test)

grid_is : (plan : PlanFields) → IsPlan plan → IsGrid (grid_of plan)
grid_is plan is =
    let count = counted plan.components is.some (rising_is 0 4 _ is.indexes) in
    let long : 1 ≤ length (map part_of plan.components) = simp length-map is.some in
    let some = some_block (map part_of plan.components) long is.components in
    record { across = is.wide; mcu = omega (arith, count, some) }

pub plan_suits : (w : Walk) (bytes : List ℕ) (plan : PlanFields) → AllByRecursion IsByte bytes
    → AreKnown w.known → Begins w bytes plan → Suits (shape_of plan) (grid_of plan)
plan_suits w bytes plan all known begins =
    let is = (begun_has_plan w bytes plan all known begins).is_plan in
    record {
      shape_is = (begun_is_shape w bytes plan all known begins).0;
      grid_is = grid_is plan is;
      blocks = slots_count plan.components is.some
          ∙ sym (counted plan.components is.some (rising_is 0 4 _ is.indexes));
    }
