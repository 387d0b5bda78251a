-- The MCUs of a plan are no more than its blocks.
use Rattle.std.proofs.Common.{◌≡◌, ℕ, ◌||◌, ◌*◌, ◌≤◌, ◌∷◌, [], List, Bool, true, false, ◌&&◌, ◌==◌, nat_le, if◌then◌else◌, length, map, ap, arith}
use Rattle.std.proofs.lemmas.Bool.Decides.{nat_tests}
use Rattle.std.specs.List.{list_all, sum_by}
use Rattle.std.proofs.lemmas.Bool.{leb-true}
use Rattle.std.proofs.lemmas.List.{length-map}
use Rattle.std.proofs.lemmas.List.Sums.{sum_by-cons}
use Rattle.std.proofs.Math.Nat.{one-le-mul, le-mul_of_pos_right}
use Rattle.jpeg_marker.specs.HuffmanTables.{distinct}
use Rattle.jpeg_marker.specs.Frames.{area, is_sampled, fit_an_mcu, are_components}
use Rattle.jpeg_marker.specs.Plans.{PlanFields, IsPlan, part_of, blocks_in_mcu, most_blocks}
use Rattle.jpeg_marker.specs.declared.parameters.FrameComponent.{FrameComponent}
use Rattle.jpeg_marker.proofs.Repeats.{both_hold}

-- each component has a block at least
pub some_area : (part : FrameComponent) → is_sampled part ≡ true → 1 ≤ area part
some_area part is =
    let a = both_hold (nat_le 1 part.h && nat_le part.h 4 && nat_le 1 part.v) (nat_le part.v 4) is in
    let b = both_hold (nat_le 1 part.h && nat_le part.h 4) (nat_le 1 part.v) a.0 in
    let c = both_hold (nat_le 1 part.h) (nat_le part.h 4) b.0 in
    one-le-mul (leb-true 1 part.h c.0) (leb-true 1 part.v b.1)

pub some_block : (parts : List FrameComponent) → 1 ≤ length parts → are_components parts ≡ true → 1 ≤ blocks_in_mcu parts
some_block [] some is = absurd (omega arith)
some_block (p ∷ []) some is = omega arith
some_block (p ∷ q ∷ parts) some is =
    let a = both_hold (distinct (map (λ (c : FrameComponent). c.id) (p ∷ q ∷ parts)) && list_all is_sampled (p ∷ q ∷ parts)) (fit_an_mcu (p ∷ q ∷ parts)) is in
    let b = both_hold (distinct (map (λ (c : FrameComponent). c.id) (p ∷ q ∷ parts))) (list_all is_sampled (p ∷ q ∷ parts)) a.0 in
    let c = both_hold (is_sampled p) (list_all is_sampled (q ∷ parts)) b.1 in
    let more : 1 ≤ sum_by area (p ∷ q ∷ parts) = omega (arith, some_area p c.0, sum_by-cons area p (q ∷ parts)) in
    let test : (length (p ∷ q ∷ parts) == 1) ≡ false = grind (arith, nat_tests) in
    let all : blocks_in_mcu (p ∷ q ∷ parts) ≡ sum_by area (p ∷ q ∷ parts) = ap (λ (b : Bool). if b then 1 else sum_by area (p ∷ q ∷ parts)) test in
    omega (arith, more, all)

few_by : (one : Bool) (blocks : ℕ) → one || nat_le blocks 10 ≡ true → (if one then 1 else blocks) ≤ 10
few_by true blocks fit = omega arith
few_by false blocks fit = leb-true blocks 10 fit

-- an MCU has ten blocks at most
pub few_in_mcu : (parts : List FrameComponent) → are_components parts ≡ true → blocks_in_mcu parts ≤ 10
few_in_mcu parts is =
    let fit = both_hold (distinct (map (λ (p : FrameComponent). p.id) parts) && list_all is_sampled parts) (fit_an_mcu parts) is in
    few_by (length parts == 1) (sum_by area parts) fit.1

-- there are no more MCUs than blocks
pub few_mcus : (p : PlanFields) → IsPlan p → p.across * p.down ≤ most_blocks
few_mcus p is =
    let some = some_block (map part_of p.components) (omega (arith, is.some, length-map p.components part_of)) is.components in
    let no_more : p.across * p.down ≤ p.across * p.down * blocks_in_mcu (map part_of p.components) = le-mul_of_pos_right (p.across * p.down) some in
    omega (arith, no_more, is.grid, is.blocks)
