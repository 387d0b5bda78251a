use Rattle.std.proofs.Common.{◌≡◌, ℕ, ◌+◌, ◌-◌, ◌*◌, ◌/◌, ◌<◌, ◌≤◌, refl, ap, arith}
use Rattle.std.proofs.Math.Nat.{mul-le-mul_left}
use Rattle.cut_spec.specs.Cuts.{Cut}
use Rattle.cut_spec.proofs.SpotsBegun.{rows}
use Rattle.box_format.specs.Parts.{box_rows}
use Rattle.segment_code.proofs.cuts.mcus_in.Goals as goal

-- rows rise
rises : (from to count i : ℕ) → i < count
    → from + i * (to - from) / count ≤ from + (i + 1) * (to - from) / count
rises from to count i under =
    let cut : Cut = record { across = 1; from = 0; to = to - from; segments = count } in
    let some : 0 < count = omega (arith, under) in
    let h = (rows cut refl some).2 i under in
    let same : to - from - 0 ≡ to - from = omega arith in
    let here = ap (λ (n : ℕ). i * n / count) same in
    let next = ap (λ (n : ℕ). (i + 1) * n / count) same in
    omega (arith, h, here, next)

sum_of : (across from more to : ℕ) → to ≡ from + more → across * from + across * more ≡ across * to
sum_of across from more to e = rw e (omega arith)

product : (across from to down : ℕ) → from ≤ to → to ≤ down
    → (across * from + across * (to - from) ≡ across * to)
    × (across * from + across * (to - from) ≤ across * down)
product across from to down rise within =
    let sum = sum_of across from (to - from) to (omega (arith, rise)) in
    let most = mul-le-mul_left across within in
    (sum, omega (arith, sum, most))

pub overflow_sub-result : goal.overflow_sub-result
overflow_sub-result c =
    rw (c.row_of-from.ensures.value, c.row_of-to.ensures.value)
    (rises (box_rows c.args.plan.now c.args.chunk).from (box_rows c.args.plan.now c.args.chunk).to
    c.args.count c.args.segment c.requires.within)

pub returns-clause-value : goal.returns-clause-value
returns-clause-value c =
    rw (c.row_of-from.ensures.value, c.row_of-to.ensures.value, c.across.ensures)
    (product c.args.plan.now.across _ _ _
    (rises (box_rows c.args.plan.now c.args.chunk).from (box_rows c.args.plan.now c.args.chunk).to
    c.args.count c.args.segment c.requires.within)
    (rw (c.row_of-to.ensures.value) at c.row_of-to.ensures.within)).0

pub returns-clause-within : goal.returns-clause-within
returns-clause-within c =
    rw (c.row_of-from.ensures.value, c.row_of-to.ensures.value, c.across.ensures)
    (product c.args.plan.now.across _ _ _
    (rises (box_rows c.args.plan.now c.args.chunk).from (box_rows c.args.plan.now c.args.chunk).to
    c.args.count c.args.segment c.requires.within)
    (rw (c.row_of-to.ensures.value) at c.row_of-to.ensures.within)).1
