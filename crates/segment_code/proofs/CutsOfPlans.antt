-- Where the segments of a cut start and end, in MCUs.
use Rattle.std.proofs.Common.{◌≡◌, ℕ, ◌-◌, ◌*◌, ◌/◌, ◌<◌, ◌≤◌, ap, ◌∙◌, arith}
use Rattle.std.proofs.Math.Nat.{div-le_of_le-mul, zero-mul, zero-div, mul-zero, mul-le-mul_left, mul-le-mul_right}
use Rattle.cut_spec.specs.Cuts.{Cut, first_mcu, row_of}
use Rattle.cut_spec.proofs.SpotsBegun.{rows}

-- the first segment starts with the first MCU
pub first_of_all : (cut : Cut) → cut.from ≡ 0 → first_mcu cut 0 ≡ 0
first_of_all cut from =
    let row : 0 * (cut.to - cut.from) / cut.segments ≡ 0 =
    ap (λ (n : ℕ). n / cut.segments) (zero-mul (cut.to - cut.from)) ∙ zero-div cut.segments in
    let none : row_of cut 0 ≡ 0 = omega (arith, row, from) in
    ap (λ (n : ℕ). cut.across * n) none ∙ mul-zero cut.across

-- the last one ends with the grid
pub end_of_all : (cut : Cut) → cut.from ≡ 0 → 0 < cut.segments
    → first_mcu cut cut.segments ≡ cut.across * cut.to
end_of_all cut from some = (rows cut from some).1

-- and each starts within it
pub start_within : (cut : Cut) (i : ℕ) → cut.from ≡ 0 → i ≤ cut.segments → 0 < cut.segments
    → first_mcu cut i ≤ cut.across * cut.to
start_within cut i from few some =
    let height = cut.to - cut.from in
    let most : i * height ≤ cut.segments * height = mul-le-mul_right height few in
    let row : i * height / cut.segments ≤ height = div-le_of_le-mul cut.segments most in
    let within : row_of cut i ≤ cut.to = omega (arith, row, from) in
    mul-le-mul_left cut.across within
