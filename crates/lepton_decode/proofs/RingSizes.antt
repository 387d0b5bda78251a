-- How long the rings of a container's segments are, one for each.
use Rattle.std.proofs.Common.{◌≡◌, ℕ, zero, suc, ◌+◌, ◌*◌, ◌/◌, ◌^◌, ◌≤◌, max, inl, inr, subst, arith}
use Rattle.std.proofs.lemmas.Bool.{cases_lt}
use Rattle.std.proofs.Math.Nat.{div-mul-le_self, mul-le-mul_right}

-- a ring of at most twice a segment's share, or of 64 KiB
pub all_rings : (ring length segments : ℕ) → ring ≤ max (2 ^ 16) (length / segments * 2)
    → ring * segments ≤ 2 * length + 2 ^ 16 * segments
all_rings ring length segments most =
    let share = div-mul-le_self length segments in
    elim (cases_lt (2 ^ 16) ring) [
      | inl above ↦
          let few : ring ≤ length / segments * 2 = omega (arith, above, most) in
          let all = mul-le-mul_right segments few in
          let twice : length / segments * 2 * segments ≡ 2 * (length / segments * segments) = omega arith in
          omega (arith, all, twice, share)
      | inr within ↦
          let all = mul-le-mul_right segments within in omega (arith, all)
    ]

-- a container without a segment has no ring
pub rings_of : (ring length count segments : ℕ) → segments ≡ max count 1
    → ring * segments ≤ 2 * length + 2 ^ 16 * segments
    → ring * count ≤ 2 * length + 2 ^ 16 * count
rings_of ring length zero segments is all = omega arith
rings_of ring length (suc count) segments is all =
    let same : segments ≡ suc count = omega (arith, is) in
    subst (λ (n : ℕ). ring * n ≤ 2 * length + 2 ^ 16 * n) same all
