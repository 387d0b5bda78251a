use Rattle.std.proofs.Common.{◌≡◌, ℕ, ◌^◌, ◌<◌, ◌≤◌, Bool, true, false, List, length, take, arith, ap}
use Rattle.std.proofs.lemmas.List.{length-take-le}
use Rattle.std.proofs.Math.Nat.{pow-le-pow_right}
use mir.Val.{bool_byte}
use Rattle.bit_list.specs.Bits.{number_of}
use Rattle.bit_list.proofs.LowBits.{number_below}
use Rattle.scan_spec.proofs.plain_bytes.number_of.Goals as goal

small_bit : (n : ℕ) (bit : Bool) → n ≡ bool_byte bit → n < 2
small_bit n true e = omega arith
small_bit n false e = omega arith

-- fewer than eight bits spell less than 128
small_number : (bits : List Bool) (i n : ℕ) → i < length bits → length bits ≤ 8 → n ≡ number_of (take i bits) → n < 128
small_number bits i n there few is =
    let size : length (take i bits) ≡ i = length-take-le i bits (omega arith) in
    let seven : i ≤ 7 = omega arith in
    let below : 2 ^ i ≤ 2 ^ 7 = pow-le-pow_right {n = 2} (omega arith) seven in
    omega (arith, number_below (take i bits), ap (λ (k : ℕ). 2 ^ k) size)

pub overflow_mul-number : goal.overflow_mul-number
overflow_mul-number c =
    let small = small_number c.args.bits.now c.loop-bit.bit-index c.loop-bit.number c.loop-bit-test.true c.requires c.loop-bit.invariant in
    omega arith

pub overflow_add-number : goal.overflow_add-number
overflow_add-number c =
    let small = small_number c.args.bits.now c.loop-bit.bit-index c.loop-bit.number c.loop-bit-test.true c.requires c.loop-bit.invariant in
    let bit = small_bit c.from.result _ c.from.ensures in
    omega arith
