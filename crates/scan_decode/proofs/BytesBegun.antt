-- A byte whose last bits are zeros, by its first bits.
use Rattle.std.proofs.Common.{◌≡◌, ℕ, ◌+◌, ◌-◌, ◌*◌, ◌/◌, ◌%◌, ◌^◌, ◌<◌, ◌≤◌, Bool, false, List, ◌++◌, length, take, replicate, sym, ap, ap₂, ◌∙◌, arith}
use Rattle.std.proofs.lemmas.Nat.{pow_pos}
use Rattle.bit_list.specs.Bits.{low_bits, number_of}
use Rattle.bit_list.specs.NumbersOfBits.{length-low_bits, mod_small, number_again}
use Rattle.bit_list.proofs.LowBits.{low_bits-join, take-low_bits}
use Rattle.bit_list.proofs.Machine.{zeros_are}
use Rattle.cut_spec.specs.RowHandovers.{partial_byte}

-- the first of eight bits, and zeros
padded_bits : (first last byte : ℕ) → first + last ≡ 8
    → take first (low_bits 8 byte) ++ replicate (8 - length (take first (low_bits 8 byte))) false
    ≡ low_bits 8 (byte / 2 ^ last * 2 ^ last)
padded_bits first last byte whole =
    let p = 2 ^ last in
    let prefix : take first (low_bits 8 byte) ≡ low_bits first (byte / p) =
    ap (λ (n : ℕ). take first (low_bits n byte)) (sym whole) ∙ take-low_bits first last byte in
    let few : length (take first (low_bits 8 byte)) ≡ first =
    ap length prefix ∙ length-low_bits first (byte / p) in
    let rest : 8 - length (take first (low_bits 8 byte)) ≡ last = omega (arith, few, whole) in
    let none : byte / p * p + 0 ≡ byte / p * p = omega arith in
    ap₂ (λ (l : List Bool) (n : ℕ). l ++ replicate n false) prefix rest
    ∙ ap (λ (l : List Bool). low_bits first (byte / p) ++ l) (sym (zeros_are last))
    ∙ sym (low_bits-join first last (byte / p) 0 (pow_pos last))
    ∙ ap₂ low_bits whole none

-- what is left of a byte
whole_part : (byte p : ℕ) → 0 < p → byte / p * p ≤ byte
whole_part byte p some = omega arith

pub cleared : (byte last wide : ℕ) → last ≤ 8 → byte < 256 → wide ≡ byte
    → wide / 2 ^ last * 2 ^ last % 65536 ≡ partial_byte (take (8 - last) (low_bits 8 byte))
cleared byte last wide few small same =
    let whole : 8 - last + last ≡ 8 = omega (arith, few) in
    let n = byte / 2 ^ last * 2 ^ last in
    let part = whole_part byte (2 ^ last) (pow_pos last) in
    let below : n < 2 ^ 8 = omega (arith, part, small) in
    ap (λ (b : ℕ). b / 2 ^ last * 2 ^ last % 65536) same
    ∙ mod_small 16 n (omega (arith, below))
    ∙ sym (ap number_of (padded_bits (8 - last) last byte whole) ∙ number_again 8 n below)
