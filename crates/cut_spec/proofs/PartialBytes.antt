-- A byte whose first bits are given, with zeros after them.
use Rattle.std.proofs.Common.{◌≡◌, ℕ, zero, suc, ◌+◌, ◌-◌, ◌%◌, ◌^◌, ◌<◌, ◌≤◌, Bool, false, List, ◌∷◌, ◌++◌, length, take, drop, replicate, refl, sym, ap, ap₂, ◌∙◌, arith}
use Rattle.std.proofs.lemmas.List.{take-append-drop}
use Rattle.std.proofs.Math.Nat.{zero-mod, zero-div}
use Rattle.bit_list.specs.Bits.{low_bits, number_of}
use Rattle.bit_list.proofs.LowBits.{low_bits-same, drop-low_bits}
use Rattle.bit_list.specs.NumbersOfBits.{number_again}
use Rattle.cut_spec.specs.RowHandovers.{partial_byte}

zeros : (k : ℕ) → low_bits k 0 ≡ replicate k false
zeros zero = refl
zeros (suc k) = rw (zero-div (2 ^ k)) (ap (λ (bits : List Bool). false ∷ bits) (zeros k))

pub partial_is : (begun : List Bool) (byte : ℕ) → length begun ≤ 7 → byte < 256
    → byte % 2 ^ (8 - length begun) ≡ 0 → take (length begun) (low_bits 8 byte) ≡ begun
    → byte ≡ partial_byte begun
partial_is begun byte few small blank first =
    let free = 8 - length begun in
    let e : length begun + (8 - length begun) ≡ 8 = omega arith in
    let rest : drop (length begun) (low_bits 8 byte) ≡ replicate (8 - length begun) false =
    ap (λ (n : ℕ). drop (length begun) (low_bits n byte)) (sym e) ∙ drop-low_bits (length begun) (8 - length begun) byte
    ∙ low_bits-same (8 - length begun) byte 0 (blank ∙ sym (zero-mod (2 ^ (8 - length begun)))) ∙ zeros (8 - length begun) in
    sym (number_again 8 byte small)
    ∙ ap number_of (sym (take-append-drop (length begun) (low_bits 8 byte)) ∙ ap₂ (λ (a b : List Bool). a ++ b) first rest)
