-- Small magnitudes and their bits.
use Rattle.std.proofs.Common.{◌≡◌, ℕ, ◌*◌, ◌%◌, ◌^◌, ◌<◌, ◌≤◌, ap, arith}
use Rattle.std.proofs.lemmas.Nat.{one_shl}
use Rattle.std.proofs.Math.Pow.{pow_mono}
use Rattle.coef_block.specs.Categories.{category as size}
use Rattle.scan_spec.proofs.ValueLemmas.{size_below, small_size}

-- a small magnitude has eleven bits at most, and fits them
pub record IsSmall (n count : ℕ) : Type 0 where
  pub few : count ≤ 11
  pub below : n < 2 ^ count
  pub power : 2 ^ count ≤ 2048
  pub shifted : 1 * 2 ^ count % 4294967296 ≡ 2 ^ count

pub small : (n count : ℕ) → n ≤ 2047 → count ≡ size n → IsSmall n count
small n count h is =
    let few : count ≤ 11 = omega (arith, small_size 11 n (omega arith), is) in
    let same = ap (λ (k : ℕ). 2 ^ k) is in
    let power : 2 ^ count ≤ 2 ^ 11 = pow_mono few in record {
      few = few;
      below = omega (arith, same, size_below n);
      power = power;
      shifted = one_shl count 32 (omega (arith, few));
    }
