-- The numbers that values' bits spell, and two codes as one.
use Rattle.std.proofs.Common.{◌≡◌, ℕ, ◌+◌, ◌*◌, ◌%◌, ◌^◌, ◌<◌, ◌≤◌, ◌++◌, ap, ◌∙◌, arith}
use Rattle.std.proofs.lemmas.Nat.{shl_whole}
use Rattle.std.proofs.Math.Pow.{pow_mono}
use Rattle.bit_list.specs.Bits.{low_bits}
use Rattle.bit_list.proofs.LowBits.{low_bits-join}
use Rattle.bit_list.proofs.Machine.{joined_below}
use Rattle.coef_block.specs.Categories.{category as size}

-- two codes of 27 bits at most
pub record AreJoined (count size code next joined : ℕ) : Type 0 where
  pub word : joined < 2 ^ 32
  pub below : joined < 2 ^ (count + size)
  pub bits : low_bits (count + size) joined ≡ low_bits count code ++ low_bits size next

-- as the machine joins them
pub are_joined : (count size code next joined : ℕ) → count + size ≤ 27 → code < 2 ^ count → next < 2 ^ size → joined ≡ code * 2 ^ size % 2 ^ 32 + next
    → AreJoined count size code next joined
are_joined count size code next joined few a b f =
    let is : joined ≡ code * 2 ^ size + next = f ∙ ap (λ (x : ℕ). x + next) (shl_whole code count size 32 a (omega arith)) in
    let below : joined < 2 ^ (count + size) = rw is (joined_below count size code next a b) in
    let most : 2 ^ (count + size) ≤ 2 ^ 27 = pow_mono few in record {
      word = omega arith;
      below = below;
      bits = ap (low_bits (count + size)) is ∙ low_bits-join count size code next b;
    }
