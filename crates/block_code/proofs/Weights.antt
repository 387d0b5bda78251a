-- Weights are below 11.
use Rattle.std.proofs.Common.{ℕ, ◌<◌, ◌≤◌, arith, ◌≡◌, true, refl}
use Rattle.std.specs.Prelude.{◌&&◌, nat_lt, slice_index}
use Rattle.std.proofs.lemmas.Bool.{agree_below_at}
use Rattle.coef_block.specs.Categories.{category}
use Rattle.block_spec.specs.Around.{inner_positions}
use Rattle.block_spec.proofs.CategoryBits.{category_at_most}

-- a mean of magnitudes of AC coefficients has at most ten bits
pub few_bits : (n : ℕ) → n ≤ 1023 → category n < 11
few_bits n few = let h = category_at_most 10 n (omega (arith, few)) in omega (arith, h)

pub inner_within : (place : ℕ) → place < 49 → (nat_lt 0 (slice_index inner_positions place) && nat_lt (slice_index inner_positions place) 64) ≡ true
unfolding inner_positions
inner_within place below = agree_below_at (λ p. nat_lt 0 (slice_index inner_positions p) && nat_lt (slice_index inner_positions p) 64) (λ _. true) 49 place refl below
