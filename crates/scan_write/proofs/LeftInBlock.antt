-- The coefficients of a block that are still to be written, as bits (own).
use Rattle.std.specs.Prelude.{◌≡◌, ℕ, ◌<◌, ◌≤◌, List, ℤ, if◌then◌else◌}
use Rattle.std.specs.Int.{bit_at}
use Rattle.coef_block.specs.Nonzeros.{is_nonzero}

-- those that aren't 0, by zigzag index, after the last one that was written
pub record AreLeft (left last : ℕ) (block : List ℤ) : Type 0 where
  pub written : (index : ℕ) → index ≤ last → bit_at left index ≡ 0
  pub others : (index : ℕ) → last < index → index < 64
      → bit_at left index ≡ (if is_nonzero block index then 1 else 0)
