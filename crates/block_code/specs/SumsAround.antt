-- View: the sums of magnitudes around a block, as they are kept while it is coded (own).
use Rattle.std.specs.Prelude.{◌≡◌, ℕ, ◌+◌, ◌*◌, ◌≤◌, slice_index}
use Rattle.block_spec.specs.Around.{Around, magnitude}
use Rattle.block_code.specs.BandPositions.{IsAcPosition}
use Rattle.block_code.specs.declared.sums.Sums.{Sums}

-- of a sum of magnitudes around an inner coefficient, those above and left are 13 parts each, and the diagonal one 6
abbrev pub inner_sum : ℕ → ℕ → ℕ → ℕ
inner_sum above left diagonal = 13 * above + 13 * left + 6 * diagonal

-- what always holds of the sums, by natural position
pub record AreSums (sums : Sums) (around : Around) : Type 0 where
  pub inner : (position : ℕ) → IsAcPosition position → slice_index sums.inner position
      ≡ inner_sum (magnitude around.above position) (magnitude around.left position)
      (magnitude around.diagonal position)
  pub edge : (position : ℕ) → IsAcPosition position → slice_index sums.edge position
      ≡ magnitude around.above position + magnitude around.left position
  pub small_inner : (position : ℕ) → IsAcPosition position
      → slice_index sums.inner position ≤ 32 * 1023
  pub small_edge : (position : ℕ) → IsAcPosition position
      → slice_index sums.edge position ≤ 2 * 1023
