-- The tables of zigzag indexes, entry by entry.
use Rattle.std.proofs.Common.{ℕ, ◌<◌, ◌≡◌, Bool, true, refl}
use Rattle.std.specs.Prelude.{◌&&◌, ◌==◌, nat_lt, slice_index}
use Rattle.std.proofs.lemmas.Bool.{agree_below_at, and_parts, eqb-true, ltb-true}
use Rattle.coef_block.specs.Zigzag.{zigzag}
use Rattle.block_spec.specs.Around.{inner_positions, row_positions, column_positions}
use Rattle.block_code.specs.declared.positions.TheConstants.{INNER_AT, ROW_AT, COLUMN_AT}

-- whether an index is that of a position
abbrev is_index : ℕ → ℕ → Bool
is_index index position = (slice_index zigzag index == position) && nat_lt index 64

parts : (index position : ℕ) → is_index index position ≡ true → (slice_index zigzag index ≡ position) × (index < 64)
parts index position h = let both = and_parts _ _ h in (eqb-true _ _ both.0, ltb-true _ _ both.1)

pub inner_at : (place : ℕ) → place < 49 → (slice_index zigzag (slice_index INNER_AT place) ≡ slice_index inner_positions place) × (slice_index INNER_AT place < 64)
unfolding inner_positions
inner_at place below = parts _ _ (agree_below_at (λ p. is_index (slice_index INNER_AT p) (slice_index inner_positions p)) (λ _. true) 49 place refl below)

pub row_at : (place : ℕ) → place < 7 → (slice_index zigzag (slice_index ROW_AT place) ≡ slice_index row_positions place) × (slice_index ROW_AT place < 64)
row_at place below = parts _ _ (agree_below_at (λ p. is_index (slice_index ROW_AT p) (slice_index row_positions p)) (λ _. true) 7 place refl below)

pub column_at : (place : ℕ) → place < 7 → (slice_index zigzag (slice_index COLUMN_AT place) ≡ slice_index column_positions place) × (slice_index COLUMN_AT place < 64)
column_at place below = parts _ _ (agree_below_at (λ p. is_index (slice_index COLUMN_AT p) (slice_index column_positions p)) (λ _. true) 7 place refl below)
