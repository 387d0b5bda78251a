-- Statement: what the blocks around one say of it: weights of its coefficients, a guess at its count, the prediction of
-- its DC (docs/FORMAT.md, The events of a block).
use Rattle.std.specs.Prelude.{ℕ, ◌+◌, ◌*◌, ◌/◌, ◌&&◌, nat_le, ◌%◌, List, [], ◌∷◌, filter, map, ℤ, pos, unsigned_abs, slice_index_or, Option, Some, None, option_map, IfSome}
use Rattle.coef_block.specs.Block.{IsBlock}
use Rattle.coef_block.specs.Categories.{category}
use Rattle.coef_block.specs.Zigzag.{zigzag}
use Rattle.dc_predict.specs.DcPrediction.{predicted, spread_of}
use Rattle.block_spec.specs.Values.{nonzeros}

-- the blocks above, to the left and diagonally (above and left), of the same component and segment (own)
pub record Around : Type 0 where
  pub above : Option (List ℤ)
  pub left : Option (List ℤ)
  pub diagonal : Option (List ℤ)

-- each that is there is a block (own)
pub record AreAround (around : Around) : Type 0 where
  pub above : IfSome around.above IsBlock
  pub left : IfSome around.left IsBlock
  pub diagonal : IfSome around.diagonal IsBlock

-- the coefficient at a natural position (T.81 A.3.4)
abbrev pub value_at : List ℤ → ℕ → ℤ
value_at block position = slice_index_or block position (pos 0)

-- the positions of the inner coefficients, in neither the first row nor the first column, in zigzag order (own)
unfoldable pub inner_positions : List ℕ
inner_positions = filter (λ position. nat_le 1 (position / 8) && nat_le 1 (position % 8)) zigzag

-- the positions of the row edge: the first row but for the DC (own)
abbrev pub row_positions : List ℕ
row_positions = 1 ∷ 2 ∷ 3 ∷ 4 ∷ 5 ∷ 6 ∷ 7 ∷ []

-- the positions of the column edge: the first column but for the DC (own)
abbrev pub column_positions : List ℕ
column_positions = map (λ row. 8 * row) row_positions

-- the coefficients at positions (own)
unfoldable pub values_in : List ℕ → List ℤ → List ℤ
values_in positions block = map (value_at block) positions

-- the magnitude of a coefficient, 0 if the block isn't there (own)
abbrev pub magnitude : Option (List ℤ) → ℕ → ℕ
magnitude None position = 0
magnitude (Some block) position = unsigned_abs (value_at block position)

-- the mean of the magnitudes around an inner coefficient, in parts of 32: 13 above, 13 left, 6 diagonally (own)
abbrev pub inner_mean : ℕ → ℕ → ℕ → ℕ
inner_mean above left diagonal = (13 * above + 13 * left + 6 * diagonal) / 32

-- the weight of an inner coefficient: the category of that mean (own)
abbrev pub inner_weight : Around → ℕ → ℕ
inner_weight around position =
    category (inner_mean (magnitude around.above position) (magnitude around.left position)
    (magnitude around.diagonal position))

-- the weight of an edge's coefficient: the category of the mean of those above and left (own)
abbrev pub edge_weight : Around → ℕ → ℕ
edge_weight around position =
    category ((magnitude around.above position + magnitude around.left position) / 2)

-- how many inner coefficients are not 0 (own)
abbrev pub inner_count : List ℤ → ℕ
inner_count block = nonzeros (values_in inner_positions block)

-- the mean of two counts, rounded up; the one that is there; 0 (own)
abbrev pub mean : Option ℕ → Option ℕ → ℕ
mean (Some a) (Some l) = (a + l + 1) / 2
mean (Some a) None = a
mean None (Some l) = l
mean None None = 0

-- the guess at a block's inner count, from those above and left (own)
unfoldable pub guess : Around → ℕ
guess around = mean (option_map inner_count around.above) (option_map inner_count around.left)

-- the DC of a block that is there (own)
abbrev pub dc : Option (List ℤ) → Option ℤ
dc block = option_map (λ b. value_at b 0) block

-- the predicted DC of a block (own)
unfoldable pub prediction : Around → ℤ
prediction around = predicted (dc around.above) (dc around.left) (dc around.diagonal)

-- how far the DCs above and left differ (own)
unfoldable pub dc_spread : Around → ℕ
dc_spread around = spread_of (dc around.above) (dc around.left)
