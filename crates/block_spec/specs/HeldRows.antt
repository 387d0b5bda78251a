-- View: which blocks of a segment's list the kept MCU row holds (own).
use Rattle.std.specs.Prelude.{◌≡◌, ℕ, suc, ◌+◌, ◌*◌, ◌<◌, ◌≤◌, nat_lt, List, ℤ, length, get_or}
use Rattle.coef_block.specs.BlockRows.{Extents, width, height, block_count, block_in, no_block, BlockRows, above_in, left_in, diagonal_in}
use Rattle.block_spec.specs.Around.{Around}
use Rattle.block_spec.specs.Grid.{Grid, Cell, IsCell, index_of, block_at}

-- the blocks around one of this MCU row (own)
abbrev pub kept_around : BlockRows → ℕ → ℕ → ℕ → Around
kept_around rows component row column = record {
  above = above_in rows component row column;
  left = left_in rows component row column;
  diagonal = diagonal_in rows component row column;
}

-- the extents of an MCU row of a grid (own)
pub record FitsGrid (e : Extents) (g : Grid) : Type 0 where
  pub widths : (c : ℕ) → c < 4 → width e c ≡ g.across * width g.mcu c
  pub heights : (c : ℕ) → c < 4 → height e c ≡ height g.mcu c

-- the block in a cell's place (own)
abbrev pub row_block : BlockRows → Cell → List ℤ
row_block rows p = block_in rows p.component p.row p.column

-- a cell of its component's lowest block row (own)
pub record IsLowest (g : Grid) (p : Cell) : Type 0 where
  pub cell : IsCell g p
  pub lowest : p.row + 1 ≡ height g.mcu p.component

-- the cell in the same place of the next MCU row (own)
abbrev pub next_in_place : Cell → Cell
next_in_place p = record p { mcu_row = suc p.mcu_row }

-- the cell below a lowest one (own)
abbrev pub below : Cell → Cell
below p = record p { mcu_row = suc p.mcu_row; row = 0 }

-- the cell to the right (own)
abbrev pub right : Cell → Cell
right p = record p { column = suc p.column }

-- the rows after a list of blocks that ends in MCU row `r`: the blocks of that row that came, the lowest blocks of the
-- row before that none of them replaced, and in each component's corner the block above the one that came last in its
-- first block row (own)
pub record HoldBlocks (rows : BlockRows) (g : Grid) (blocks : List (List ℤ)) (r : ℕ) : Type 0 where
  pub fits : FitsGrid rows.extents g
  pub long : length rows.blocks ≡ block_count rows.extents
  pub four : length rows.corners ≡ 4
  pub started : rows.started ≡ nat_lt 0 r
  pub here : (p : Cell) → IsCell g p → p.mcu_row ≡ r → index_of g p < length blocks
      → row_block rows p ≡ block_at g blocks p
  pub before : (p : Cell) → IsLowest g p → suc p.mcu_row ≡ r
      → length blocks ≤ index_of g (next_in_place p)
      → row_block rows p ≡ block_at g blocks p
  pub corners : (p : Cell) → IsLowest g p → suc p.mcu_row ≡ r
      → index_of g (below p) < length blocks → length blocks ≤ index_of g (right (below p))
      → get_or rows.corners p.component no_block ≡ block_at g blocks p
