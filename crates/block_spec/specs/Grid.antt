-- Statement: the blocks of a segment in the order of its MCUs, and the cell of each (ITU-T T.81, A.2.3).
use Rattle.std.specs.Prelude.{ℕ, zero, suc, ◌+◌, ◌*◌, ◌-◌, ◌/◌, ◌%◌, ◌<◌, nat_lt, if◌then◌else◌, List, ℤ, Option, Some, None, slice_index_or}
use Rattle.coef_block.specs.BlockRows.{Extents, width, height, offset, block_count, index_in, no_block}

-- how many MCUs a row has, and the extents of one MCU (T.81 A.2.3)
pub record Grid : Type 0 where
  pub across : ℕ
  pub mcu : Extents

-- a grid with blocks (own)
pub record IsGrid (g : Grid) : Type 0 where
  pub across : 0 < g.across
  pub mcu : 0 < block_count g.mcu

-- the cell of a block: the MCU row, the component, the block row within the MCU row, the component's block column
-- (T.81 A.2.3)
pub record Cell : Type 0 where
  pub mcu_row : ℕ
  pub component : ℕ
  pub row : ℕ
  pub column : ℕ

-- a cell of the grid (T.81 A.2.3)
pub record IsCell (g : Grid) (p : Cell) : Type 0 where
  pub in_frame : p.component < 4
  pub in_height : p.row < height g.mcu p.component
  pub in_width : p.column < g.across * width g.mcu p.component
  pub some : 0 < width g.mcu p.component

-- how many MCUs are before a cell's (T.81 A.2.3)
abbrev pub mcus_before : Grid → ℕ → ℕ → ℕ → ℕ
mcus_before g r component column = r * g.across + column / width g.mcu component

-- how many blocks are before the one in this MCU row, component, row and column (T.81 A.2.3)
abbrev pub index_at : Grid → ℕ → ℕ → ℕ → ℕ → ℕ
index_at g r component row column =
    mcus_before g r component column * block_count g.mcu
    + index_in g.mcu component row (column % width g.mcu component)

-- how many blocks are before the one in a cell (T.81 A.2.3)
abbrev pub index_of : Grid → Cell → ℕ
index_of g p = index_at g p.mcu_row p.component p.row p.column

-- the component of the block with this index in an MCU (T.81 A.2.3)
abbrev pub component_of : Extents → ℕ → ℕ
component_of e index =
    if nat_lt index (offset e 1) then 0
    else if nat_lt index (offset e 2) then 1
    else if nat_lt index (offset e 3) then 2
    else 3

-- the cell of a component's block in an MCU (T.81 A.2.3): `index` counts the component's blocks there
abbrev pub component_cell : Grid → ℕ → ℕ → ℕ → ℕ → Cell
component_cell g r mcu component index =
    let across = width g.mcu component in
    record {
      mcu_row = r;
      component = component;
      row = index / across;
      column = mcu * across + index % across;
    }

-- the cell of a block, by its MCU row, its MCU in the row, and its index in the MCU (T.81 A.2.3)
abbrev pub cell_in : Grid → ℕ → ℕ → ℕ → Cell
cell_in g r mcu index =
    let component = component_of g.mcu index in
    component_cell g r mcu component (index - offset g.mcu component)

-- the cell of block n (T.81 A.2.3)
unfoldable pub cell_at : Grid → ℕ → Cell
cell_at g n =
    let mcu = n / block_count g.mcu in
    cell_in g (mcu / g.across) (mcu % g.across) (n % block_count g.mcu)

-- the block in a cell, looked up in the whole list (own)
unfoldable pub block_at : Grid → List (List ℤ) → Cell → List ℤ
block_at g blocks p = slice_index_or blocks (index_of g p) no_block

-- the cell above: in the same MCU row, or the lowest one in the row before (own)
abbrev pub above_at : Grid → ℕ → ℕ → ℕ → ℕ → Option Cell
above_at g zero component zero column = None
above_at g (suc r) component zero column =
    let lowest = height g.mcu component - 1 in
    Some (record { mcu_row = r; component = component; row = lowest; column = column })
above_at g r component (suc row) column =
    Some (record { mcu_row = r; component = component; row = row; column = column })

-- the cell above one (own)
abbrev pub above_of : Grid → Cell → Option Cell
above_of g p = above_at g p.mcu_row p.component p.row p.column

-- the cell to the left (own)
abbrev pub left_at : ℕ → ℕ → ℕ → ℕ → Option Cell
left_at r component row zero = None
left_at r component row (suc column) =
    Some (record { mcu_row = r; component = component; row = row; column = column })

-- the cell to the left of one (own)
abbrev pub left_of : Cell → Option Cell
left_of p = left_at p.mcu_row p.component p.row p.column
