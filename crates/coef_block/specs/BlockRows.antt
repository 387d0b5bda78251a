-- Statement: the blocks of an MCU row by component, block row and block column (ITU-T T.81, A.2.3), and the neighbours
-- of the block that comes next among those that came (own).
use Rattle.std.specs.Prelude.{◌≡◌, ℕ, zero, suc, ◌+◌, ◌*◌, ◌-◌, Bool, true, false, if◌then◌else◌, List, ◌++◌, length, replicate, get_or, set, slice_index, ℤ, pos, Option, Some, None}

-- how many blocks of each component, by its index in the frame, an MCU or an MCU row is wide and high; 0 after the
-- last component
pub record Extents : Type 0 where
  pub widths : List ℕ
  pub heights : List ℕ

-- blocks from left to right
abbrev pub width : Extents → ℕ → ℕ
width e component = slice_index e.widths component

-- blocks from top to bottom
abbrev pub height : Extents → ℕ → ℕ
height e component = slice_index e.heights component

-- how many blocks the components before one have
abbrev pub offset : Extents → ℕ → ℕ
offset e zero = 0
offset e (suc component) = offset e component + width e component * height e component

-- how many blocks there are; a frame has four components at most (B.2.2)
abbrev pub block_count : Extents → ℕ
block_count e = offset e 4

-- the index of a block among them: component after component, each row by row
abbrev pub index_in : Extents → ℕ → ℕ → ℕ → ℕ
index_in e component row column = offset e component + (row * width e component + column)

-- 64 zeros
abbrev pub no_block : List ℤ
no_block = replicate 64 (pos 0)

-- the block that came last in each place of an MCU row of `extents`; `started` says whether there was an MCU row before
-- this one, and the corner of a component is the block above the one that came last in its first block row
pub record BlockRows : Type 0 where
  pub extents : Extents
  pub started : Bool
  pub blocks : List (List ℤ)
  pub corners : List (List ℤ)

-- the block in a place
abbrev pub block_in : BlockRows → ℕ → ℕ → ℕ → List ℤ
block_in rows component row column =
    get_or rows.blocks (index_in rows.extents component row column) no_block

-- the block in a component's lowest block row
abbrev pub lowest_in : BlockRows → ℕ → ℕ → List ℤ
lowest_in rows component column =
    block_in rows component (height rows.extents component - 1) column

-- the block above: in this MCU row, or the lowest one of the row before
abbrev pub above_in : BlockRows → ℕ → ℕ → ℕ → Option (List ℤ)
above_in rows component zero column =
    if rows.started then Some (lowest_in rows component column) else None
above_in rows component (suc row) column = Some (block_in rows component row column)

-- the block to the left
abbrev pub left_in : BlockRows → ℕ → ℕ → ℕ → Option (List ℤ)
left_in rows component row zero = None
left_in rows component row (suc column) = Some (block_in rows component row column)

-- the block above the one to the left
abbrev pub diagonal_in : BlockRows → ℕ → ℕ → ℕ → Option (List ℤ)
diagonal_in rows component row zero = None
diagonal_in rows component zero (suc column) =
    if rows.started then Some (get_or rows.corners component no_block) else None
diagonal_in rows component (suc row) (suc column) = Some (block_in rows component row column)

-- the corners, once a block has come: in the first block row the block above it, which it may replace
abbrev pub corners_after : BlockRows → ℕ → ℕ → ℕ → List (List ℤ)
corners_after rows component zero column =
    set rows.corners component (lowest_in rows component column)
corners_after rows component (suc row) column = rows.corners

-- once a block has come
abbrev pub stored : BlockRows → ℕ → ℕ → ℕ → List ℤ → BlockRows
stored rows component row column block = record rows {
  blocks = set rows.blocks (index_in rows.extents component row column) block;
  corners = corners_after rows component row column;
}

-- the next MCU row begins
abbrev pub next_row : BlockRows → BlockRows
next_row rows = record rows { started = true }

-- before the first MCU row
pub record AreCleared (rows : BlockRows) : Type 0 where
  pub started : rows.started ≡ false
  pub blocks : length rows.blocks ≡ block_count rows.extents
  pub corners : length rows.corners ≡ 4

-- four numbers, by component
abbrev pub four_of : List ℕ → List ℕ
four_of numbers = numbers ++ replicate (4 - length numbers) 0

-- the extents of components
abbrev pub extents_of : List ℕ → List ℕ → Extents
extents_of widths heights = record { widths = four_of widths; heights = four_of heights }
