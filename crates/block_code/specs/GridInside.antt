-- View: what the fields of a grid hold (own).
use Rattle.std.specs.Prelude.{◌≡◌, ℕ, ◌^◌, ◌<◌, ◌≤◌, slice_index}
use Rattle.coef_block.specs.BlockRows.{Extents, block_count, offset}
use Rattle.block_spec.specs.Grid.{Grid}
use Rattle.block_code.specs.declared.mcu_grid.McuGrid.TheInside.{Inside}

-- the extents of an MCU (T.81 A.2.3)
abbrev pub mcu_in : Inside → Extents
mcu_in g = record { widths = g.widths; heights = g.heights }

-- what clauses see of a grid (own)
abbrev pub grid_in : Inside → Grid
grid_in g = record { across = g.across; mcu = mcu_in g }

-- the offsets are those of the extents, and an MCU has from 1 to 10 blocks, a component's at most 4 wide (T.81 B.2.3)
pub record IsGridInside (g : Inside) : Type 0 where
  pub offsets : (c : ℕ) → c < 4 → slice_index g.offsets c ≡ offset (mcu_in g) c
  pub blocks : g.blocks ≡ block_count (mcu_in g)
  pub wide : (c : ℕ) → c < 4 → slice_index g.widths c ≤ 4
  pub few : g.blocks ≤ 10
  pub some : 1 ≤ g.blocks
  pub across : 1 ≤ g.across
  pub narrow : g.across < 2 ^ 25
