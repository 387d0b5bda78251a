-- View: what the fields of rows keep (own).
use Rattle.std.specs.Prelude.{◌≡◌, ℕ, ◌<◌, ◌^◌, length, slice_index}
use Rattle.coef_block.specs.BlockRows.{Extents, BlockRows, offset, block_count}
use Rattle.coef_block.specs.declared.rows.Rows.TheInside.{Inside}

abbrev pub extents_in : Inside → Extents
extents_in r = record { widths = r.widths; heights = r.heights }

-- what contracts see of rows
abbrev pub rows_in : Inside → BlockRows
rows_in r = record {
  extents = extents_in r;
  started = r.started;
  blocks = r.blocks.items;
  corners = r.corners;
}

pub record AreRows (r : Inside) : Type 0 where
  pub blocks : length r.blocks.items ≡ block_count (extents_in r)
  pub offsets : (component : ℕ) → component < 4
      → slice_index r.offsets component ≡ offset (extents_in r) component
  pub few : block_count (extents_in r) < 2 ^ 32
