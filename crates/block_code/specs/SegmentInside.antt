-- View: what the fields of a segment's rows hold (own).
use Rattle.std.specs.Prelude.{◌<◌}
use Rattle.block_spec.specs.Grid.{IsGrid}
use Rattle.block_spec.specs.HeldRows.{FitsGrid}
use Rattle.block_code.specs.declared.mcu.SegmentRows.TheInside.{Inside}

-- the rows have the extents of an MCU row of the grid, which has more MCUs than came before (own)
pub record IsSegmentInside (s : Inside) : Type 0 where
  pub grid : IsGrid s.grid
  pub fits : FitsGrid s.rows.extents s.grid
  pub before : s.before < s.grid.across
