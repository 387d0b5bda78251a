-- Steps: a segment that is ready to be coded, and what codes it (own).
use Rattle.std.specs.Prelude.{ℕ, ◌≡◌, ◌≤◌, List, [], length}
use Rattle.coef_block.specs.BlockRows.{block_count}
use Rattle.coef_context.specs.Runs.{bin_count}
use Rattle.jpeg_marker.specs.Plans.{PlanFields}
use Rattle.block_spec.specs.Grid.{Grid}
use Rattle.container_spec.specs.ScanStream.{grid_of}
use Rattle.scan_spec.specs.ScanCalls.{ScanReader}
use Rattle.scan_spec.specs.Slots.{shape_of}
use Rattle.segment_code.specs.ScanPasses.{IsPart, PartFields, part_reader}

-- an encoder has rows of a grid's blocks, and bins
pub record EncoderSeen : Type 0 where
  pub grid : Grid
  pub bins : ℕ

-- it can code segments of a plan
pub record IsEncoderFor (plan : PlanFields) (e : EncoderSeen) : Type 0 where
  pub grid : e.grid ≡ grid_of plan
  pub blocks : length (shape_of plan).slots ≡ block_count e.grid.mcu
  pub bins : bin_count ≤ e.bins

-- a segment with its reader, and the list for its stream
pub record ReadyFields : Type 0 where
  pub part : PartFields
  pub reader : ScanReader
  pub stream : List ℕ

-- none of it was read
pub record IsReady (r : ReadyFields) : Type 0 where
  pub part : IsPart r.part
  pub reader : r.reader ≡ part_reader r.part
  pub empty : r.stream ≡ []
