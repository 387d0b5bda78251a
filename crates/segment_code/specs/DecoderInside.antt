-- View: the value of a decoder, and its invariant (own).
use Rattle.std.specs.Prelude.{ℕ, ◌≡◌, ◌+◌, ◌*◌, ◌^◌, ◌≤◌, length}
use Rattle.bit_list.specs.Pieces.{piece_room}
use Rattle.coef_block.specs.BlockRows.{block_count}
use Rattle.scan_spec.specs.Slots.{shape_of}
use Rattle.coef_context.specs.Runs.{bin_count}
use Rattle.container_spec.specs.ScanStream.{grid_of}
use Rattle.segment_code.specs.Decoding.{DecoderSeen}
use Rattle.segment_code.specs.declared.decoder.SegmentDecoder.TheInside.{Inside}

-- its fields
abbrev pub decoder_of : Inside → DecoderSeen
decoder_of d = record {
  plan = d.plan;
  begun = d.begun;
  running = d.running;
  number = d.number;
  left = d.left;
  next = d.next;
  kept = d.kept;
  given = d.given;
  started = d.started;
  coder = d.coder;
  segment = d.segment;
  writer = d.writer;
}

-- the bytes given, with a piece for each MCU that is left, are at most a piece for each of 2 ^ 32 MCUs
abbrev pub IsBounded : ℕ → ℕ → Type 0
IsBounded given left = given + piece_room * left ≤ piece_room * 2 ^ 32

-- there are bins for all contexts, the rows are those of the plan's grid, and the writer writes its scan, whose MCUs
-- have as many blocks, and of which no fewer are left than of the segment; the bytes given can be counted
pub record IsDecoder (d : Inside) : Type 0 where
  pub bins : bin_count ≤ length d.coder.bins
  pub grid : d.segment.grid ≡ grid_of d.plan
  pub shape : d.writer.shape ≡ shape_of d.plan
  pub blocks : length d.writer.shape.slots ≡ block_count d.segment.grid.mcu
  pub within : d.writer.spot.count + d.left ≤ d.writer.shape.mcus
  pub bounded : IsBounded d.given d.left
