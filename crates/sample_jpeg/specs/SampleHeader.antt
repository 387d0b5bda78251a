-- Statement: the header of a sample (docs/SAMPLE.md, The file; ITU-T T.81, B.2): a frame of three components without
-- subsampling, one table of each class with every symbol that a baseline scan may need, and, if the sample has
-- restarts, an interval of one row of MCUs.
use Rattle.std.specs.Prelude.{ℕ, ◌+◌, ◌*◌, ◌-◌, ◌%◌, ◌≤◌, Bool, true, false, ◌&&◌, ◌||◌, ◌==◌, nat_le, if◌then◌else◌, List, [], ◌∷◌, ◌++◌, filter, length, replicate, Some, None}
use Rattle.std.specs.List.{range_with_len}
use Rattle.jpeg_marker.specs.HuffmanTables.{TableFields}
use Rattle.jpeg_marker.specs.MarkerSegments.{Segment, header_text, two_bytes}
use Rattle.jpeg_marker.specs.Plans.{PlanFields}
use Rattle.jpeg_marker.specs.declared.component.Component.{Component}
use Rattle.jpeg_marker.specs.declared.definitions.Definitions.{Definitions}
use Rattle.jpeg_marker.specs.declared.parameters.FrameComponent.{FrameComponent}
use Rattle.sample_jpeg.specs.declared.extent.Extent.{Extent}

-- the picture that a seed gives: an odd one has restarts (own)
abbrev pub extent_of : ℕ → ℕ → ℕ → Extent
extent_of seed columns rows =
    record { restarts = seed % 2 == 1; columns = columns; rows = rows }

-- counts of code words by their length, all of one length (B.2.4.2)
abbrev pub counts_at : ℕ → ℕ → List ℕ
counts_at size count = replicate (size - 1) 0 ++ count ∷ replicate (16 - size) 0

-- the categories of DC differences, with words of 4 bits (Table F.1)
abbrev pub dc_table : TableFields
dc_table = record { counts = counts_at 4 12; values = range_with_len 0 12 }

-- whether a byte is a symbol of AC coefficients: a run and a category of 1 to 10, sixteen zeros, or the block's end
-- (F.1.2.2.1, Table F.2)
abbrev pub is_ac_symbol : ℕ → Bool
is_ac_symbol byte = byte == 0x00 || byte == 0xf0 || nat_le 1 (byte % 16) && nat_le (byte % 16) 10

-- all of them in rising order, with words of 8 bits
abbrev pub ac_table : TableFields
ac_table =
    record { counts = counts_at 8 162; values = filter is_ac_symbol (range_with_len 0 256) }

-- a marker segment without fill bytes (B.1.1.4)
abbrev pub segment : ℕ → List ℕ → Segment
segment code body = record { fill = 0; code = code; body = body }

-- SOF0: 8 bits a sample, lines, samples in a line, three components with sampling factors of 1 and table 0 (B.2.2)
abbrev pub frame_segment : Extent → Segment
frame_segment e = segment 0xc0 (8 ∷ two_bytes (8 * e.rows) ++ two_bytes (8 * e.columns)
    ++ 3 ∷ 1 ∷ 0x11 ∷ 0 ∷ 2 ∷ 0x11 ∷ 0 ∷ 3 ∷ 0x11 ∷ 0 ∷ [])

-- DHT: a table with its class and number (B.2.4.2)
abbrev pub table_segment : ℕ → TableFields → Segment
table_segment class_and_number t = segment 0xc4 (class_and_number ∷ t.counts ++ t.values)

-- DRI, if there are restarts: an interval is a row of MCUs (B.2.4.4)
abbrev pub interval_segments : Extent → List Segment
interval_segments e = if e.restarts then segment 0xdd (two_bytes e.columns) ∷ [] else []

-- the segments before the scan's
abbrev pub segments_before : Extent → List Segment
segments_before e =
    frame_segment e ∷ table_segment 0x00 dc_table ∷ table_segment 0x10 ac_table
    ∷ interval_segments e

-- SOS: the three components with their tables, and all 64 coefficients at once (B.2.3)
abbrev pub scan_segment : Segment
scan_segment = segment 0xda (3 ∷ 1 ∷ 0 ∷ 2 ∷ 0 ∷ 3 ∷ 0 ∷ 0 ∷ 63 ∷ 0 ∷ [])

-- the header
unfoldable pub sample_header : Extent → List ℕ
sample_header e = header_text (segments_before e ++ scan_segment ∷ [])

-- a component of an index with its tables
abbrev pub sample_component : ℕ → Component
sample_component index =
    record { index = index; id = index + 1; h = 1; v = 1; dc = dc_table; ac = ac_table }

-- what the frame says of it
abbrev pub sample_part : ℕ → FrameComponent
sample_part index = record { id = index + 1; h = 1; v = 1 }

-- what is known after the scan: the frame, the two tables, and that all components were coded
abbrev pub sample_known : ℕ → ℕ → ℕ → ℕ → Definitions
sample_known height width interval blocks = record {
  frame = Some (record {
    height = height;
    width = width;
    parts = sample_part 0 ∷ sample_part 1 ∷ sample_part 2 ∷ [];
  });
  tables = Some dc_table ∷ replicate 3 None ++ Some ac_table ∷ replicate 3 None;
  interval = interval;
  coded = replicate 3 true ++ false ∷ [];
  blocks = blocks;
}

-- what the header says: an MCU is a block of each component (A.2.3)
abbrev pub sample_plan : Extent → PlanFields
sample_plan e = record {
  components = sample_component 0 ∷ sample_component 1 ∷ sample_component 2 ∷ [];
  across = e.columns;
  down = e.rows;
  interval = if e.restarts then e.columns else 0;
  header_length = length (sample_header e);
  blocks = e.columns * e.rows * 3;
  known = sample_known (8 * e.rows) (8 * e.columns) (if e.restarts then e.columns else 0)
      (e.columns * e.rows * 3);
}

-- from 1 to 256 blocks across and down
pub record IsExtent (e : Extent) : Type 0 where
  pub wide : 1 ≤ e.columns
  pub narrow : e.columns ≤ 256
  pub high : 1 ≤ e.rows
  pub low : e.rows ≤ 256
