-- Statement: the events of a segment, from its whole list of blocks (docs/FORMAT.md, The events of a block).
use Rattle.std.specs.Prelude.{ℕ, zero, suc, ◌==◌, if◌then◌else◌, Bool, List, [], ◌++◌, length, ℤ, option_map, slice_index_or}
use Rattle.std.specs.Option.{option_and_then}
use Rattle.coef_block.specs.BlockRows.{no_block}
use Rattle.block_spec.specs.Around.{Around}
use Rattle.block_spec.specs.BlockEvents.{block_events}
use Rattle.block_spec.specs.Grid.{Grid, Cell, cell_at, block_at, above_of, left_of}

-- the blocks around a cell (own)
unfoldable pub around_in : Grid → List (List ℤ) → Cell → Around
around_in g blocks p = record {
  above = option_map (block_at g blocks) (above_of g p);
  left = option_map (block_at g blocks) (left_of p);
  diagonal = option_map (block_at g blocks) (option_and_then (above_of g) (left_of p));
}

-- the class of a component: the frame's first has one of its own (own)
abbrev pub class_of : ℕ → ℕ
class_of component = if component == 0 then 0 else 1

-- the events of block n (own)
unfoldable pub events_at : Grid → List (List ℤ) → ℕ → List (ℕ × Bool)
events_at g blocks n =
    let cell = cell_at g n in
    block_events (class_of cell.component) (around_in g blocks cell)
    (slice_index_or blocks n no_block)

-- what a block more adds to a list (own)
abbrev pub next_events : Grid → List (List ℤ) → List ℤ → List (ℕ × Bool)
next_events g blocks block =
    let cell = cell_at g (length blocks) in
    block_events (class_of cell.component) (around_in g blocks cell) block

-- the events of the first n blocks (own)
abbrev pub events_to : Grid → List (List ℤ) → ℕ → List (ℕ × Bool)
events_to g blocks zero = []
events_to g blocks (suc n) = events_to g blocks n ++ events_at g blocks n

-- the events of all blocks (own)
unfoldable pub segment_events : Grid → List (List ℤ) → List (ℕ × Bool)
segment_events g blocks = events_to g blocks (length blocks)
