use Rattle.std.proofs.Common.{◌≡◌, ℕ, ◌≤◌, ◌+◌, ◌*◌, ◌++◌, List, length, take}
use Rattle.std.specs.Prelude.{ℤ}
use Rattle.coef_block.specs.BlockRows.{block_count}
use Rattle.std.specs.List.{AllByRecursion}
use Rattle.coef_block.specs.Block.{IsBlock}
use Rattle.block_spec.specs.HeldRows.{HoldBlocks}
use Rattle.block_code.specs.SegmentUnderWay.{PutsMore}
use Rattle.block_code.proofs.mcu.put_blocks.Given as goal
use Rattle.coef_context.specs.Runs.{bin_count}

abbrev pub invariant-loop-index : goal.invariant-loop-index
invariant-loop-index l = record {
  room : bin_count ≤ length l.coder.bins.now;
  blocks : AllByRecursion IsBlock (take l.index l.blocks);
  extents : l.rows.extents ≡ l.initial.rows.extents;
  put : (done : List (List ℤ)) (row : ℕ) → length done ≡ (row * l.grid.across + l.before) * block_count l.grid.mcu → HoldBlocks l.initial.rows l.grid done row
      → PutsMore l.initial.coder l.grid done l.coder (take l.index l.blocks);
  held : (done : List (List ℤ)) (row : ℕ) → length done ≡ (row * l.grid.across + l.before) * block_count l.grid.mcu → HoldBlocks l.initial.rows l.grid done row
      → HoldBlocks l.rows l.grid (done ++ take l.index l.blocks) row;
}
