use Rattle.std.proofs.Common.{◌≡◌, ℕ, ◌+◌, ◌*◌, ◌++◌, List, length, take}
use Rattle.std.specs.Prelude.{ℤ}
use Rattle.coef_block.specs.BlockRows.{block_count}
use Rattle.block_spec.specs.HeldRows.{HoldBlocks}
use Rattle.block_code.specs.SegmentUnderWay.{GetsMore}
use Rattle.block_code.proofs.mcu.get_blocks.Given as goal

abbrev pub invariant-loop-index : goal.invariant-loop-index
invariant-loop-index l = record {
  room : length l.coder.bins ≡ length l.initial.coder.bins;
  extents : l.rows.extents ≡ l.initial.rows.extents;
  long : length l.out ≡ block_count l.grid.mcu;
  got : (done : List (List ℤ)) (row : ℕ) → length done ≡ (row * l.grid.across + l.before) * block_count l.grid.mcu → HoldBlocks l.initial.rows l.grid done row
      → GetsMore l.initial.coder l.grid done l.coder (take l.index l.out);
  held : (done : List (List ℤ)) (row : ℕ) → length done ≡ (row * l.grid.across + l.before) * block_count l.grid.mcu → HoldBlocks l.initial.rows l.grid done row
      → HoldBlocks l.rows l.grid (done ++ take l.index l.out) row;
}
