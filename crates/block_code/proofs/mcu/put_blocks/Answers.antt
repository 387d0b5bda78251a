use Rattle.std.proofs.Common.{refl, ◌≡◌, ◌<◌, ◌+◌, ◌++◌, length, take, arith, [], ◌∷◌}
use Rattle.std.proofs.lemmas.List.{append-nil, take_all, length-take-le}
use Rattle.coef_block.specs.BlockRows.{block_count}
use Rattle.block_spec.specs.HeldRows.{FitsGrid}
use Rattle.block_code.proofs.McuCells.{row_fits, column_fits}
use Rattle.block_code.proofs.McuSteps.{next_after, puts_nothing, puts_one, take_one, held_on, one_block_more}
use Rattle.block_code.proofs.mcu.put_blocks.Goals as goal

pub loop-index-init : goal.loop-index-init
loop-index-init c = record {
  room = c.requires.room;
  blocks = tt;
  extents = refl;
  put = λ done row count held. puts_nothing c.args.coder.now c.args.grid.now done;
  held = λ done row count held. rw (append-nil done) held;
}

pub put_block-requires-clause-row : goal.put_block-requires-clause-row
put_block-requires-clause-row c =
    let fits : FitsGrid c.loop-index.rows.extents c.args.grid.now = rw (c.loop-index.invariant.extents) c.requires.fits in
    rw (c.cell-component.ensures.component, c.cell-component.ensures.row)
    (row_fits c.loop-index.rows.extents c.args.grid.now c.args.before c.loop-index.index fits c.requires.before (rw (c.requires.blocks) at c.loop-index-test.true))

pub put_block-requires-clause-column : goal.put_block-requires-clause-column
put_block-requires-clause-column c =
    let fits : FitsGrid c.loop-index.rows.extents c.args.grid.now = rw (c.loop-index.invariant.extents) c.requires.fits in
    rw (c.cell-component.ensures.component, c.cell-component.ensures.column)
    (column_fits c.loop-index.rows.extents c.args.grid.now c.args.before c.loop-index.index fits c.requires.before (rw (c.requires.blocks) at c.loop-index-test.true))

pub store-requires-clause-row : goal.store-requires-clause-row
store-requires-clause-row c =
    let fits : FitsGrid c.loop-index.rows.extents c.args.grid.now = rw (c.loop-index.invariant.extents) c.requires.fits in
    rw (c.cell-component.ensures.component, c.cell-component.ensures.row)
    (row_fits c.loop-index.rows.extents c.args.grid.now c.args.before c.loop-index.index fits c.requires.before (rw (c.requires.blocks) at c.loop-index-test.true))

pub store-requires-clause-column : goal.store-requires-clause-column
store-requires-clause-column c =
    let fits : FitsGrid c.loop-index.rows.extents c.args.grid.now = rw (c.loop-index.invariant.extents) c.requires.fits in
    rw (c.cell-component.ensures.component, c.cell-component.ensures.column)
    (column_fits c.loop-index.rows.extents c.args.grid.now c.args.before c.loop-index.index fits c.requires.before (rw (c.requires.blocks) at c.loop-index-test.true))

pub loop-index-preserved : goal.loop-index-preserved
loop-index-preserved c =
    let g = c.args.grid.now in
    let blocks = c.args.blocks.now in
    let k = c.loop-index.index in
    let b = c.index-blocks-index.result in
    let below : k < block_count g.mcu = rw (c.requires.blocks) at c.loop-index-test.true in
    let one = rw (c.class_of.ensures.value, c.cell-component.ensures.component, c.cell-component.ensures.row, c.cell-component.ensures.column) at c.in_ok-put_block.ensures.coded in
    let kept = rw (c.cell-component.ensures.component, c.cell-component.ensures.row, c.cell-component.ensures.column) at c.store.ensures in
    let more : take (k + 1) blocks ≡ take k blocks ++ b ∷ [] = take_one blocks k b c.loop-index-test.true c.index-blocks-index.is in
    let some : length (take k blocks) ≡ k = length-take-le k blocks (omega (arith, c.loop-index-test.true)) in
    record {
      room = rw (c.in_ok-put_block.ensures.coded.room) c.loop-index.invariant.room;
      blocks = rw more (one_block_more (take k blocks) b c.loop-index.invariant.blocks c.in_ok-put_block.ensures.block);
      extents = rw (c.store.ensures) c.loop-index.invariant.extents;
      put = λ done row count held.
          let next = next_after g done (take k blocks) row c.args.before k c.requires.grid c.requires.before below count some in
          rw more (puts_one c.args.coder.now c.loop-index.coder c.put_block.new.coder c.loop-index.rows g done (take k blocks) b row c.args.before k next (c.loop-index.invariant.held done row count held)
          (c.loop-index.invariant.put done row count held) one);
      held = λ done row count held.
          let next = next_after g done (take k blocks) row c.args.before k c.requires.grid c.requires.before below count some in
          rw (more, kept) (held_on c.loop-index.rows g done (take k blocks) b row c.args.before k next (c.loop-index.invariant.held done row count held));
    }

pub returns-clause-put : goal.returns-clause-put
returns-clause-put c = λ done row count held.
    rw (take_all c.loop-index.index c.args.blocks.now (omega (arith, c.loop-index-test.false))) at (c.loop-index.invariant.put done row count held)

pub returns-clause-held : goal.returns-clause-held
returns-clause-held c = λ done row count held.
    rw (take_all c.loop-index.index c.args.blocks.now (omega (arith, c.loop-index-test.false))) at (c.loop-index.invariant.held done row count held)

pub returns-clause-blocks : goal.returns-clause-blocks
returns-clause-blocks c = rw (take_all c.loop-index.index c.args.blocks.now (omega (arith, c.loop-index-test.false))) at c.loop-index.invariant.blocks
