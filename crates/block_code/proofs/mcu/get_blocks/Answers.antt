use Rattle.std.proofs.Common.{refl, ◌∙◌, ◌≡◌, ◌<◌, length, take, arith}
use Rattle.std.proofs.lemmas.List.{append-nil, take_all, length-take-le, length-set}
use Rattle.std.proofs.lemmas.Result.{err_from_is_err_and}
use Rattle.coef_block.specs.BlockRows.{block_count}
use Rattle.block_spec.specs.HeldRows.{FitsGrid}
use Rattle.block_code.proofs.McuCells.{row_fits, column_fits}
use Rattle.block_code.proofs.McuSteps.{next_after, gets_nothing, gets_one, gets_fault, fault_near, take_set, held_on}
use Rattle.block_code.proofs.mcu.get_blocks.Goals as goal

pub loop-index-init : goal.loop-index-init
loop-index-init c = record {
  room = refl;
  extents = refl;
  long = c.requires.blocks;
  got = λ done row count held. gets_nothing c.args.coder.now c.args.grid.now done;
  held = λ done row count held. rw (append-nil done) held;
}

pub get_in_place-requires-clause-row : goal.get_in_place-requires-clause-row
get_in_place-requires-clause-row c =
    let fits : FitsGrid c.loop-index.rows.extents c.args.grid.now = rw (c.loop-index.invariant.extents) c.requires.fits in
    rw (c.cell-component.ensures.component, c.cell-component.ensures.row)
    (row_fits c.loop-index.rows.extents c.args.grid.now c.args.before c.loop-index.index fits c.requires.before (rw (c.requires.blocks) at c.loop-index-test.true))

pub get_in_place-requires-clause-column : goal.get_in_place-requires-clause-column
get_in_place-requires-clause-column c =
    let fits : FitsGrid c.loop-index.rows.extents c.args.grid.now = rw (c.loop-index.invariant.extents) c.requires.fits in
    rw (c.cell-component.ensures.component, c.cell-component.ensures.column)
    (column_fits c.loop-index.rows.extents c.args.grid.now c.args.before c.loop-index.index fits c.requires.before (rw (c.requires.blocks) at c.loop-index-test.true))

pub store-requires-clause-row : goal.store-requires-clause-row
store-requires-clause-row c =
    let fits : FitsGrid c.loop-index.rows.extents c.args.grid.now = rw (c.loop-index.invariant.extents) c.requires.fits in
    rw (c.cell-component.ensures.component, c.cell-component.ensures.row)
    (row_fits c.loop-index.rows.extents c.args.grid.now c.args.before c.loop-index.index fits c.requires.before (rw (c.requires.blocks) at c.loop-index-test.true))

pub store-requires-clause-column : goal.store-requires-clause-column
store-requires-clause-column c =
    let fits : FitsGrid c.loop-index.rows.extents c.args.grid.now = rw (c.loop-index.invariant.extents) c.requires.fits in
    rw (c.cell-component.ensures.component, c.cell-component.ensures.column)
    (column_fits c.loop-index.rows.extents c.args.grid.now c.args.before c.loop-index.index fits c.requires.before (rw (c.requires.blocks) at c.loop-index-test.true))

pub loop-index-preserved : goal.loop-index-preserved
loop-index-preserved c =
    let g = c.args.grid.now in
    let k = c.loop-index.index in
    let b = c.get_in_place.new.block in
    let below : k < block_count g.mcu = rw (c.requires.blocks) at c.loop-index-test.true in
    let within : k < length c.loop-index.out = rw (c.loop-index.invariant.long) below in
    let one = rw (c.class_of.ensures.value, c.cell-component.ensures.component, c.cell-component.ensures.row, c.cell-component.ensures.column) at c.in_ok-get_in_place.ensures.read in
    let kept = rw (c.cell-component.ensures.component, c.cell-component.ensures.row, c.cell-component.ensures.column) at c.store.ensures in
    let more = take_set c.loop-index.out k b within in
    let some : length (take k c.loop-index.out) ≡ k = length-take-le k c.loop-index.out (omega (arith, within)) in
    record {
      room = c.get_in_place.ensures.room ∙ c.loop-index.invariant.room;
      extents = rw (c.store.ensures) c.loop-index.invariant.extents;
      long = simp length-set c.loop-index.invariant.long;
      got = λ done row count held.
          let next = next_after g done (take k c.loop-index.out) row c.args.before k c.requires.grid c.requires.before below count some in
          rw more (gets_one c.args.coder.now c.loop-index.coder c.get_in_place.new.coder c.loop-index.rows g done (take k c.loop-index.out) b row c.args.before k next (c.loop-index.invariant.held done row count held)
          (c.loop-index.invariant.got done row count held) one);
      held = λ done row count held.
          let next = next_after g done (take k c.loop-index.out) row c.args.before k c.requires.grid c.requires.before below count some in
          rw (more, kept) (held_on c.loop-index.rows g done (take k c.loop-index.out) b row c.args.before k next (c.loop-index.invariant.held done row count held));
    }

pub returns-clause-got : goal.returns-clause-got
returns-clause-got c = λ done row count held.
    rw (take_all c.loop-index.index c.loop-index.out (omega (arith, c.loop-index-test.false))) at (c.loop-index.invariant.got done row count held)

pub returns-clause-held : goal.returns-clause-held
returns-clause-held c = λ done row count held.
    rw (take_all c.loop-index.index c.loop-index.out (omega (arith, c.loop-index-test.false))) at (c.loop-index.invariant.held done row count held)

pub returns-in_err-get_in_place-clause-fault : goal.returns-in_err-get_in_place-clause-fault
returns-in_err-get_in_place-clause-fault c = λ done row count held.
    let g = c.args.grid.now in
    let k = c.loop-index.index in
    let p = err_from_is_err_and c.from_residual.result c.from_residual.ensures.1 in
    let below : k < block_count g.mcu = rw (c.requires.blocks) at c.loop-index-test.true in
    let within : k < length c.loop-index.out = rw (c.loop-index.invariant.long) below in
    let some : length (take k c.loop-index.out) ≡ k = length-take-le k c.loop-index.out (omega (arith, within)) in
    let read = fault_near c.loop-index.coder c.get_in_place.new.coder c.loop-index.rows g c.args.before k c.class_of.result c.cell-component.result.0 c.cell-component.result.1 c.cell-component.result.2 c.in_err-get_in_place.field-0.0
    c.class_of.ensures.value c.cell-component.ensures.component c.cell-component.ensures.row c.cell-component.ensures.column c.in_err-get_in_place.ensures.read in
    let next = next_after g done (take k c.loop-index.out) row c.args.before k c.requires.grid c.requires.before below count some in
    rw (p.1, p.2) (gets_fault c.args.coder.now c.loop-index.coder c.get_in_place.new.coder c.loop-index.rows g done (take k c.loop-index.out) c.in_err-get_in_place.field-0.0 row c.args.before k next some
    (c.loop-index.invariant.held done row count held) (c.loop-index.invariant.got done row count held) read)
