use Rattle.std.proofs.Common.{◌<◌, arith}
use Rattle.jpeg_marker.specs.declared.component.Component.{Component}
use Rattle.huff_table.proofs.FrameComponents.{low_index}
use Rattle.segment_code.proofs.GridsOfPlans.{numbers_put}
use Rattle.segment_code.proofs.grid.ones.Goals as goal

pub bounds-ones-from : goal.bounds-ones-from
bounds-ones-from c =
    let is = c.components-components.ensures in
    let low : c.index.result < 4 = rw (c.index.ensures, c.component-item.is)
    (low_index c.components-components.result.now c.args.plan.now.components c.loop-component.component-index c.component-item.result is.value is.kept.indexes c.loop-component-test.true) in
    omega (arith, low, c.from.ensures)

pub returns : goal.returns
returns c =
    let is = c.components-components.ensures in
    numbers_put (λ (part : Component). 1) c.loop-component.ones c.components-components.result.now c.args.plan.now.components c.loop-component.component-index
    is.value is.kept.indexes c.loop-component-test.false c.loop-component.invariant.rest
