use Rattle.std.proofs.Common.{◌<◌, arith}
use Rattle.jpeg_marker.specs.declared.component.Component.{Component}
use Rattle.huff_table.proofs.FrameComponents.{low_index}
use Rattle.segment_code.proofs.GridsOfPlans.{numbers_put}
use Rattle.segment_code.proofs.grid.heights.Goals as goal

pub bounds-heights-from : goal.bounds-heights-from
bounds-heights-from c =
    let is = c.components-components.ensures in
    let low : c.index.result < 4 = rw (c.index.ensures, c.component-item.is)
    (low_index c.components-components.result.now c.args.plan.now.components c.loop-component.component-index c.component-item.result is.value is.kept.indexes c.loop-component-test.true) in
    omega (arith, low, c.from-in-loop-component.ensures)

pub returns : goal.returns
returns c =
    let is = c.components-components.ensures in
    numbers_put (λ (part : Component). part.v) c.loop-component.heights c.components-components.result.now c.args.plan.now.components c.loop-component.component-index
    is.value is.kept.indexes c.loop-component-test.false c.loop-component.invariant.rest
