use Rattle.std.proofs.Common.{◌<◌, length, arith, rules}
use Rattle.huff_table.proofs.FrameComponents.{low_index}
use Rattle.huff_table.proofs.PlanComponents.{codes_put}
use Rattle.huff_table.proofs.plan_codes.PlanCodes.build.Goals as goal

pub index_mut-requires : goal.index_mut-requires
index_mut-requires c =
    let is = c.components-components.ensures in
    let low : c.index.result < 4 = rw (c.index.ensures, c.component-item.is)
    (low_index c.components-components.result.now c.args.plan.now.components c.loop-component.component-index c.component-item.result is.value is.kept.indexes c.loop-component-test.true) in
    let within : c.from.result < length c.loop-component.all.items = omega (arith, low, c.from.ensures, c.loop-component.invariant.long) in search rules

pub returns-clause-value : goal.returns-clause-value
returns-clause-value c =
    let is = c.components-components.ensures in
    codes_put c.loop-component.all.items c.components-components.result.now c.args.plan.now.components c.loop-component.component-index is.value is.kept.indexes
    c.loop-component-test.false c.loop-component.invariant.rest
