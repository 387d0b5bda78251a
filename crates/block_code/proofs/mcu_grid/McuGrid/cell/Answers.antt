use Rattle.std.proofs.Common.{◌<◌, ◌*◌, ◌+◌, ◌-◌, ◌%◌, ◌^◌, arith, slice_index}
use Rattle.block_spec.specs.Grid.{component_of}
use Rattle.block_code.specs.GridInside.{grid_in}
use Rattle.block_code.proofs.McuCells.{column_small, in_frame}
use Rattle.block_code.proofs.mcu_grid.McuGrid.cell.Goals.{After-width-1}
use Rattle.block_code.proofs.mcu_grid.McuGrid.cell.Goals as goal

small : (c : After-width-1) → c.args.before * slice_index c.self.inside.widths c.component-component.result
    + (c.args.index - slice_index c.self.inside.offsets c.component-component.result) % slice_index c.self.inside.widths c.component-component.result < 2 ^ 32
small c =
    let e = rw (← c.self.view_is) at c.component-component.ensures in
    let before = rw (← c.self.view_is) at c.requires.before in
    let index = rw (← c.self.view_is) at c.requires.index in
    let frame : component_of (grid_in c.self.inside).mcu c.args.index < 4 = in_frame (grid_in c.self.inside) c.args.before c.args.index before index in
    let offsets = c.self.invariant.offsets (component_of (grid_in c.self.inside).mcu c.args.index) frame in
    rw (e, offsets)
    (column_small (grid_in c.self.inside) c.args.before c.args.index before index c.self.invariant.narrow (c.self.invariant.wide (component_of (grid_in c.self.inside).mcu c.args.index) frame))

pub overflow_mul-result : goal.overflow_mul-result
overflow_mul-result c = let h = small c in omega (arith, h)

pub overflow_add-result : goal.overflow_add-result
overflow_add-result c = let h = small c in omega (arith, h)
