use Rattle.coef_block.proofs.RowIndexes.{index_inside}
use Rattle.coef_block.specs.RowsInside.{extents_in}
use Rattle.coef_block.proofs.rows.Rows.index.Goals as goal

pub returns-clause-kept : goal.returns-clause-kept
returns-clause-kept c =
    rw (← c.self.view_is) (index_inside (extents_in c.self.inside) c.args.component c.args.row c.args.column _ _
    c.requires.component (rw (← c.self.view_is) at c.requires.row) (rw (← c.self.view_is) at c.requires.column)
    (c.self.invariant.offsets c.args.component c.requires.component) c.self.invariant.blocks)
