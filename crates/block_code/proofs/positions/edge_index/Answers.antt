use Rattle.block_code.proofs.IndexTables.{column_at, row_at}
use Rattle.block_code.proofs.positions.edge_index.Goals as goal

pub returns-then-column-clause-position : goal.returns-then-column-clause-position
returns-then-column-clause-position c = rw (c.if-column.true, c.from.ensures) (column_at c.args.place c.requires).0

pub returns-then-column-clause-within : goal.returns-then-column-clause-within
returns-then-column-clause-within c = rw c.from.ensures (column_at c.args.place c.requires).1

pub returns-else-column-clause-position : goal.returns-else-column-clause-position
returns-else-column-clause-position c = rw (c.if-column.false, c.from-else-column.ensures) (row_at c.args.place c.requires).0

pub returns-else-column-clause-within : goal.returns-else-column-clause-within
returns-else-column-clause-within c = rw c.from-else-column.ensures (row_at c.args.place c.requires).1
