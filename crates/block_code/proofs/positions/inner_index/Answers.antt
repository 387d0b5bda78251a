use Rattle.block_code.proofs.IndexTables.{inner_at}
use Rattle.block_code.proofs.positions.inner_index.Goals as goal

pub returns-clause-position : goal.returns-clause-position
returns-clause-position c = rw c.from.ensures (inner_at c.args.place c.requires).0

pub returns-clause-within : goal.returns-clause-within
returns-clause-within c = rw c.from.ensures (inner_at c.args.place c.requires).1
