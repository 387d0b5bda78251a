use Rattle.coef_block.proofs.Positions.{indexes-below, zigzag-indexes}
use Rattle.coef_block.proofs.zigzag.zigzag_index.Goals as goal

pub returns-clause-within : goal.returns-clause-within
returns-clause-within c = rw c.from.ensures (indexes-below c.args.position c.requires)

pub returns-clause-position : goal.returns-clause-position
returns-clause-position c = rw c.from.ensures (zigzag-indexes c.args.position c.requires)
