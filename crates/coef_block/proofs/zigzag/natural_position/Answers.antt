use Rattle.coef_block.proofs.Positions.{zigzag-above, zigzag-below}
use Rattle.coef_block.proofs.zigzag.natural_position.Goals as goal

pub returns-clause-within : goal.returns-clause-within
returns-clause-within c = rw c.from.ensures (zigzag-below c.args.index c.requires)

pub returns-clause-later : goal.returns-clause-later
returns-clause-later c = λ later. rw c.from.ensures (zigzag-above c.args.index c.requires later)
