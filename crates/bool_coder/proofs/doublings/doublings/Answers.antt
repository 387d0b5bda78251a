use Rattle.bool_coder.proofs.Tables.{tables_are}
use Rattle.bool_coder.proofs.doublings.doublings.Goals as goal

pub returns-clause-few : goal.returns-clause-few
returns-clause-few c = rw c.from.ensures (tables_are c.args.range c.requires.some c.requires.high).doublings.few

pub returns-clause-enough : goal.returns-clause-enough
returns-clause-enough c = rw c.from.ensures (tables_are c.args.range c.requires.some c.requires.high).doublings.enough

pub returns-clause-no_more : goal.returns-clause-no_more
returns-clause-no_more c = rw c.from.ensures (tables_are c.args.range c.requires.some c.requires.high).doublings.no_more

pub returns-clause-less : goal.returns-clause-less
returns-clause-less c = rw (c.from.ensures, c.from-2.ensures) (tables_are c.args.range c.requires.some c.requires.high).is
