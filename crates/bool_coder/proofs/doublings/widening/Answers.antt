use Rattle.std.proofs.Common.{get_or}
use Rattle.bool_coder.specs.declared.doublings.TheConstants.{SHIFTS}
use Rattle.bool_coder.proofs.Tables.{tables_are, times_are}
use Rattle.bool_coder.proofs.doublings.widening.Goals as goal

pub returns-clause-power : goal.returns-clause-power
returns-clause-power c =
    (get_or SHIFTS c.args.range 0, (tables_are c.args.range c.requires.some c.requires.high).doublings.few, rw c.from.ensures (times_are c.args.range c.requires.high))

pub returns-clause-enough : goal.returns-clause-enough
returns-clause-enough c = rw (c.from.ensures, times_are c.args.range c.requires.high) (tables_are c.args.range c.requires.some c.requires.high).doublings.enough

pub returns-clause-no_more : goal.returns-clause-no_more
returns-clause-no_more c = rw (c.from.ensures, times_are c.args.range c.requires.high) (tables_are c.args.range c.requires.some c.requires.high).doublings.no_more

pub returns-clause-less : goal.returns-clause-less
returns-clause-less c = rw (c.from.ensures, c.from-2.ensures, times_are c.args.range c.requires.high) (tables_are c.args.range c.requires.some c.requires.high).is
