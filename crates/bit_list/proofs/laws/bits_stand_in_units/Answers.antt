use Rattle.bit_list.proofs.Spanning.{few_stuffed, stand, standing, from_within}
use Rattle.bit_list.proofs.laws.bits_stand_in_units.Goals as goal

pub returns-clause-stand : goal.returns-clause-stand
returns-clause-stand c = stand

pub returns-clause-taken : goal.returns-clause-taken
returns-clause-taken c = standing

pub returns-clause-within : goal.returns-clause-within
returns-clause-within c = from_within

pub returns-clause-few : goal.returns-clause-few
returns-clause-few c = few_stuffed
