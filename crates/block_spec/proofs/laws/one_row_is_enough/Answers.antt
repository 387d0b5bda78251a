use Rattle.block_spec.proofs.Keeping.{around_is, one_kept, none_kept, next_kept}
use Rattle.block_spec.proofs.laws.one_row_is_enough.Goals as goal

pub returns-clause-around : goal.returns-clause-around
returns-clause-around c = around_is

pub returns-clause-stored : goal.returns-clause-stored
returns-clause-stored c = one_kept

pub returns-clause-cleared : goal.returns-clause-cleared
returns-clause-cleared c = none_kept

pub returns-clause-next_row : goal.returns-clause-next_row
returns-clause-next_row c = next_kept
