use Rattle.byte_window.proofs.WindowParts.{all_passes, comes_in_pieces, steps_add, step_of_nothing, is_counted, is_prefix}
use Rattle.byte_window.proofs.laws.windows_come_in_pieces.Goals as goal

pub returns-clause-all : goal.returns-clause-all
returns-clause-all c = all_passes

pub returns-clause-pieces : goal.returns-clause-pieces
returns-clause-pieces c = comes_in_pieces

pub returns-clause-steps : goal.returns-clause-steps
returns-clause-steps c = steps_add

pub returns-clause-nothing : goal.returns-clause-nothing
returns-clause-nothing c = step_of_nothing

pub returns-clause-count : goal.returns-clause-count
returns-clause-count c = is_counted

pub returns-clause-prefix : goal.returns-clause-prefix
returns-clause-prefix c = is_prefix
