use Rattle.byte_window.proofs.BegunParts.{begun_are_first_to_last, none_is_begun, others_are_empty, others_are_unread}
use Rattle.byte_window.proofs.PartedFacts.{parts_are_in_file}
use Rattle.byte_window.proofs.laws.parts_are_first_to_last.Goals as goal

pub returns-clause-within : goal.returns-clause-within
returns-clause-within c = parts_are_in_file

pub returns-clause-some : goal.returns-clause-some
returns-clause-some c = begun_are_first_to_last

pub returns-clause-none : goal.returns-clause-none
returns-clause-none c = none_is_begun

pub returns-clause-empty : goal.returns-clause-empty
returns-clause-empty c = others_are_empty

pub returns-clause-unread : goal.returns-clause-unread
returns-clause-unread c = others_are_unread
