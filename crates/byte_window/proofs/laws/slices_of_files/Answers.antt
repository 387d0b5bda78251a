use Rattle.byte_window.proofs.PartedFacts.{slice_of_file, bytes_are_enough, most_is_left, ranges_join, chunks_are_the_file}
use Rattle.byte_window.proofs.BegunParts.{list_is_placed}
use Rattle.byte_window.proofs.laws.slices_of_files.Goals as goal

pub returns-clause-slice : goal.returns-clause-slice
returns-clause-slice c = slice_of_file

pub returns-clause-enough : goal.returns-clause-enough
returns-clause-enough c = bytes_are_enough

pub returns-clause-left : goal.returns-clause-left
returns-clause-left c = most_is_left

pub returns-clause-joined : goal.returns-clause-joined
returns-clause-joined c = ranges_join

pub returns-clause-list : goal.returns-clause-list
returns-clause-list c = list_is_placed

pub returns-clause-chunks : goal.returns-clause-chunks
returns-clause-chunks c = chunks_are_the_file
