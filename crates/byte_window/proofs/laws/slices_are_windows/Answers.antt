use Rattle.byte_window.proofs.SliceParts.{slice_of_parts, slice_is_window, slices_join, most_is_counted}
use Rattle.byte_window.proofs.Covers.{cover_is_exact}
use Rattle.byte_window.proofs.laws.slices_are_windows.Goals as goal

pub returns-clause-parts : goal.returns-clause-parts
returns-clause-parts c = slice_of_parts

pub returns-clause-window : goal.returns-clause-window
returns-clause-window c = slice_is_window

pub returns-clause-joined : goal.returns-clause-joined
returns-clause-joined c = slices_join

pub returns-clause-cover : goal.returns-clause-cover
returns-clause-cover c = cover_is_exact

pub returns-clause-most : goal.returns-clause-most
returns-clause-most c = most_is_counted
