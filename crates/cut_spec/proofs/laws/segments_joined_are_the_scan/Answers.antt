use Rattle.cut_spec.proofs.Slices.{each_slice, joined_scan}
use Rattle.cut_spec.proofs.SpotsBegun.{rows, each_has_rows}
use Rattle.cut_spec.proofs.laws.segments_joined_are_the_scan.Goals as goal

pub returns-clause-slices : goal.returns-clause-slices
returns-clause-slices c = each_slice

pub returns-clause-joined : goal.returns-clause-joined
returns-clause-joined c = joined_scan

pub returns-clause-rows : goal.returns-clause-rows
returns-clause-rows c = rows

pub returns-clause-each_has_rows : goal.returns-clause-each_has_rows
returns-clause-each_has_rows c = each_has_rows
