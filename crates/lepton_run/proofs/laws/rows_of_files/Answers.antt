use Rattle.lepton_run.proofs.LeastFile.{least_answers}
use Rattle.lepton_run.proofs.TwoScansFile.{two_are_a_file}
use Rattle.lepton_run.proofs.laws.rows_of_files.Goals as goal

pub returns-clause-two_scans : goal.returns-clause-two_scans
returns-clause-two_scans c = two_are_a_file

pub returns-clause-least : goal.returns-clause-least
returns-clause-least c = least_answers
