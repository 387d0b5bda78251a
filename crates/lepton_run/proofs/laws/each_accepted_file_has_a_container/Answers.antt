use Rattle.lepton_run.proofs.AcceptedFiles.{accepted_has_container}
use Rattle.lepton_run.proofs.laws.each_accepted_file_has_a_container.Goals as goal

pub returns : goal.returns
returns c = accepted_has_container
