use Rattle.lepton_run.proofs.OneAnswers.{one_answer}
use Rattle.lepton_run.proofs.laws.one_answer.Goals as goal

pub returns : goal.returns
returns c = one_answer
