use Rattle.board_core.proofs.NextEvents.{one_step}
use Rattle.board_core.proofs.laws.events_have_one_step.Goals as goal

pub returns : goal.returns
returns c = λ ss os old e one two h first second. one_step old e one two h.single first second
