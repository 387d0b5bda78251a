use Rattle.board_core.proofs.StepFrames.{frame}
use Rattle.board_core.proofs.laws.events_leave_others.Goals as goal

pub returns : goal.returns
returns c = frame
