use Rattle.board_core.proofs.StepFrames.{worker_frame}
use Rattle.board_core.proofs.laws.workers_leave_the_emitted.Goals as goal

pub returns : goal.returns
returns c = λ w old e new is step. worker_frame old e new w is step
