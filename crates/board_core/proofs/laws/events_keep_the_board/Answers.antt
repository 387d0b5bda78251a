use Rattle.board_core.proofs.EachSegment.{is_board, from_board}
use Rattle.board_core.proofs.KeptSteps.{keeps}
use Rattle.board_core.proofs.laws.events_keep_the_board.Goals as goal

pub returns : goal.returns
returns c = λ ss os old e new h step. from_board ss os new (keeps ss os old e new (is_board ss os old h) step)
