use Rattle.board_core.proofs.NextEvents.{counts_fit}
use Rattle.board_core.proofs.laws.lawful_events_fit.Goals as goal

pub returns : goal.returns
returns c = λ ss os b e short h lists. counts_fit ss os b e short (λ i. (h.between i).within) lists
