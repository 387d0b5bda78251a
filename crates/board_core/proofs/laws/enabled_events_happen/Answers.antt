use Rattle.board_core.proofs.NextEvents.{happens, was_enabled}
use Rattle.board_core.proofs.laws.enabled_events_happen.Goals as goal

pub returns : goal.returns
returns c = λ b e. (happens b e, λ step. was_enabled b e step.0 step.1)
