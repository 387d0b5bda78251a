use Rattle.std.proofs.Common.{length, refl}
use Rattle.board_core.proofs.OpeningBoard.{opens}
use Rattle.board_core.proofs.SpentSteps.{few_events}
use Rattle.board_core.proofs.laws.events_are_few.Goals as goal

pub returns : goal.returns
returns c = λ r lawful.
    let k = length r.bytes in
    let first = opens r.bytes r.outcomes k r.capacity r.workers refl lawful.outcomes in
    few_events r.bytes r.outcomes k r.capacity r.workers r.events r.after first lawful.events
