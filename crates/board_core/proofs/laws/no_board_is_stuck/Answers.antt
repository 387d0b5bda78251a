use Rattle.std.proofs.Common.{length, refl, arith}
use Rattle.board_core.specs.BoardLaws.{board_before}
use Rattle.board_core.proofs.OpeningBoard.{opens}
use Rattle.board_core.proofs.HandedBytes.{keeps_all, rooms}
use Rattle.board_core.proofs.NextEvents.{goes_on}
use Rattle.board_core.proofs.laws.no_board_is_stuck.Goals as goal

pub returns : goal.returns
returns c = λ r room lawful unfinished.
    let first = opens r.bytes r.outcomes (length r.bytes) r.capacity r.workers refl lawful.outcomes in
    let same = rooms r.bytes r.outcomes (board_before r) r.events r.after lawful.events in
    goes_on r.bytes r.outcomes r.after
    (keeps_all r.bytes r.outcomes (board_before r) r.events r.after first lawful.events)
    (omega arith) unfinished
