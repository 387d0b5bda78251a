use Rattle.std.proofs.Common.{length, refl}
use Rattle.board_core.specs.BoardLaws.{board_before}
use Rattle.board_core.proofs.EachSegment.{from_board}
use Rattle.board_core.proofs.OpeningBoard.{opens}
use Rattle.board_core.proofs.HandedBytes.{keeps_all}
use Rattle.board_core.proofs.laws.the_board_is_kept.Goals as goal

pub returns : goal.returns
returns c = λ r lawful.
    let first = opens r.bytes r.outcomes (length r.bytes) r.capacity r.workers refl lawful.outcomes in
    from_board r.bytes r.outcomes r.after
    (keeps_all r.bytes r.outcomes (board_before r) r.events r.after first lawful.events)
