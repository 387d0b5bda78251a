use Rattle.std.proofs.Common.{◌++◌, length, refl, sym, ap, ◌∙◌}
use Rattle.board_core.specs.BoardLaws.{board_before, output}
use Rattle.board_core.proofs.OpeningBoard.{opens, handed_nothing}
use Rattle.board_core.proofs.HandedBytes.{hands_all, handed_prefix}
use Rattle.board_core.proofs.laws.bytes_come_in_order.Goals as goal

pub returns : goal.returns
returns c = λ r lawful.
    let k = length r.bytes in
    let first = opens r.bytes r.outcomes k r.capacity r.workers refl lawful.outcomes in
    let all = hands_all r.bytes r.outcomes (board_before r) r.events r.after first lawful.events in
    let prefix = handed_prefix r.bytes r.after in
    let none = ap (λ l. l ++ output r lawful) (handed_nothing r.bytes k r.capacity r.workers) in
    (prefix.0, ap (λ l. l ++ prefix.0) (sym (all ∙ none)) ∙ prefix.1)
