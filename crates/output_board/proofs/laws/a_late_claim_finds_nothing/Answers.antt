use Rattle.output_board.proofs.ViewLaws.{none_to_claim, finds_nothing}
use Rattle.output_board.proofs.laws.a_late_claim_finds_nothing.Goals as goal

pub returns : goal.returns
returns g c = λ b views j v e h at role through.
    let none = none_to_claim g.C.Content.bytes g.C.Content.outcomes b views h j v e at role through in
    (none, finds_nothing g.C.Content.bytes g.C.Content.outcomes b views h j v at none)
