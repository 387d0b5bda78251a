use Rattle.segment_code.proofs.StepPaying.{step_pays}
use Rattle.segment_code.proofs.decoder.SegmentDecoder.step.Goals as goal

pub returns-clause-pays : goal.returns-clause-pays
returns-clause-pays c = λ bytes outcome owes.
    step_pays c.next_piece.result c.next_piece.new.out bytes outcome c.args.self.now
    c.next_piece.new.self c.next_piece.ensures.step owes
