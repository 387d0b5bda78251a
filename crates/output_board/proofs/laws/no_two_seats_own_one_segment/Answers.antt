use Rattle.output_board.proofs.ViewLaws.{one_seat}
use Rattle.output_board.proofs.laws.no_two_seats_own_one_segment.Goals as goal

pub returns : goal.returns
returns g c = λ b views j k u v i h at_j at_k own_u own_v.
    one_seat g.C.Content.bytes g.C.Content.outcomes b views h j k u v i at_j at_k own_u own_v
