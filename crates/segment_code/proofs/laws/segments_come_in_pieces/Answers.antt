use Rattle.segment_code.proofs.JoinedPieces.{piece_is_prefix, next_piece_is_prefix, piece_has_an_mcu}
use Rattle.segment_code.proofs.laws.segments_come_in_pieces.Goals as goal

pub returns : goal.returns
returns c =
    record { prefix = piece_is_prefix; next = next_piece_is_prefix; fewer = piece_has_an_mcu }
