-- Rows: worked pieces of a segment (own).
use Rattle.std.specs.Prelude.{◌≡◌, [], ◌∷◌}
use Rattle.bit_list.specs.Pieces.{piece_room}
use Rattle.block_spec.specs.ReadingRows.{zeros_stream}
use Rattle.handover.specs.declared.outcome.Outcome.TheVariants.{Good}
use Rattle.handover.specs.declared.outcome.StreamCause.TheVariants.{StreamBad}
use Rattle.container_spec.specs.Segments.{first_progress}
use Rattle.container_spec.specs.MeaningRows.{alone, faulty, ones_padded}
use Rattle.segment_code.specs.Pieces.{SomeOf, AllOf, piece, next_piece}

-- a piece with all there is, one without room for another MCU, and a stream without a start
abbrev pub pieces_are_made : Type 0
pieces_are_made =
    let s = alone zeros_stream in
    (next_piece 1 s (first_progress s) ≡ AllOf (0x3f ∷ [], Good ones_padded))
    × (piece 1 s (first_progress s) piece_room ≡ SomeOf [] 1 (first_progress s))
    × (next_piece 1 (alone []) (first_progress (alone [])) ≡ AllOf (faulty [] StreamBad))
