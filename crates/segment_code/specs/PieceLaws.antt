-- Law: the pieces of a segment, joined, are the segment (own).
use Rattle.std.specs.Prelude.{ℕ, ◌≡◌, ◌<◌, List}
use Rattle.container_spec.specs.Segments.{SegmentFields, Progress, mcus_output, rest_output}
use Rattle.segment_code.specs.Pieces.{SomeOf, piece, next_piece, output_after}

-- however a segment is cut into pieces, they are its bytes
abbrev pub PieceIsPrefix : Type 0
PieceIsPrefix =
    (left used : ℕ) (s : SegmentFields) (at : Progress)
    → mcus_output left s at ≡ output_after s (piece left s at used)

-- the next piece and what is left after it are what was left before
abbrev pub NextPieceIsPrefix : Type 0
NextPieceIsPrefix =
    (left : ℕ) (s : SegmentFields) (at : Progress)
    → rest_output left s at ≡ output_after s (next_piece left s at)

-- and fewer MCUs are left after it
abbrev pub PieceHasAnMcu : Type 0
PieceHasAnMcu =
    (left more : ℕ) (s : SegmentFields) (at next : Progress) (bytes : List ℕ)
    → next_piece left s at ≡ SomeOf bytes more next → more < left
