-- Steps: a whole marker segment at the head of bytes (ITU-T T.81, B.1.1.4).
use Rattle.std.specs.Prelude.{ℕ, ◌+◌, ◌≡◌, List, ◌++◌}
use Rattle.jpeg_marker.specs.MarkerSegments.{IsWhole, segment_text}

-- the bytes from a place on begin with a whole segment, whose length is at `at`
pub record Stands (bytes : List ℕ) (place : ℕ) (code at : ℕ) (body rest : List ℕ) : Type 0 where
  pub fill : ℕ
  pub length_at : at ≡ place + fill + 2
  pub whole : IsWhole (record { fill = fill; code = code; body = body })
  pub text : bytes ≡ segment_text (record { fill = fill; code = code; body = body }) ++ rest
