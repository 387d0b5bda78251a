-- What is known of the segments between two of them (own).
use Rattle.std.specs.Prelude.{ℕ, ◌≡◌, List, ◌++◌}
use Rattle.jpeg_marker.specs.MarkerSegments.{Segment}
use Rattle.jpeg_marker.specs.Walks.{Walk, walk_text, walk_place}
use Rattle.jpeg_marker.specs.GoodSegments.{ArePassed, known_after}
use Rattle.jpeg_marker.specs.declared.definitions.Definitions.{Definitions}

-- the walk is at a place, after good segments without a scan, and knows what they say
pub record Walked (w : Walk) (bytes rest : List ℕ) (place : ℕ) (found : Definitions) : Type 0
  where
    pub segments : List Segment
    pub passed : ArePassed w segments
    pub text : bytes ≡ walk_text w segments ++ rest
    pub here : place ≡ walk_place w segments
    pub knows : found ≡ known_after w.known segments
