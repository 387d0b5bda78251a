-- Statement: the frame of a header (ITU-T T.81, B.2.2).
use Rattle.std.specs.Prelude.{ℕ, ◌+◌, ◌*◌, ◌/◌, ◌%◌, ◌≤◌, Bool, not, List, [], ◌∷◌, length, drop, map, sum_by, get_or, ◌==◌, ◌&&◌, ◌||◌, nat_lt, nat_le, Option, Some, None, if◌then◌else◌, IsTrue}
use Rattle.std.specs.Option.{option_or}
use Rattle.std.specs.List.{list_all}
use Rattle.jpeg_marker.specs.declared.refusal.HeaderRefusal.{HeaderRefusal}
use Rattle.jpeg_marker.specs.declared.refusal.HeaderRefusal.TheVariants.{LengthBad, FrameTwice, PrecisionBad, SizeZero, ComponentsBad}
use Rattle.jpeg_marker.specs.declared.parameters.FrameComponent.{FrameComponent}
use Rattle.jpeg_marker.specs.MarkerSegments.{Segment, number_at}
use Rattle.jpeg_marker.specs.HuffmanTables.{distinct}

-- lines, samples in a line, and the components in their order
pub record FrameFields : Type 0 where
  pub height : ℕ
  pub width : ℕ
  pub parts : List FrameComponent

-- what is kept after the last part (own)
abbrev pub no_part : FrameComponent
no_part = record { id = 0; h = 0; v = 0 }

-- three bytes for a component: its identifier, its sampling factors, and a selector that isn't looked at
abbrev pub parts_of : List ℕ → List FrameComponent
parts_of [] = []
parts_of (id ∷ []) = []
parts_of (id ∷ sampling ∷ []) = []
parts_of (id ∷ sampling ∷ selector ∷ bytes) =
    record { id = id; h = sampling / 16; v = sampling % 16 } ∷ parts_of bytes

-- the precision, the lines, the samples in a line, how many components there are, and each of them
abbrev pub frame_at : List ℕ → FrameFields
frame_at body = record {
  height = number_at (drop 1 body);
  width = number_at (drop 3 body);
  parts = parts_of (drop 6 body);
}

-- the frame that a segment gives, if it is one of a frame
abbrev pub frames_in : Segment → List FrameFields
frames_in s = if s.code == 0xc0 then frame_at s.body ∷ [] else []

-- sampling factors from 1 to 4 (B.2.2)
abbrev pub is_sampled : FrameComponent → Bool
is_sampled p = nat_le 1 p.h && nat_le p.h 4 && nat_le 1 p.v && nat_le p.v 4

-- blocks of a component in an MCU (A.2.3)
abbrev pub area : FrameComponent → ℕ
area p = p.h * p.v

-- at most ten blocks in an MCU, where there are several components (B.2.3)
abbrev pub fit_an_mcu : List FrameComponent → Bool
fit_an_mcu parts = length parts == 1 || nat_le (sum_by area parts) 10

-- identifiers that differ, sampling factors from 1 to 4, and an MCU that isn't too large (B.2.2)
abbrev pub are_components : List FrameComponent → Bool
are_components parts =
    distinct (map (λ p. p.id) parts) && list_all is_sampled parts && fit_an_mcu parts

-- The first check that a frame's numbers fail, with the segment's length at a place (B.2.2): a length that
-- fits the number of components, eight bits a sample, lines, samples in them, and one to four components.
abbrev pub numbers_fault : ℕ → List ℕ → Option HeaderRefusal
numbers_fault at body =
    if nat_lt (length body) 6 || not (length body == 6 + 3 * get_or body 5 0)
    then Some (LengthBad at)
    else if not (get_or body 0 0 == 8) then Some PrecisionBad
    else if number_at (drop 1 body) == 0 || number_at (drop 3 body) == 0 then Some SizeZero
    else if nat_lt (get_or body 5 0) 1 || nat_lt 4 (get_or body 5 0) then Some ComponentsBad
    else None

-- whether a frame with these components is refused for them
abbrev pub components_fault : List FrameComponent → Option HeaderRefusal
components_fault parts = if are_components parts then None else Some ComponentsBad

-- the first check that a frame fails after the one before it, if any
abbrev pub frame_fault : Option FrameFields → ℕ → List ℕ → Option HeaderRefusal
frame_fault (Some frame) at body = Some FrameTwice
frame_fault None at body =
    option_or (numbers_fault at body) (components_fault (parts_of (drop 6 body)))

-- what holds of a frame that passes
pub record IsFrame (f : FrameFields) : Type 0 where
  pub some : 1 ≤ length f.parts
  pub few : length f.parts ≤ 4
  pub components : IsTrue (are_components f.parts)
  pub high : 1 ≤ f.height
  pub wide : 1 ≤ f.width
