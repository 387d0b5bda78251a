-- Statement: the places of a container's segments by what they stand for, and the container that keeps them
-- (docs/FORMAT.md, Version 5).
use Rattle.std.specs.Prelude.{ℕ, ◌+◌, List, [], ◌∷◌, length, map}
use Rattle.std.specs.List.{range_with_len}
use Rattle.jpeg_marker.specs.Plans.{PlanFields}
use Rattle.box_format.specs.Parts.{BoxParts, with_places}
use Rattle.container_spec.specs.Segments.{Output, segment_output}
use Rattle.container_spec.specs.Meanings.{segment_in}

-- the bytes and the outcome of each segment
abbrev pub outputs_of : PlanFields → BoxParts → List Output
outputs_of plan b =
    map (λ i. segment_output (segment_in plan b i)) (range_with_len 0 (length b.handovers))

-- the places of segments with these outputs, which come after so many bytes: of each one's first byte, and after them
-- of the end
abbrev pub places_after : ℕ → List Output → List ℕ
places_after place [] = place ∷ []
places_after place (output ∷ outputs) = place ∷ places_after (place + length output.0) outputs

-- those of a container's segments
abbrev pub places_found : PlanFields → BoxParts → List ℕ
places_found plan b = places_after (length b.header) (outputs_of plan b)

-- the same container in the fifth version, with them
abbrev pub indexed : PlanFields → BoxParts → BoxParts
indexed plan b = with_places b (places_found plan b)
