-- Rows: worked ranges of containers (own).
use Rattle.std.specs.Prelude.{ℕ, ◌≡◌, true, false, List, [], ◌∷◌, ◌++◌, Option, Some, None}
use Rattle.jpeg_marker.specs.Plans.{PlanFields}
use Rattle.handover.specs.Handovers.{start}
use Rattle.handover.specs.declared.outcome.StreamCause.TheVariants.{PlaceBad}
use Rattle.handover.specs.declared.outcome.StreamFault.{StreamFault}
use Rattle.box_format.specs.Rows.{byteless_parts, grey_header, grey_plan, image_end}
use Rattle.box_format.specs.Parts.{BoxParts, file_end}
use Rattle.box_format.specs.declared.version.Version.TheVariants.{Fifth}
use Rattle.container_spec.specs.RangeMeanings.{RangeMeaning, is_bad_range, range_meaning}

-- two intervals of one MCU, each in a segment of its own, of which the first ends with a restart marker
abbrev pub seam_plan : PlanFields
seam_plan = record (grey_plan 2) { interval = 1 }

-- with these places after a header of 69 bytes
abbrev pub seam_parts : List ℕ → BoxParts
seam_parts places = record byteless_parts {
  version = Fifth;
  places = Some places;
  handovers = start ∷ record start { restarts = 1 } ∷ [];
}

-- a range, with the places that the segments have
abbrev pub seam_range : ℕ → ℕ → RangeMeaning
seam_range from to = range_meaning seam_plan (seam_parts (69 ∷ 72 ∷ 73 ∷ [])) from to

-- and with a second place that is none
abbrev pub misplaced_range : ℕ → ℕ → RangeMeaning
misplaced_range from to = range_meaning seam_plan (seam_parts (69 ∷ 71 ∷ 73 ∷ [])) from to

abbrev pub given : List ℕ → Option StreamFault → ℕ → RangeMeaning
given bytes fault begun = record { bytes = bytes; fault = fault; begun = begun }

-- within a segment, over the seam, in the header and in the trailer, of no byte, and past the end
abbrev pub ranges_on_the_seam : Type 0
ranges_on_the_seam =
    (seam_range 70 72 ≡ given (0xff ∷ 0xd0 ∷ []) None 1)
    × (seam_range 71 73 ≡ given (0xd0 ∷ 0x3f ∷ []) None 2)
    × (seam_range 0 69 ≡ given (grey_header 16) None 0)
    × (seam_range 72 72 ≡ given [] None 0)
    × (seam_range 72 75 ≡ given (0x3f ∷ image_end) None 1)
    × (seam_range 0 75 ≡ given (grey_header 16 ++ 0x3f ∷ 0xff ∷ 0xd0 ∷ 0x3f ∷ image_end) None 2)
    × (file_end (seam_parts []) (69 ∷ 72 ∷ 73 ∷ []) ≡ 75)
    × (is_bad_range (seam_parts (69 ∷ 72 ∷ 73 ∷ [])) 75 75 ≡ false)
    × (is_bad_range (seam_parts (69 ∷ 72 ∷ 73 ∷ [])) 73 76 ≡ true)
    × (is_bad_range (seam_parts (69 ∷ 72 ∷ 73 ∷ [])) 72 71 ≡ true)

-- a segment that is begun ends badly if it has another number of bytes than places, also where the range is full
-- before; a bad one that has no place in the range isn't begun
abbrev pub misplaced_ranges : Type 0
misplaced_ranges =
    (misplaced_range 70 72
    ≡ given (0xff ∷ 0xd0 ∷ []) (Some (record { segment = 0; cause = PlaceBad 3 2 })) 2)
    × (misplaced_range 71 72
    ≡ given (0x3f ∷ []) (Some (record { segment = 1; cause = PlaceBad 1 2 })) 1)
    × (misplaced_range 73 75 ≡ given image_end None 0)
