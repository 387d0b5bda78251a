-- Rows: a worked container of two scans, by what it and its segments stand for (own).
use Rattle.std.specs.Prelude.{ℕ, ◌≡◌, List, [], ◌∷◌, ◌++◌, map}
use Rattle.scan_spec.specs.Pads.{Listed}
use Rattle.handover.specs.PadSums.{no_pads}
use Rattle.handover.specs.declared.outcome.Outcome.TheVariants.{Good, Bad}
use Rattle.handover.specs.declared.outcome.StreamCause.TheVariants.{StreamBad}
use Rattle.handover.specs.declared.outcome.StreamFault.{StreamFault}
use Rattle.box_format.specs.Parts.{BoxParts, BoxSeen}
use Rattle.box_format.specs.Rows.{image_end}
use Rattle.container_spec.specs.Meanings.{Restored, PadSpelled, Faulty}
use Rattle.container_spec.specs.MeaningRows.{ones_padded}
use Rattle.box_format.specs.ScansRows.{header_one, header_two, plain_parts, plan_one, plan_two, two}
use Rattle.container_spec.specs.ScansFiles.{share_of}
use Rattle.container_spec.specs.ScansMeanings.{output_at, scan_of}
use Rattle.container_spec.specs.Portions.{played, scans_meaning, whole}

-- its scans
abbrev pub first : BoxParts
first = plain_parts header_one []

abbrev pub second : BoxParts
second = plain_parts header_two image_end

-- the scans of a container, of the same plans
abbrev pub both : BoxParts → BoxParts → List BoxSeen
both a b = record { plan = plan_one; parts = a } ∷ record { plan = plan_two; parts = b } ∷ []

-- without a stream
abbrev pub mute : BoxParts → BoxParts
mute b = record b { streams = [] ∷ [] }

-- with the one pad bit in a list
abbrev pub listed : BoxParts → BoxParts
listed b = record b { pads = Listed (0x80 ∷ []) }

-- that a segment's stream is bad
abbrev pub bad_stream : ℕ → StreamFault
bad_stream segment = record { segment = segment; cause = StreamBad }

-- the bytes up to the second header's end, and all bytes
abbrev pub begun : List ℕ
begun = header_one ++ 0x3f ∷ header_two

abbrev pub file : List ℕ
file = begun ++ 0x3f ∷ image_end

-- it stands for the file; segments are numbered on, and a header comes before its scan; a scan whose pad bits are
-- spelled otherwise ends nothing
abbrev pub two_stand : Type 0
two_stand =
    (scans_meaning (both first second) ≡ record { bytes = file; verdict = Restored })
    × (scans_meaning (both (mute first) second)
    ≡ record { bytes = header_one; verdict = Faulty (bad_stream 0) })
    × (scans_meaning (both first (mute second))
    ≡ record { bytes = begun; verdict = Faulty (bad_stream 1) })
    × (scans_meaning (both (listed first) second)
    ≡ record { bytes = file; verdict = PadSpelled })
    × (scans_meaning (both first (listed second))
    ≡ record { bytes = file; verdict = PadSpelled })
    × (scans_meaning (both (listed first) (mute second))
    ≡ record { bytes = begun; verdict = Faulty (bad_stream 1) })

-- its segments: the second one begins with the second header, also if its stream is bad
abbrev pub two_segments : Type 0
two_segments =
    (map (scan_of 0 two) (0 ∷ 1 ∷ []) ≡ 0 ∷ 1 ∷ [])
    × (output_at two 0 ≡ (0x3f ∷ [], Good ones_padded))
    × (output_at two 1 ≡ (header_two ++ 0x3f ∷ [], Good ones_padded))
    × (output_at (both first (mute second)) 1 ≡ (header_two, Bad (bad_stream 1)))
    × ((played two (whole two)).bytes ≡ 0x3f ∷ header_two ++ 0x3f ∷ [])
    × ((played two (whole two)).padded ≡ ones_padded ∷ ones_padded ∷ no_pads ∷ no_pads ∷ [])

-- how many segments scans are given
abbrev pub shares : Type 0
shares =
    (map (share_of 8) (1 ∷ 2 ∷ 3 ∷ 4 ∷ []) ≡ 8 ∷ 4 ∷ 2 ∷ 2 ∷ [])
    × (map (share_of 1) (1 ∷ 2 ∷ 3 ∷ 4 ∷ []) ≡ 1 ∷ 1 ∷ 1 ∷ 1 ∷ [])
