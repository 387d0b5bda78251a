-- Rows: worked segments and containers, by what they stand for (own).
use Rattle.std.specs.Prelude.{ℕ, ◌≡◌, Bool, true, false, List, [], ◌∷◌, ◌++◌, replicate, Option, Some, None}
use Rattle.huff_table.specs.declared.plan_codes.ComponentCodes.{ComponentCodes}
use Rattle.scan_spec.specs.BlockRows.{level}
use Rattle.scan_spec.specs.ScanRows.{grey}
use Rattle.handover.specs.Handovers.{HandoverFields, start}
use Rattle.handover.specs.PadSums.{no_pads}
use Rattle.handover.specs.declared.pads.PadSum.{PadSum}
use Rattle.handover.specs.declared.outcome.Outcome.TheVariants.{Good, Bad}
use Rattle.handover.specs.declared.outcome.StreamCause.{StreamCause}
use Rattle.handover.specs.declared.outcome.StreamCause.TheVariants.{BlockCount, DcRange, DiffRange, NoCode, Seam, StreamBad, PlaceBad}
use Rattle.scan_spec.specs.Pads.{Same, Listed}
use Rattle.cut_spec.specs.SegmentRows.{begun}
use Rattle.block_spec.specs.ReadingRows.{one_across, zeros_stream, dc_one_stream, dc_large_stream, dc_outside_stream, ones_stream}
use Rattle.box_format.specs.Parts.{BoxParts}
use Rattle.box_format.specs.Rows.{grey_header, grey_plan, ones_plan, image_end, least_parts, byteless_parts, chunk_parts, placed_parts}
use Rattle.container_spec.specs.Segments.{SegmentFields, Output, segment_output}
use Rattle.box_format.specs.declared.version.Version.TheVariants.{First, Second}
use Rattle.container_spec.specs.Meanings.{Meaning, Verdict, Restored, PadSpelled, ChunkShort, Faulty}
use Rattle.container_spec.specs.Portions.{meaning_of}
use Rattle.container_spec.specs.Indexed.{indexed, places_found}

-- a segment of one MCU of two with these tables, by its stream, what it starts from, and what the next one starts from
abbrev pub one_of_two : ComponentCodes → List ℕ → ℕ → HandoverFields → Option HandoverFields
    → SegmentFields
one_of_two codes stream from start next = record {
  number = 0;
  shape = grey codes 2 0;
  grid = one_across;
  pads = Same true;
  stream = stream;
  start = start;
  from = from;
  count = 1;
  next = next;
  kept = None;
}

-- the only segment of one MCU
abbrev pub alone : List ℕ → SegmentFields
alone stream = record (one_of_two level stream 0 start None) { shape = grey level 1 0 }

-- bytes, and a fault of segment 0
abbrev pub faulty : List ℕ → StreamCause → Output
faulty bytes cause = (bytes, Bad (record { segment = 0; cause = cause }))

-- a bit of 1 was padded
abbrev pub ones_padded : PadSum
ones_padded = record no_pads { one = true }

-- a block of zeros, and two that share a byte, of which the first has none
abbrev pub zeros_are_put : Type 0
zeros_are_put =
    (segment_output (alone zeros_stream) ≡ (0x3f ∷ [], Good ones_padded))
    × (segment_output (one_of_two level zeros_stream 0 start (Some (begun 0 2)))
    ≡ ([], Good no_pads))
    × (segment_output (one_of_two level zeros_stream 1 (begun 0 2) None)
    ≡ (0x0f ∷ [], Good ones_padded))

-- the first fault of each kind
abbrev pub faults_are_told : Type 0
faults_are_told =
    (segment_output (alone (0 ∷ 0 ∷ 1 ∷ [])) ≡ faulty (0x3f ∷ []) StreamBad)
    × (segment_output (alone (0xff ∷ 0 ∷ 0 ∷ [])) ≡ faulty [] StreamBad)
    × (segment_output (alone []) ≡ faulty [] StreamBad)
    × (segment_output (alone ones_stream) ≡ faulty [] BlockCount)
    × (segment_output (alone dc_outside_stream) ≡ faulty [] DcRange)
    × (segment_output (alone dc_large_stream) ≡ faulty [] DiffRange)
    × (segment_output (alone dc_one_stream) ≡ faulty [] NoCode)
    × (segment_output (one_of_two level zeros_stream 0 start (Some (begun 0 3)))
    ≡ faulty [] (Seam (begun 0 2) (begun 0 3)))

-- the only segment of one MCU, for whose bytes so many places are kept
abbrev pub alone_in : ℕ → List ℕ → SegmentFields
alone_in kept stream = record (alone stream) { kept = Some kept }

-- as many places as bytes are kept, or not; the stream is looked at first
abbrev pub places_are_counted : Type 0
places_are_counted =
    (segment_output (alone_in 1 zeros_stream) ≡ (0x3f ∷ [], Good ones_padded))
    × (segment_output (alone_in 0 zeros_stream) ≡ faulty (0x3f ∷ []) (PlaceBad 1 0))
    × (segment_output (alone_in 2 zeros_stream) ≡ faulty (0x3f ∷ []) (PlaceBad 1 2))
    × (segment_output (alone_in 2 (0 ∷ 0 ∷ 1 ∷ [])) ≡ faulty (0x3f ∷ []) StreamBad)
    × (segment_output (alone_in 2 ones_stream) ≡ faulty [] BlockCount)

-- containers of files, and one whose segments don't meet
abbrev pub containers_are_joined : Type 0
containers_are_joined =
    (meaning_of (grey_plan 1) least_parts
    ≡ record { bytes = grey_header 8 ++ 0x3f ∷ image_end; verdict = Restored })
    × (meaning_of (grey_plan 2) byteless_parts
    ≡ record { bytes = grey_header 16 ++ 0x0f ∷ image_end; verdict = Restored })
    × (meaning_of (grey_plan 2)
    (record byteless_parts { handovers = start ∷ begun 0 3 ∷ [] })
    ≡ record {
      bytes = grey_header 16;
      verdict = Faulty (record { segment = 0; cause = Seam (begun 0 2) (begun 0 3) });
    })

-- two segments of two MCUs of two bits each, which no pad bit follows, and a pad bit
abbrev pub ones_parts : Bool → BoxParts
ones_parts pad = record {
  version = First;
  chunk = None;
  places = None;
  pads = Same pad;
  header = [];
  trailer = image_end;
  handovers = start ∷ begun 0xf0 4 ∷ [];
  streams = replicate 2 (0 ∷ 0 ∷ 0 ∷ 0 ∷ []);
}

-- a pad bit that no bit needs is 1
abbrev pub pad_is_spelled : Type 0
pad_is_spelled =
    (meaning_of ones_plan (ones_parts true)
    ≡ record { bytes = 0xff ∷ 0x00 ∷ image_end; verdict = Restored })
    × (meaning_of ones_plan (ones_parts false)
    ≡ record { bytes = 0xff ∷ 0x00 ∷ image_end; verdict = PadSpelled })

-- two intervals of one MCU that pad different bits, or the same; their pad bits by a list
abbrev pub mixed : ℕ → Meaning
mixed list =
    meaning_of (record (grey_plan 2) { interval = 1 })
    (record byteless_parts {
      version = Second;
      pads = Listed (list ∷ []);
      handovers = start ∷ record start { restarts = 1 } ∷ [];
    })

-- what it stands for, the bytes of the second interval being these
abbrev pub with_last : ℕ → ℕ → Verdict → Meaning
with_last first last verdict = record {
  bytes = grey_header 16 ++ first ∷ 0xff ∷ 0xd0 ∷ last ∷ image_end;
  verdict = verdict;
}

-- a list has both bits
abbrev pub lists_are_spelled : Type 0
lists_are_spelled =
    (mixed 0x80 ≡ with_last 0x3f 0x00 Restored) × (mixed 0x40 ≡ with_last 0x00 0x3f Restored)
    × (mixed 0xc0 ≡ with_last 0x3f 0x3f PadSpelled)
    × (mixed 0x00 ≡ with_last 0x00 0x00 PadSpelled)

-- the last three bytes of a file as a chunk: the byte before them is the row's too. If the row has fewer bytes than the
-- chunk skips and needs, no byte of the trailer comes
abbrev pub chunks_are_slices : Type 0
chunks_are_slices =
    (meaning_of ones_plan chunk_parts
    ≡ record { bytes = 0x00 ∷ image_end; verdict = Restored })
    × (meaning_of ones_plan (record chunk_parts {
      chunk = Some (record { place = 72; length = 3; skip = 2; from = 3; to = 4 });
    })
    ≡ record { bytes = []; verdict = ChunkShort })
    × (meaning_of ones_plan (record chunk_parts {
      chunk = Some (record { place = 70; length = 4; skip = 0; from = 3; to = 4 });
    })
    ≡ record { bytes = 0x00 ∷ 0xff ∷ image_end; verdict = Restored })

-- two segments of which the first has no byte, with these places
abbrev pub placed : List ℕ → Meaning
placed places = meaning_of (grey_plan 2) (record placed_parts { places = Some places })

-- the file if each segment has as many bytes as places; else the first one that has not is the fault, after its bytes
abbrev pub places_are_looked_at : Type 0
places_are_looked_at =
    (placed (69 ∷ 69 ∷ 70 ∷ [])
    ≡ record { bytes = grey_header 16 ++ 0x0f ∷ image_end; verdict = Restored })
    × (placed (69 ∷ 70 ∷ 70 ∷ [])
    ≡ record {
      bytes = grey_header 16;
      verdict = Faulty (record { segment = 0; cause = PlaceBad 0 1 });
    })
    × (placed (69 ∷ 69 ∷ 71 ∷ [])
    ≡ record {
      bytes = grey_header 16 ++ 0x0f ∷ [];
      verdict = Faulty (record { segment = 1; cause = PlaceBad 1 2 });
    })

-- the places of two segments of which the first has no byte, and the container that keeps them: of one that keeps none,
-- and of ones that keep the right places and wrong ones
abbrev pub places_are_found : Type 0
places_are_found =
    (places_found (grey_plan 2) byteless_parts ≡ 69 ∷ 69 ∷ 70 ∷ [])
    × (indexed (grey_plan 2) byteless_parts ≡ placed_parts)
    × (indexed (grey_plan 2) placed_parts ≡ placed_parts)
    × (indexed (grey_plan 2) (record placed_parts { places = Some (69 ∷ 70 ∷ 70 ∷ []) })
    ≡ placed_parts)
