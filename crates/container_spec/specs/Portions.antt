-- Statement: a portion of a container's file, and what it stands for: a whole file, a chunk or a range; and what bytes
-- stand for (docs/FORMAT.md, What a container stands for).
use Rattle.std.specs.Prelude.{ℕ, ◌+◌, ◌≡◌, ◌⊎◌, nat_lt, if◌then◌else◌, List, [], ◌∷◌, ◌++◌, length, Option, Some, None}
use Rattle.byte_window.specs.declared.window.Window.{Window}
use Rattle.byte_window.specs.Windows.{everything, window}
use Rattle.jpeg_marker.specs.Plans.{PlanFields}
use Rattle.handover.specs.declared.outcome.StreamFault.{StreamFault}
use Rattle.box_format.specs.Parts.{BoxParts, BoxSeen, header_part, rows_most}
use Rattle.box_format.specs.Containers.{IsContainer, all_parts, segment_count, trailer_of}
use Rattle.box_format.specs.Checks.{IsRefused}
use Rattle.box_format.specs.declared.chunk.Chunk.{Chunk}
use Rattle.box_format.specs.declared.refusal.BoxRefusal.{BoxRefusal}
use Rattle.container_spec.specs.declared.kind.Kind.{Kind}
use Rattle.container_spec.specs.declared.kind.Kind.TheVariants.{File, Chunk as OfChunk, Range}
use Rattle.container_spec.specs.Meanings.{Meaning, Restored, PadSpelled, ChunkShort, Faulty, NoBox}
use Rattle.container_spec.specs.ScansJoined.{ScansJoined, all_spelled, first_header, scanned_from, scans_joined}

-- a part of the header, a stretch of segments and the window on their bytes, and a part of the trailer
pub record Portion : Type 0 where
  pub before : List ℕ
  pub first : ℕ
  pub count : ℕ
  pub within : Window
  pub after : List ℕ

-- its segments, one after another
abbrev pub played : List BoxSeen → Portion → ScansJoined
played scans p = scans_joined (scanned_from scans p.first p.count)

-- the bytes before the part of the trailer
abbrev pub begun : Portion → ScansJoined → List ℕ
begun p all = p.before ++ window p.within all.bytes

-- all of it
abbrev pub ended : Portion → ScansJoined → List ℕ
ended p all = begun p all ++ p.after

-- how it ends without a fault
abbrev pub faultless_end : Kind → List BoxSeen → Portion → ScansJoined → Meaning
faultless_end File scans p all =
    let verdict = if all_spelled 0 scans all.padded then Restored else PadSpelled in
    record { bytes = ended p all; verdict = verdict }
faultless_end (OfChunk c) scans p all =
    if nat_lt (length all.bytes) (c.skip + rows_most c (first_header scans) p.after)
    then record { bytes = begun p all; verdict = ChunkShort }
    else record { bytes = ended p all; verdict = Restored }
faultless_end Range scans p all = record { bytes = ended p all; verdict = Restored }

-- by the first fault, if there is one: nothing of the trailer then
abbrev pub ending_by : Kind → List BoxSeen → Portion → ScansJoined → Option StreamFault → Meaning
ending_by kind scans p all (Some fault) = record { bytes = begun p all; verdict = Faulty fault }
ending_by kind scans p all None = faultless_end kind scans p all

-- what it stands for
abbrev pub portion_meaning : Kind → List BoxSeen → Portion → Meaning
portion_meaning kind scans p =
    let all = played scans p in ending_by kind scans p all all.fault

-- the whole file
abbrev pub whole : List BoxSeen → Portion
whole scans = record {
  before = first_header scans;
  first = 0;
  count = segment_count scans;
  within = everything;
  after = trailer_of (all_parts scans);
}

-- the chunk that a container of one scan has
abbrev pub chunk_portion : Chunk → List BoxSeen → Portion
chunk_portion c scans =
    let all = whole scans in
    let within : Window =
    record { skip = c.skip; most = Some (rows_most c all.before all.after) } in
    record all { before = header_part c all.before; within = within }

-- the chunk of a container that has one, which has one scan
abbrev pub only_chunk : List BoxSeen → Option Chunk
only_chunk (s ∷ []) = s.parts.chunk
only_chunk other = None

-- the whole file without a chunk, or that chunk
abbrev pub meaning_with : Option Chunk → List BoxSeen → Meaning
meaning_with None scans = portion_meaning File scans (whole scans)
meaning_with (Some c) scans = portion_meaning (OfChunk c) scans (chunk_portion c scans)

-- what the scans of a container stand for
unfoldable pub scans_meaning : List BoxSeen → Meaning
scans_meaning scans = meaning_with (only_chunk scans) scans

-- what one scan stands for
abbrev pub meaning_of : PlanFields → BoxParts → Meaning
meaning_of plan b = scans_meaning (record { plan = plan; parts = b } ∷ [])

-- what bytes stand for: a refusal, or what their scans stand for
abbrev pub StandsFor : List ℕ → Meaning → Type 0
StandsFor bytes meaning =
    ((refusal : BoxRefusal) × IsRefused bytes refusal
    × (meaning ≡ record { bytes = []; verdict = NoBox refusal }))
    ⊎ ((scans : List BoxSeen) × IsContainer scans bytes × (meaning ≡ scans_meaning scans))
