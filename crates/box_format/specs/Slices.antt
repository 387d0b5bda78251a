-- View: a scan's part of a container by its slices, wherever these lie (own).
use Rattle.std.specs.Prelude.{ℕ, ◌*◌, ◌≤◌, if◌then◌else◌, List, [], ◌∷◌, ◌++◌, length, map, sum, Option, Some, None}
use Rattle.std.specs.List.{range_with_len}
use Rattle.handover.specs.Handovers.{HandoverFields}
use Rattle.box_format.specs.Versions.{layout_of}
use Rattle.box_format.specs.Parts.{BoxParts}
use Rattle.box_format.specs.Raws.{handover_from, length_from, place_from, parted, pads_in}
use Rattle.box_format.specs.declared.chunk.Chunk.{Chunk}
use Rattle.box_format.specs.declared.version.Version.{Version}

-- where the record of segment i starts among those of its scan
abbrev pub place_among : Version → ℕ → ℕ
place_among version i = (layout_of version).room * i

-- what the segments of a scan start from
abbrev pub handovers_in : Version → ℕ → List ℕ → List HandoverFields
handovers_in version segments records =
    map (λ i. handover_from records (place_among version i)) (range_with_len 0 segments)

-- the lengths of their streams
abbrev pub lengths_in : Version → ℕ → List ℕ → List ℕ
lengths_in version segments records =
    map (λ i. length_from records (place_among version i)) (range_with_len 0 segments)

-- the places of their first bytes and of the scan's end, in a version that has places
abbrev pub places_with : Version → ℕ → List ℕ → ℕ → Option (List ℕ)
places_with version segments records end =
    if (layout_of version).placed
    then Some (map (λ i. place_from records (place_among version i)) (range_with_len 0 segments)
    ++ end ∷ [])
    else None

-- there are a record for each segment, and bytes for each stream
pub record HasSegments (version : Version) (segments : ℕ) (records streams : List ℕ) : Type 0 where
  pub each : place_among version segments ≤ length records
  pub all : sum (lengths_in version segments records) ≤ length streams

-- the parts of a scan by its slices: its version, its chunk, its pad byte and pad list, header, trailer, count of
-- segments, records, the place of the scan's end, and streams
abbrev pub scan_parts : Version → Option Chunk → ℕ → List ℕ → List ℕ → List ℕ → ℕ → List ℕ → ℕ
    → List ℕ → BoxParts
scan_parts version chunk pad list header trailer segments records end streams = record {
  version = version;
  chunk = chunk;
  places = places_with version segments records end;
  pads = pads_in pad list;
  header = header;
  trailer = trailer;
  handovers = handovers_in version segments records;
  streams = parted (lengths_in version segments records) streams;
}
