-- Statement: the fields of a scan of bytes that may be a container, before any check, and what a record has.
use Rattle.std.specs.Prelude.{ℕ, ◌+◌, not, ◌==◌, if◌then◌else◌, List, [], ◌∷◌, take, drop, Option}
use Rattle.byteorder.specs.Endian.{big_number}
use Rattle.handover.specs.Handovers.{HandoverFields}
use Rattle.handover.specs.HandoverBytes.{handover_in}
use Rattle.scan_spec.specs.Pads.{PadBits, Same, Listed}
use Rattle.box_format.specs.Parts.{BoxParts}
use Rattle.box_format.specs.declared.chunk.Chunk.{Chunk}
use Rattle.box_format.specs.declared.version.Version.{Version}

-- the version, the chunk, the places, the pad byte, the pad list, and the parts
pub record Raw : Type 0 where
  pub version : Version
  pub chunk : Option Chunk
  pub places : Option (List ℕ)
  pub pad : ℕ
  pub list : List ℕ
  pub handovers : List HandoverFields
  pub header : List ℕ
  pub trailer : List ℕ
  pub streams : List (List ℕ)

-- the handover fields in the record at a place
abbrev pub handover_from : List ℕ → ℕ → HandoverFields
handover_from bytes place = handover_in (take 14 (drop place bytes))

-- the length of the stream there
abbrev pub length_from : List ℕ → ℕ → ℕ
length_from bytes place = big_number 8 (drop (place + 14) bytes)

-- and the place of the segment's first byte, in a version that has places
abbrev pub place_from : List ℕ → ℕ → ℕ
place_from bytes place = big_number 8 (drop (place + 22) bytes)

-- bytes in parts of these lengths
abbrev pub parted : List ℕ → List ℕ → List (List ℕ)
parted [] bytes = []
parted (n ∷ lengths) bytes = take n bytes ∷ parted lengths (drop n bytes)

-- the pad bits of a pad byte and a list
abbrev pub pads_in : ℕ → List ℕ → PadBits
pads_in pad list = if pad == 2 then Listed list else Same (not (pad == 0))

-- the parts
abbrev pub parts_of : Raw → BoxParts
parts_of raw = record {
  version = raw.version;
  chunk = raw.chunk;
  places = raw.places;
  pads = pads_in raw.pad raw.list;
  header = raw.header;
  trailer = raw.trailer;
  handovers = raw.handovers;
  streams = raw.streams;
}
