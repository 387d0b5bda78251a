-- Statement: what a call gives for bytes, into a memory (this project's own).
use Rattle.std.specs.Prelude.{ℕ, ◌≡◌, ◌*◌, ◌<◌, ◌≤◌, false, true, List, ◌++◌, length, take, drop, Some, None}
use Rattle.jpeg_marker.specs.Plans.{PlanFields}
use Rattle.box_format.specs.Checks.{IsRefusedBy, IsRefused}
use Rattle.box_format.specs.Parts.{BoxParts, BoxSeen, migrated}
use Rattle.box_format.specs.Single.{IsBoxOf, box_bytes}
use Rattle.box_format.specs.Versions.{IsRead, indexable, migratable, most_segments, ranged}
use Rattle.container_spec.specs.Limits.{most_of_a_container, most_of_a_file}
use Rattle.container_spec.specs.Meanings.{Verdict, Restored, PadSpelled, ChunkShort as ShortChunk, Faulty}
use Rattle.box_format.specs.Containers.{IsContainer}
use Rattle.container_spec.specs.ScansFiles.{FileIsRefused, HasSeveralScans, IsContainerOfFile, Header as FileHeader, Scan as FileScan}
use Rattle.container_spec.specs.Portions.{scans_meaning}
use Rattle.container_spec.specs.Chunks.{IsChunkOf, IsOneScanFile}
use Rattle.container_spec.specs.RangeMeanings.{RangeMeaning, is_bad_range, range_meaning}
use Rattle.range_read.specs.IndexEnds.{IndexEnds, IsIndexOf}
use Rattle.lepton_c.specs.declared.answer.Answer.{Answer}
use Rattle.lepton_c.specs.declared.answer.Answer.TheVariants.{Done, Counted, Header, Scan, Box, Fault, PadSpelling, ChunkShort, TooLong, NoChunk, ManyScans, RangeBad, BadCall, NoRoom, Larger, NoMemory}

-- these bytes are at the start of a memory, and the others are as they were
abbrev pub Puts : List ℕ → List ℕ → List ℕ → Type 0
Puts old new given = new ≡ given ++ drop (length given) old

-- ---- calls that make a container

-- what was made is in a memory, or it is longer than that
abbrev pub MadeIn : List ℕ → List ℕ → List ℕ → Answer → Type 0
MadeIn old new made (Done n) =
    (n ≡ length made) × (length made ≤ length old) × Puts old new made
MadeIn old new made (Larger n) = (n ≡ length made) × (length old < length made) × (new ≡ old)
MadeIn old new made other = ⊥

-- such bytes were made, and are in a memory or longer than that; or the call is refused so, and nothing is written
abbrev pub GivesMade : (List ℕ → Type 0) → (Answer → Type 0) → List ℕ → List ℕ → Answer → Type 0
GivesMade Makes Refuses old new (Done n) =
    (made : List ℕ) × Makes made × MadeIn old new made (Done n)
GivesMade Makes Refuses old new (Larger n) =
    (made : List ℕ) × Makes made × MadeIn old new made (Larger n)
GivesMade Makes Refuses old new other = Refuses other × (new ≡ old)

-- a number of segments that may be asked for
abbrev pub AreSome : ℕ → Type 0
AreSome segments = (1 ≤ segments) × (segments ≤ most_segments)

-- a file within the limit, and its container in at most this many segments
pub record IsEncoded (segments : ℕ) (file made : List ℕ) : Type 0 where
  pub some : AreSome segments
  pub short : length file ≤ most_of_a_file
  pub is : IsContainerOfFile segments made file

-- why a file isn't encoded: the first header or scan that is refused
abbrev pub EncodeRefuses : ℕ → List ℕ → Answer → Type 0
EncodeRefuses segments file (Header refusal) = FileIsRefused file (FileHeader refusal)
EncodeRefuses segments file (Scan refusal) = FileIsRefused file (FileScan refusal)
EncodeRefuses segments file TooLong = most_of_a_file < length file
EncodeRefuses segments file BadCall = ¬ AreSome segments
EncodeRefuses segments file NoMemory = Unit {0}
EncodeRefuses segments file other = ⊥

-- of a file: its container
abbrev pub EncodeGives : ℕ → List ℕ → List ℕ → List ℕ → Answer → Type 0
EncodeGives segments file = GivesMade (IsEncoded segments file) (EncodeRefuses segments file)

-- why a chunk isn't cut: the first header or scan that is refused, or else the file has several scans, or else there is
-- no such chunk
abbrev pub ChunkRefuses : ℕ → ℕ → ℕ → List ℕ → Answer → Type 0
ChunkRefuses index size segments file (Header refusal) = FileIsRefused file (FileHeader refusal)
ChunkRefuses index size segments file (Scan refusal) = FileIsRefused file (FileScan refusal)
ChunkRefuses index size segments file ManyScans = HasSeveralScans file
ChunkRefuses index size segments file NoChunk =
    IsOneScanFile file × (length file ≤ index * size)
ChunkRefuses index size segments file TooLong = most_of_a_file < length file
ChunkRefuses index size segments file BadCall = ¬ (AreSome segments × (1 ≤ size))
ChunkRefuses index size segments file NoMemory = Unit {0}
ChunkRefuses index size segments file other = ⊥

-- of a file: the container of its chunk with this number, of chunks of this size
abbrev pub ChunkGives : ℕ → ℕ → ℕ → List ℕ → List ℕ → List ℕ → Answer → Type 0
ChunkGives index size segments file =
    GivesMade (λ made. IsChunkOf segments size index made file)
    (ChunkRefuses index size segments file)

-- of a container of version 1 or 2: the same one in version 2
abbrev pub IsMigrated : List ℕ → List ℕ → Type 0
IsMigrated bytes made =
    (plan : PlanFields) × (b : BoxParts) × IsBoxOf plan b bytes × IsRead migratable b.version
    × (made ≡ box_bytes (migrated b))

abbrev pub MigrateRefuses : List ℕ → Answer → Type 0
MigrateRefuses bytes (Box refusal) = IsRefusedBy migratable bytes refusal
MigrateRefuses bytes TooLong = most_of_a_container < length bytes
MigrateRefuses bytes NoMemory = Unit {0}
MigrateRefuses bytes other = ⊥

abbrev pub MigrateGives : List ℕ → List ℕ → List ℕ → Answer → Type 0
MigrateGives bytes = GivesMade (IsMigrated bytes) (MigrateRefuses bytes)

-- of a container that stands for a file: the same one in version 5 with the places of its segments
abbrev pub IndexRefuses : List ℕ → Answer → Type 0
IndexRefuses bytes (Box refusal) = IsRefusedBy indexable bytes refusal
IndexRefuses bytes (Fault fault n) = IndexEnds bytes (Faulty fault) × (n ≡ 0)
IndexRefuses bytes (PadSpelling n) = IndexEnds bytes PadSpelled × (n ≡ 0)
IndexRefuses bytes TooLong = most_of_a_container < length bytes
IndexRefuses bytes NoMemory = Unit {0}
IndexRefuses bytes other = ⊥

abbrev pub IndexGives : List ℕ → List ℕ → List ℕ → Answer → Type 0
IndexGives bytes = GivesMade (λ made. IsIndexOf made bytes) (IndexRefuses bytes)

-- ---- calls that decode a container

-- all of these bytes are at the start of a memory: so many
abbrev pub PutsAll : List ℕ → List ℕ → List ℕ → ℕ → Type 0
PutsAll old new bytes n = (n ≡ length bytes) × Puts old new bytes

-- a memory is full of the first of these bytes, which are more
abbrev pub PutsFirst : List ℕ → List ℕ → List ℕ → ℕ → Type 0
PutsFirst old new bytes n =
    (n ≡ length old) × (length old < length bytes) × Puts old new (take n bytes)

-- bytes are a container that ends so, and this holds of what it stands for
abbrev pub StandsSo : List ℕ → Verdict → (List ℕ → Type 0) → Type 0
StandsSo bytes verdict Holds =
    (scans : List BoxSeen) × IsContainer scans bytes × ((scans_meaning scans).verdict ≡ verdict)
    × Holds (scans_meaning scans).bytes

-- of a container: what it stands for, as much as there is room for
abbrev pub DecodeGives : List ℕ → List ℕ → List ℕ → Answer → Type 0
DecodeGives bytes old new (Done n) = StandsSo bytes Restored (λ all. PutsAll old new all n)
DecodeGives bytes old new (PadSpelling n) =
    StandsSo bytes PadSpelled (λ all. PutsAll old new all n)
DecodeGives bytes old new (ChunkShort n) =
    StandsSo bytes ShortChunk (λ all. PutsAll old new all n)
DecodeGives bytes old new (Fault fault n) =
    StandsSo bytes (Faulty fault) (λ all. PutsAll old new all n)
DecodeGives bytes old new (NoRoom n) =
    (scans : List BoxSeen) × IsContainer scans bytes
    × PutsFirst old new (scans_meaning scans).bytes n
DecodeGives bytes old new (Box refusal) = IsRefused bytes refusal × (new ≡ old)
DecodeGives bytes old new TooLong = (most_of_a_container < length bytes) × (new ≡ old)
DecodeGives bytes old new NoMemory = new ≡ old
DecodeGives bytes old new other = ⊥

-- of a container that stands for a file or a chunk: how many bytes that has
abbrev pub LengthGives : List ℕ → Answer → Type 0
LengthGives bytes (Counted n) = StandsSo bytes Restored (λ all. n ≡ length all)
LengthGives bytes (PadSpelling n) = StandsSo bytes PadSpelled (λ all. n ≡ 0)
LengthGives bytes (ChunkShort n) = StandsSo bytes ShortChunk (λ all. n ≡ 0)
LengthGives bytes (Fault fault n) = StandsSo bytes (Faulty fault) (λ all. n ≡ 0)
LengthGives bytes (Box refusal) = IsRefused bytes refusal
LengthGives bytes TooLong = most_of_a_container < length bytes
LengthGives bytes NoMemory = Unit {0}
LengthGives bytes other = ⊥

-- bytes are a container whose ranges are read, of whose file the range is one or not, and this holds of the range
abbrev pub HasRange : ℕ → ℕ → List ℕ → (RangeMeaning → Type 0) → Type 0
HasRange from to bytes Holds =
    (plan : PlanFields) × (b : BoxParts) × IsBoxOf plan b bytes × IsRead ranged b.version
    × (is_bad_range b from to ≡ false) × Holds (range_meaning plan b from to)

-- of a container of version 5: the range of its file, as much as there is room for
abbrev pub RangeGives : ℕ → ℕ → List ℕ → List ℕ → List ℕ → Answer → Type 0
RangeGives from to bytes old new (Done n) =
    HasRange from to bytes (λ m. (m.fault ≡ None) × PutsAll old new m.bytes n)
RangeGives from to bytes old new (Fault fault n) =
    HasRange from to bytes (λ m. (m.fault ≡ Some fault) × PutsAll old new m.bytes n)
RangeGives from to bytes old new (NoRoom n) =
    HasRange from to bytes (λ m. PutsFirst old new m.bytes n)
RangeGives from to bytes old new RangeBad =
    ((plan : PlanFields) × (b : BoxParts) × IsBoxOf plan b bytes × IsRead ranged b.version
    × (is_bad_range b from to ≡ true)) × (new ≡ old)
RangeGives from to bytes old new (Box refusal) = IsRefusedBy ranged bytes refusal × (new ≡ old)
RangeGives from to bytes old new TooLong =
    (most_of_a_container < length bytes) × (new ≡ old)
RangeGives from to bytes old new NoMemory = new ≡ old
RangeGives from to bytes old new other = ⊥
