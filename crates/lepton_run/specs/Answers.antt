-- Statement: the one answer to a command and the bytes that it reads: the bytes that it writes and its line
-- (README.md, Use).
use Rattle.std.specs.Prelude.{ℕ, ◌≡◌, ◌⊎◌, ◌+◌, ◌*◌, ◌<◌, ◌≤◌, Bool, true, false, if◌then◌else◌, List, [], ◌∷◌, length, take, Option, Some}
use Rattle.std.specs.List.{AllByRecursion}
use Rattle.std.specs.Io.KnownBytes.{Appends, Consumes, IsAtEnd}
use Rattle.bit_list.specs.Bits.{IsByte}
use Rattle.jpeg_marker.specs.Plans.{PlanFields}
use Rattle.box_format.specs.Checks.{IsRefusedBy}
use Rattle.box_format.specs.Parts.{BoxParts, migrated}
use Rattle.box_format.specs.Single.{IsBoxOf, box_bytes}
use Rattle.box_format.specs.Versions.{IsRead, indexable, migratable, ranged}
use Rattle.box_format.specs.declared.refusal.BoxRefusal.{BoxRefusal}
use Rattle.box_format.specs.declared.version.Version.{Version}
use Rattle.container_spec.specs.Indexed.{indexed}
use Rattle.container_spec.specs.Limits.{most_of_a_container, most_of_a_file}
use Rattle.container_spec.specs.Meanings.{Meaning, Verdict, Restored, PadSpelled, ChunkShort as ShortChunk, Faulty, NoBox}
use Rattle.container_spec.specs.ScansFiles.{FileIsRefused, HasSeveralScans, IsContainerOfFile, Header as FileHeader, Scan as FileScan}
use Rattle.container_spec.specs.declared.kind.Kind.TheVariants as kinds
use Rattle.container_spec.specs.Portions.{StandsFor, meaning_of, portion_meaning}
use Rattle.container_spec.specs.Chunks.{IsChunkOf, IsOneScanFile}
use Rattle.container_spec.specs.RangeMeanings.{is_bad_range, placed_file, range_portion}
use Rattle.command_words.specs.declared.command.Command.{Command}
use Rattle.command_words.specs.declared.command.Command.TheVariants.{Encode, Decode, Migrate, Chunk, Index, Range, Sample}
use Rattle.lepton_run.specs.Lines.{refusal_line}
use Rattle.lepton_run.specs.Summaries.{IsSummary}
use Rattle.lepton_run.specs.declared.input.Input.{Input}
use Rattle.lepton_run.specs.declared.input.Input.TheVariants.{File, Container, Nothing}
use Rattle.lepton_run.specs.declared.refusal.Refusal.{Refusal}
use Rattle.lepton_run.specs.declared.refusal.Refusal.TheVariants.{Header, Scan, Box, Fault, PadSpelling, ChunkShort, ManyScans, NoChunk, RangeBad, TooLong}

-- the answer to a command, if nothing fails and memory suffices: these bytes are made; or the bytes given are refused,
-- before any byte is written or after some
pub data Answer : Type 0 where
  Made : List ℕ → Answer
  Early : Refusal → Answer
  Late : List ℕ → Refusal → Answer

-- the bytes that are written
abbrev pub bytes_of : Answer → List ℕ
bytes_of (Made bytes) = bytes
bytes_of (Early refusal) = []
bytes_of (Late bytes refusal) = bytes

-- whether the sink is called at all
abbrev pub Writes : Answer → Type 0
Writes (Made bytes) = Unit {0}
Writes (Early refusal) = ⊥
Writes (Late bytes refusal) = Unit {0}

-- the line on stderr: none, or that of the refusal
abbrev pub line_of : Answer → List ℕ
line_of (Made bytes) = []
line_of (Early refusal) = refusal_line refusal
line_of (Late bytes refusal) = refusal_line refusal

-- what a command takes: a file or a container, or nothing
abbrev pub input_of : Command → Input
input_of (Encode segments) = File
input_of (Decode workers) = Container
input_of Migrate = Container
input_of (Chunk index size segments) = File
input_of Index = Container
input_of (Range from to workers) = Container
input_of (Sample seed columns rows) = Nothing

-- and how many bytes of it at most
abbrev pub most_of : Input → ℕ
most_of File = most_of_a_file
most_of Container = most_of_a_container
most_of Nothing = 0

-- the most bytes that a command takes
abbrev pub limit_of : Command → ℕ
limit_of command = most_of (input_of command)

-- the answer that a container's meaning is
abbrev pub answer_by : List ℕ → Verdict → Answer
answer_by bytes Restored = Made bytes
answer_by bytes PadSpelled = Late bytes PadSpelling
answer_by bytes ShortChunk = Late bytes ChunkShort
answer_by bytes (Faulty fault) = Late bytes (Fault fault)
answer_by bytes (NoBox refusal) = Early (Box refusal)

-- what encode makes of a file: its container in at most N segments, but at least one a scan; or the first header or
-- scan that is refused
abbrev pub EncodeMakes : ℕ → List ℕ → Answer → Type 0
EncodeMakes segments bytes (Made made) = IsContainerOfFile segments made bytes
EncodeMakes segments bytes (Early (Header refusal)) = FileIsRefused bytes (FileHeader refusal)
EncodeMakes segments bytes (Early (Scan refusal)) = FileIsRefused bytes (FileScan refusal)
EncodeMakes segments bytes other = ⊥

-- what decode makes of bytes: what they stand for as a container, whatever the number of workers
abbrev pub DecodeMakes : List ℕ → Answer → Type 0
DecodeMakes bytes answer =
    (meaning : Meaning) × StandsFor bytes meaning
    × (answer ≡ answer_by meaning.bytes meaning.verdict)

-- what is made of bytes by who reads containers of these versions: the refusal of the first check that fails, or the
-- answer to the container
abbrev pub BoxMakes : List Version → (PlanFields → BoxParts → Answer) → List ℕ → Answer → Type 0
BoxMakes versions answer_to bytes answer =
    ((refusal : BoxRefusal) × IsRefusedBy versions bytes refusal × (answer ≡ Early (Box refusal)))
    ⊎ ((plan : PlanFields) × (b : BoxParts) × IsBoxOf plan b bytes × IsRead versions b.version
    × (answer ≡ answer_to plan b))

-- what migrate makes of a container: the same one in version 2, whatever its streams stand for
abbrev pub MigrateMakes : List ℕ → Answer → Type 0
MigrateMakes = BoxMakes migratable (λ plan b. Made (box_bytes (migrated b)))

-- what `chunk` makes of a file: the container of its chunk with this number, of chunks of this size; or the first
-- header or scan that is refused, or else the file has several scans, or else there is no such chunk
abbrev pub ChunkMakes : ℕ → ℕ → ℕ → List ℕ → Answer → Type 0
ChunkMakes index size segments bytes (Made made) = IsChunkOf segments size index made bytes
ChunkMakes index size segments bytes (Early (Header refusal)) =
    FileIsRefused bytes (FileHeader refusal)
ChunkMakes index size segments bytes (Early (Scan refusal)) =
    FileIsRefused bytes (FileScan refusal)
ChunkMakes index size segments bytes (Early ManyScans) = HasSeveralScans bytes
ChunkMakes index size segments bytes (Early NoChunk) =
    IsOneScanFile bytes × (length bytes ≤ index * size)
ChunkMakes index size segments bytes other = ⊥

-- the same answer, but its refusal comes before any byte is written
abbrev pub early : Answer → Answer
early (Late bytes refusal) = Early refusal
early other = other

-- what `index` makes of a container: the same one in version 5 with the places of its segments, if it stands for a
-- file; else it refuses what decode refuses, before any byte is written
abbrev pub IndexMakes : List ℕ → Answer → Type 0
IndexMakes =
    BoxMakes indexable (λ plan b. early (answer_by (box_bytes (indexed plan b))
    (meaning_of plan b).verdict))

-- what `range` makes of a container: what the range's portion stands for, whatever the number of workers, if it is one
-- of the file
abbrev pub read_answer : ℕ → ℕ → PlanFields → BoxParts → Answer
read_answer from to plan b =
    let portion = range_portion (placed_file plan b) from to in
    let m = portion_meaning kinds.Range (record { plan = plan; parts = b } ∷ []) portion in
    if is_bad_range b from to then Early RangeBad else answer_by m.bytes m.verdict

abbrev pub RangeMakes : ℕ → ℕ → List ℕ → Answer → Type 0
RangeMakes from to = BoxMakes ranged (read_answer from to)

-- what `sample` makes, of no bytes: the summary of a file made from the seed
abbrev pub SampleMakes : ℕ → ℕ → ℕ → Answer → Type 0
SampleMakes seed columns rows (Made made) = IsSummary seed columns rows made
SampleMakes seed columns rows other = ⊥

-- what a command makes of bytes
abbrev pub Makes : Command → List ℕ → Answer → Type 0
Makes (Encode segments) bytes answer = EncodeMakes segments bytes answer
Makes (Decode workers) bytes answer = DecodeMakes bytes answer
Makes Migrate bytes answer = MigrateMakes bytes answer
Makes (Chunk index size segments) bytes answer = ChunkMakes index size segments bytes answer
Makes Index bytes answer = IndexMakes bytes answer
Makes (Range from to workers) bytes answer = RangeMakes from to bytes answer
Makes (Sample seed columns rows) bytes answer = SampleMakes seed columns rows answer

-- bytes within the limit, and what is made of them
pub record AnswersWithin (command : Command) (bytes : List ℕ) (answer : Answer) : Type 0 where
  pub short : length bytes ≤ limit_of command
  pub are : AllByRecursion IsByte bytes
  pub makes : Makes command bytes answer

-- the answer to bytes: too many are refused whatever they are
abbrev pub Answers : Command → List ℕ → Answer → Type 0
Answers command bytes answer =
    ((limit_of command < length bytes) × (answer ≡ Early TooLong))
    ⊎ AnswersWithin command bytes answer

-- whether bytes are taken at all
abbrev pub is_taken : Input → Bool
is_taken Nothing = false
is_taken other = true

-- whether a command reads its source
abbrev pub reads : Command → Bool
reads command = is_taken (input_of command)

-- a source gave these bytes: all that it had, or the limit and one more
abbrev pub GaveUpTo : ℕ → Option (List ℕ) → Option (List ℕ) → List ℕ → Type 0
GaveUpTo limit old new bytes = Consumes old new bytes × (IsAtEnd new ⊎ (length bytes ≡ limit + 1))

-- bytes that were taken of a source; nothing is no byte
abbrev pub TookAs : Input → Option (List ℕ) → Option (List ℕ) → List ℕ → Type 0
TookAs Nothing old new bytes = (new ≡ old) × (bytes ≡ [])
TookAs other old new bytes = GaveUpTo (most_of other) old new bytes

-- the bytes that a command read from a source
abbrev pub Took : Command → Option (List ℕ) → Option (List ℕ) → List ℕ → Type 0
Took command old new bytes = TookAs (input_of command) old new bytes

-- all bytes of a source that has these left; nothing is no byte
abbrev pub IsAllOf : Input → Option (List ℕ) → List ℕ → Type 0
IsAllOf Nothing left bytes = bytes ≡ []
IsAllOf other left bytes = left ≡ Some bytes

-- the bytes that a command answers to, of a source that has these left
abbrev pub IsInput : Command → Option (List ℕ) → List ℕ → Type 0
IsInput command left bytes = IsAllOf (input_of command) left bytes

-- bytes that a command may get of a source with these left
abbrev pub MayTake : Command → Option (List ℕ) → List ℕ → Type 0
MayTake command left bytes = (rest : Option (List ℕ)) × Took command left rest bytes

-- a sink takes the answer to these bytes, whichever it is
abbrev pub TakesAnswers : {Sink : Type 0} → (Sink → List ℕ → Type 0) → Command → List ℕ → Sink → Type 0
TakesAnswers takes command bytes sink =
    (answer : Answer) → Answers command bytes answer → takes sink (bytes_of answer)

-- a proper prefix of these bytes was appended
abbrev pub AppendsPart : Option (List ℕ) → Option (List ℕ) → List ℕ → Type 0
AppendsPart old new bytes = (n : ℕ) × (n < length bytes) × Appends old new (take n bytes)

-- a source gave at most N bytes, from its first one on
abbrev pub TakenWithin : ℕ → Option (List ℕ) → Option (List ℕ) → Type 0
TakenWithin most old new = (taken : List ℕ) × (length taken ≤ most) × Consumes old new taken
