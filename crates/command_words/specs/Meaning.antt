-- Statement: the command that arguments mean, in clap's terms (README.md, Use).
use Rattle.std.specs.Prelude.{◌≡◌, ◌≤◌, ◌<◌, ◌^◌, ℕ, List, [], Option, Some, Ok, codes}
use Rattle.std.specs.Str.Parse.{ParsesUnsigned}
use Rattle.std.specs.declared.num.ParseIntError.{ParseIntError}
use Rattle.clap.specs.Words.{Row, Text, one_of}
use Rattle.command_words.specs.LeptonApp.{faults, given}
use Rattle.command_words.specs.declared.command.Command.{Command}
use Rattle.command_words.specs.declared.command.Command.TheVariants.{Encode, Decode, Migrate, Chunk, Index, Range, Sample}

-- the text reads as this number of N bits: for 8, `text.parse::<u8>()`
abbrev pub ReadsAs : ℕ → Text → ℕ → Type 0
ReadsAs bits text number = ParsesUnsigned {E = ParseIntError} bits 10 text (Ok number)

-- the first value of an option reads as this number of N bits
pub record Reads (bits : ℕ) (rows : List Row) (option : Text) (number : ℕ) : Type 0 where
  pub text : Text
  pub first : one_of option rows ≡ Some text
  pub number_is : ReadsAs bits text number

-- the subcommand `name` was met, and its option reads as this number of a byte
pub record IsNumbered (met : Option (Text × List Row)) (name option : Text) (number : ℕ)
    : Type 0 where
  pub rows : List Row
  pub is : met ≡ Some (name, rows)
  pub reads : Reads 8 rows option number

-- `chunk` was met, and its options read as these numbers, the index and the size of 32 bits and the segments of 8
pub record IsChunked (met : Option (Text × List Row)) (index size segments : ℕ) : Type 0 where
  pub options : List Row
  pub is : met ≡ Some (codes "chunk", options)
  pub index_is : Reads 32 options (codes "index") index
  pub size_is : Reads 32 options (codes "size") size
  pub segments_is : Reads 8 options (codes "segments") segments

-- `range` was met, and its options read as these numbers, the places of 64 bits and the workers of 8
pub record IsRanged (met : Option (Text × List Row)) (from to workers : ℕ) : Type 0 where
  pub options : List Row
  pub is : met ≡ Some (codes "range", options)
  pub from_is : Reads 64 options (codes "from") from
  pub to_is : Reads 64 options (codes "to") to
  pub workers_is : Reads 8 options (codes "workers") workers

-- `sample` was met, and its options read as these numbers, the seed of 32 bits and the others of 16
pub record IsSampled (met : Option (Text × List Row)) (seed columns rows : ℕ) : Type 0 where
  pub options : List Row
  pub is : met ≡ Some (codes "sample", options)
  pub seed_is : Reads 32 options (codes "seed") seed
  pub columns_is : Reads 16 options (codes "columns") columns
  pub rows_is : Reads 16 options (codes "rows") rows

-- the subcommand that was met is the command's, with its numbers
abbrev pub Asks : Option (Text × List Row) → Command → Type 0
Asks met (Encode segments) = IsNumbered met (codes "encode") (codes "segments") segments
Asks met (Decode workers) = IsNumbered met (codes "decode") (codes "workers") workers
Asks met Migrate = (options : List Row) × (met ≡ Some (codes "migrate", options))
Asks met (Chunk index size segments) = IsChunked met index size segments
Asks met Index = (options : List Row) × (met ≡ Some (codes "index", options))
Asks met (Range from to workers) = IsRanged met from to workers
Asks met (Sample seed columns rows) = IsSampled met seed columns rows

-- clap takes the words, and they name the command's subcommand with its numbers
pub record Means (words : List Text) (command : Command) : Type 0 where
  pub taken : faults words ≡ []
  pub asks : Asks (given words) command

-- from 1 to 64 segments, from 0 to 16 workers; a chunk's number of 32 bits, a size from 1 to 67108864 and from 1 to 64
-- segments; places up to 1099511627775; a seed of 32 bits, from 1 to 256 columns and rows
abbrev pub IsInRange : Command → Type 0
IsInRange (Encode segments) = (1 ≤ segments) × (segments ≤ 64)
IsInRange (Decode workers) = workers ≤ 16
IsInRange Migrate = Unit {0}
IsInRange (Chunk index size segments) =
    (index < 2 ^ 32) × (1 ≤ size) × (size ≤ 67108864) × (1 ≤ segments) × (segments ≤ 64)
IsInRange Index = Unit {0}
IsInRange (Range from to workers) =
    (from ≤ 1099511627775) × (to ≤ 1099511627775) × (workers ≤ 16)
IsInRange (Sample seed columns rows) =
    (seed < 2 ^ 32) × (1 ≤ columns) × (columns ≤ 256) × (1 ≤ rows) × (rows ≤ 256)
