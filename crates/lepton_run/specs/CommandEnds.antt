-- Steps: how a command ends, by what it was given and what it did: with an answer, or because a source or sink failed,
-- memory ran out, or the arguments mean nothing (own).
use Rattle.std.specs.Prelude.{ℕ, ◌≡◌, List, Option}
use Rattle.std.specs.Io.KnownBytes.{Appends}
use Rattle.outside_core.specs.Faults.{Rose}
use Rattle.command_words.specs.Meaning.{Means}
use Rattle.command_words.specs.declared.command.Command.{Command}
use Rattle.lepton_run.specs.Answers.{Answer, Answers, AppendsPart, Took, Writes, bytes_of}
use Rattle.lepton_run.specs.Endings.{ending_of}
use Rattle.lepton_run.specs.declared.ending.Ending.{Ending}
use Rattle.lepton_run.specs.declared.ending.Ending.TheVariants.{Done, WordsRefused, ReadFailed, WriteFailed, NoMemory}

-- how `sample` may end: it reads nothing and refuses nothing
abbrev pub SampleEnds : Ending → Type 0
SampleEnds Done = Unit {0}
SampleEnds WriteFailed = Unit {0}
SampleEnds (NoMemory short) = Unit {0}
SampleEnds other = ⊥

module _ {Sink : Type 0} (held : Sink → Option (List ℕ)) (faults : Sink → ℕ)
    (full : Sink → Type 0) where
  -- an answer to these bytes was given: its bytes are appended and no write failed; if it writes none, the sink is as
  -- it was
  pub record Given (command : Command) (bytes : List ℕ) (answer : Answer) (old new : Sink)
      : Type 0 where
    pub answers : Answers command bytes answer
    pub appended : Appends (held old) (held new) (bytes_of answer)
    pub unfailed : faults new ≡ faults old
    pub kept : ¬ Writes answer → new ≡ old

  -- a write of it failed, after a proper prefix of its bytes
  pub record Cut (command : Command) (bytes : List ℕ) (answer : Answer) (old new : Sink)
      : Type 0 where
    pub answers : Answers command bytes answer
    pub writes : Writes answer
    pub rose : Rose faults full old new
    pub part : AppendsPart (held old) (held new) (bytes_of answer)

  -- how a command ends that has these bytes: as its answer says, unless a write failed or memory ran out
  abbrev pub CarriedOut : Command → List ℕ → Sink → Sink → Ending → Type 0
  CarriedOut command bytes old new WriteFailed =
      (answer : Answer) × Cut command bytes answer old new
  CarriedOut command bytes old new (NoMemory short) = new ≡ old
  CarriedOut command bytes old new ending =
      (answer : Answer) × Given command bytes answer old new × (ending ≡ ending_of answer)

  module _ {Source : Type 0} (left : Source → Option (List ℕ)) (failures : Source → ℕ)
      (lost : Source → Type 0) where
    -- how a command ends that reads a source: a read failed, or memory ran out, or it is carried out on the bytes read
    abbrev pub Transferred : Command → Source → Source → Sink → Sink → Ending → Type 0
    Transferred command source rest old new ReadFailed =
        Rose failures lost source rest × (new ≡ old)
    Transferred command source rest old new (NoMemory short) =
        (failures rest ≡ failures source) × (new ≡ old)
    Transferred command source rest old new ending =
        (bytes : List ℕ) × Took command (left source) (left rest) bytes
        × (failures rest ≡ failures source) × CarriedOut command bytes old new ending

    -- how arguments end: they mean no command, or memory ran out, or theirs is carried out
    abbrev pub Answered : List (List ℕ) → Source → Source → Sink → Sink → Ending → Type 0
    Answered words source rest old new WordsRefused =
        ((command : Command) → ¬ Means words command) × (rest ≡ source) × (new ≡ old)
    Answered words source rest old new (NoMemory short) =
        (failures rest ≡ failures source) × (new ≡ old)
    Answered words source rest old new ending =
        (command : Command) × Means words command
        × Transferred command source rest old new ending
