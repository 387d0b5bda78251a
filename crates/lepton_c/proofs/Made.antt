-- What was made, as a call gives it.
use Rattle.std.proofs.Common.{ℕ, List}
use Rattle.lepton_c.specs.Gives.{GivesMade, MadeIn}
use Rattle.lepton_c.specs.declared.answer.Answer.{Answer}
use Rattle.lepton_c.specs.declared.answer.Answer.TheVariants.{Done, Counted, Header, Scan, Box, Fault, PadSpelling, ChunkShort, TooLong, NoChunk, ManyScans, RangeBad, BadCall, NoRoom, Larger, NoMemory}

pub gives_made : (Makes : List ℕ → Type 0) (Refuses : Answer → Type 0) (old new made : List ℕ)
    (answer : Answer) → Makes made → MadeIn old new made answer
    → GivesMade Makes Refuses old new answer
gives_made Makes Refuses old new made (Done n) is there = (made, is, there)
gives_made Makes Refuses old new made (Larger n) is there = (made, is, there)
gives_made Makes Refuses old new made (Counted n) is there = absurd there
gives_made Makes Refuses old new made (Header refusal) is there = absurd there
gives_made Makes Refuses old new made (Scan refusal) is there = absurd there
gives_made Makes Refuses old new made (Box refusal) is there = absurd there
gives_made Makes Refuses old new made (Fault fault n) is there = absurd there
gives_made Makes Refuses old new made (PadSpelling n) is there = absurd there
gives_made Makes Refuses old new made (ChunkShort n) is there = absurd there
gives_made Makes Refuses old new made TooLong is there = absurd there
gives_made Makes Refuses old new made NoChunk is there = absurd there
gives_made Makes Refuses old new made ManyScans is there = absurd there
gives_made Makes Refuses old new made RangeBad is there = absurd there
gives_made Makes Refuses old new made BadCall is there = absurd there
gives_made Makes Refuses old new made (NoRoom n) is there = absurd there
gives_made Makes Refuses old new made NoMemory is there = absurd there
