-- What a call with status 0 has put.
use Rattle.std.proofs.Common.{◌≡◌, ℕ, List, length, take, sym, ap, subst, ◌∙◌}
use Rattle.std.proofs.Math.Seq.{take-append_seam}
use Rattle.lepton_c.specs.Gives.{EncodeGives, EncodeRefuses, GivesMade, IndexGives, IndexRefuses, IsEncoded}
use Rattle.lepton_c.specs.Numbers.{numbers_of}
use Rattle.lepton_c.specs.declared.answer.Answer.{Answer}
use Rattle.lepton_c.specs.declared.answer.Answer.TheVariants.{Done, Counted, Header, Scan, Box, Fault, PadSpelling, ChunkShort, TooLong, NoChunk, ManyScans, RangeBad, BadCall, NoRoom, Larger, NoMemory}
use Rattle.range_read.specs.IndexEnds.{IsIndexOf}

made_there : (Makes : List ℕ → Type 0) (Refuses : Answer → Type 0) (old new : List ℕ)
    (answer : Answer) → ((n : ℕ) → Refuses (Counted n) → ⊥)
    → GivesMade Makes Refuses old new answer → (numbers_of answer).status ≡ 0
    → Makes (take (numbers_of answer).length new)
made_there Makes Refuses old new (Done n) never gives done =
    let there = gives.2 in
    let long : n ≡ length gives.0 = there.0 in
    subst Makes
    (sym (ap (λ (k : ℕ). take k new) long ∙ ap (take (length gives.0)) there.2
    ∙ take-append_seam gives.0 _)) gives.1
made_there Makes Refuses old new (Counted n) never gives done = absurd (never n gives.0)
made_there Makes Refuses old new (Larger n) never gives done = absurd cc
made_there Makes Refuses old new (Header refusal) never gives done = absurd cc
made_there Makes Refuses old new (Scan refusal) never gives done = absurd cc
made_there Makes Refuses old new (Box refusal) never gives done = absurd cc
made_there Makes Refuses old new (Fault fault n) never gives done = absurd cc
made_there Makes Refuses old new (PadSpelling n) never gives done = absurd cc
made_there Makes Refuses old new (ChunkShort n) never gives done = absurd cc
made_there Makes Refuses old new TooLong never gives done = absurd cc
made_there Makes Refuses old new NoChunk never gives done = absurd cc
made_there Makes Refuses old new ManyScans never gives done = absurd cc
made_there Makes Refuses old new RangeBad never gives done = absurd cc
made_there Makes Refuses old new BadCall never gives done = absurd cc
made_there Makes Refuses old new (NoRoom n) never gives done = absurd cc
made_there Makes Refuses old new NoMemory never gives done = absurd cc

-- the container of a file
pub encoded : (segments : ℕ) (file old new : List ℕ) (answer : Answer)
    → EncodeGives segments file old new answer → (numbers_of answer).status ≡ 0
    → IsEncoded segments file (take (numbers_of answer).length new)
encoded segments file old new answer =
    made_there (IsEncoded segments file) (EncodeRefuses segments file) old new answer (λ n no. no)

-- the container with places
pub placed : (bytes old new : List ℕ) (answer : Answer) → IndexGives bytes old new answer
    → (numbers_of answer).status ≡ 0 → IsIndexOf (take (numbers_of answer).length new) bytes
placed bytes old new answer =
    made_there (λ made. IsIndexOf made bytes) (IndexRefuses bytes) old new answer (λ n no. no)
