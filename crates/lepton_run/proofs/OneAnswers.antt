-- Bytes have one answer.
use Rattle.std.proofs.Common.{◌≡◌, ℕ, ◌*◌, ◌≤◌, ◌⊎◌, inl, inr, List, [], ◌∷◌, length, refl, sym, ap, ap₂, ◌∙◌, arith, replicate}
use Rattle.std.specs.List.{AllByRecursion}
use Rattle.bit_list.specs.Bits.{IsByte}
use Rattle.jpeg_marker.specs.Plans.{PlanFields}
use Rattle.scan_spec.proofs.FilesOnce.{one_is_all}
use Rattle.cut_spec.specs.Cuts.{cut_of}
use Rattle.box_format.specs.Parts.{BoxParts}
use Rattle.box_format.specs.declared.refusal.BoxRefusal.{BoxRefusal}
use Rattle.box_format.specs.declared.version.Version.{Version}
use Rattle.box_format.specs.declared.version.Version.TheVariants.{Second}
use Rattle.box_format.proofs.Singles.{one_box, box_or_refused}
use Rattle.box_format.proofs.Spelling.{one_refusal}
use Rattle.container_spec.specs.Meanings.{Meaning}
use Rattle.container_spec.specs.ScansFiles.{FileRefusal, FileIsRefused, HasSeveralScans, IsContainerOfFile, Header as FileHeader, Scan as FileScan, share_of, version_for}
use Rattle.container_spec.proofs.BoxesOnce.{stands_for_one}
use Rattle.container_spec.proofs.FilesRefused.{one_file_refusal}
use Rattle.container_spec.proofs.OneContainers.{accepted_is_not_refused, contained_is_not_refused, one_container, one_container_of_file, several_is_not_one}
use Rattle.container_spec.specs.Chunks.{IsChunkOf, IsOneScanFile}
use Rattle.container_spec.proofs.ChunkedFiles.{chunked_is_not_refused, chunked_is_one}
use Rattle.container_spec.proofs.OneChunks.{one_chunk}
use Rattle.command_words.specs.declared.command.Command.{Command}
use Rattle.command_words.specs.declared.command.Command.TheVariants.{Encode, Decode, Migrate, Chunk, Index, Range, Sample}
use Rattle.sample_jpeg.specs.SampleFile.{sample_file}
use Rattle.lepton_run.specs.Summaries.{IsSummary, sample_segments, summary_of}
use Rattle.lepton_run.specs.Answers.{Answer, Answers, BoxMakes, Early, Late, Made, Makes, answer_by}
use Rattle.lepton_run.specs.declared.refusal.Refusal.{Refusal}
use Rattle.lepton_run.specs.declared.refusal.Refusal.TheVariants.{Header, Scan, Box, Fault, PadSpelling, ChunkShort, ManyScans, NoChunk, RangeBad, TooLong}

-- why a file is refused, as the top call says it
abbrev pub refusal_of : FileRefusal → Refusal
refusal_of (FileHeader refusal) = Header refusal
refusal_of (FileScan refusal) = Scan refusal

-- a file is refused
abbrev pub GivesRefusal : List ℕ → Answer → Type 0
GivesRefusal bytes a = (r : FileRefusal) × (a ≡ Early (refusal_of r)) × FileIsRefused bytes r

one_refused : (bytes : List ℕ) (a b : Answer) → AllByRecursion IsByte bytes → GivesRefusal bytes a
    → GivesRefusal bytes b → a ≡ b
one_refused bytes a b all p q =
    p.1 ∙ ap (λ (r : FileRefusal). Early (refusal_of r)) (one_file_refusal bytes p.0 q.0 all p.2 q.2)
    ∙ sym q.1

-- encode makes a container, or a file is refused
abbrev pub Encoded : ℕ → List ℕ → Answer → Type 0
Encoded n bytes a =
    ((made : List ℕ) × (a ≡ Made made) × IsContainerOfFile n made bytes) ⊎ GivesRefusal bytes a

pub encoded_so : (n : ℕ) (bytes : List ℕ) (a : Answer) → Makes (Encode n) bytes a → Encoded n bytes a
encoded_so n bytes (Made made) p = inl (made, refl, p)
encoded_so n bytes (Early (Header r)) p = inr (FileHeader r, refl, p)
encoded_so n bytes (Early (Scan r)) p = inr (FileScan r, refl, p)
encoded_so n bytes (Early (Box r)) p = absurd p
encoded_so n bytes (Early (Fault r)) p = absurd p
encoded_so n bytes (Early PadSpelling) p = absurd p
encoded_so n bytes (Early ChunkShort) p = absurd p
encoded_so n bytes (Early TooLong) p = absurd p
encoded_so n bytes (Early NoChunk) p = absurd p
encoded_so n bytes (Early ManyScans) p = absurd p
encoded_so n bytes (Early RangeBad) p = absurd p
encoded_so n bytes (Late written r) p = absurd p

-- a file with a container isn't refused
encoded_is_not_refused : (n : ℕ) (made bytes : List ℕ) (r : FileRefusal) → IsContainerOfFile n made bytes
    → FileIsRefused bytes r → ⊥
encoded_is_not_refused n made bytes r (k, is) =
    contained_is_not_refused (version_for k) (replicate k (share_of n k)) made bytes r is

-- so what it makes is one thing
one_encoded : (n : ℕ) (bytes : List ℕ) (a b : Answer) → AllByRecursion IsByte bytes
    → Encoded n bytes a → Encoded n bytes b → a ≡ b
one_encoded n bytes a b all (inl p) (inl q) =
    p.1 ∙ ap Made (one_container_of_file n p.0 q.0 bytes p.2 q.2) ∙ sym q.1
one_encoded n bytes a b all (inl p) (inr q) =
    absurd (encoded_is_not_refused n p.0 bytes q.0 p.2 q.2)
one_encoded n bytes a b all (inr p) (inl q) =
    absurd (encoded_is_not_refused n q.0 bytes p.0 q.2 p.2)
one_encoded n bytes a b all (inr p) (inr q) = one_refused bytes a b all p q

-- what is made of containers is one thing
one_boxed : (versions : List Version) (answer_to : PlanFields → BoxParts → Answer) (bytes : List ℕ)
    (a b : Answer) → BoxMakes versions answer_to bytes a → BoxMakes versions answer_to bytes b
    → a ≡ b
one_boxed versions f bytes a b (inl p) (inl q) =
    p.2 ∙ ap (λ (r : BoxRefusal). Early (Box r)) (one_refusal versions bytes p.0 q.0 p.1 q.1)
    ∙ sym q.2
one_boxed versions f bytes a b (inl p) (inr q) =
    absurd (box_or_refused versions bytes q.0 q.1 p.0 q.3 q.2 p.1)
one_boxed versions f bytes a b (inr p) (inl q) =
    absurd (box_or_refused versions bytes p.0 p.1 q.0 p.3 p.2 q.1)
one_boxed versions f bytes a b (inr p) (inr q) =
    let same = one_box p.0 q.0 p.1 q.1 bytes p.2 q.2 in
    p.4 ∙ ap₂ f same.0 same.1 ∙ sym q.4

-- `chunk` makes a chunk's container, or a file is refused, or it has several scans, or it ends before the chunk
data Chunked (index size segments : ℕ) (bytes : List ℕ) (a : Answer) : Type 0 where
  Cut : (made : List ℕ) → a ≡ Made made → IsChunkOf segments size index made bytes
      → Chunked index size segments bytes a
  Not : GivesRefusal bytes a → Chunked index size segments bytes a
  Many : a ≡ Early ManyScans → HasSeveralScans bytes → Chunked index size segments bytes a
  Past : a ≡ Early NoChunk → IsOneScanFile bytes → length bytes ≤ index * size
      → Chunked index size segments bytes a

chunked_so : (i s n : ℕ) (bytes : List ℕ) (a : Answer) → Makes (Chunk i s n) bytes a
    → Chunked i s n bytes a
chunked_so i s n bytes (Made made) p = Cut made refl p
chunked_so i s n bytes (Early (Header r)) p = Not (FileHeader r, refl, p)
chunked_so i s n bytes (Early (Scan r)) p = Not (FileScan r, refl, p)
chunked_so i s n bytes (Early (Box r)) p = absurd p
chunked_so i s n bytes (Early (Fault r)) p = absurd p
chunked_so i s n bytes (Early PadSpelling) p = absurd p
chunked_so i s n bytes (Early ChunkShort) p = absurd p
chunked_so i s n bytes (Early TooLong) p = absurd p
chunked_so i s n bytes (Early NoChunk) p = Past refl p.0 p.1
chunked_so i s n bytes (Early ManyScans) p = Many refl p
chunked_so i s n bytes (Early RangeBad) p = absurd p
chunked_so i s n bytes (Late written r) p = absurd p

-- a file of one scan isn't refused, and hasn't several
one_not_refused : (bytes : List ℕ) (r : FileRefusal) → AllByRecursion IsByte bytes → IsOneScanFile bytes
    → FileIsRefused bytes r → ⊥
one_not_refused bytes r all (plan, mcus, pads, trailer, is) refused =
    accepted_is_not_refused bytes trailer
    (record { plan = plan; mcus = mcus; pads = pads } ∷ []) r all
    (one_is_all bytes trailer plan mcus pads all is) refused

one_not_several : (bytes : List ℕ) → AllByRecursion IsByte bytes → IsOneScanFile bytes
    → HasSeveralScans bytes → ⊥
one_not_several bytes all (plan, mcus, pads, trailer, is) several =
    several_is_not_one bytes trailer plan mcus pads all several is

several_not_refused : (bytes : List ℕ) (r : FileRefusal) → AllByRecursion IsByte bytes
    → HasSeveralScans bytes → FileIsRefused bytes r → ⊥
several_not_refused bytes r all (scans, trailer, is, many) refused =
    accepted_is_not_refused bytes trailer scans r all is refused

-- what it makes is one thing
one_chunked : (i s n : ℕ) (bytes : List ℕ) (a b : Answer) → AllByRecursion IsByte bytes
    → Chunked i s n bytes a → Chunked i s n bytes b → a ≡ b
one_chunked i s n bytes a b all (Cut x e p) (Cut y f q) =
    e ∙ ap Made (one_chunk n s i x y bytes p q) ∙ sym f
one_chunked i s n bytes a b all (Cut x e p) (Not q) =
    absurd (chunked_is_not_refused n s i x bytes q.0 p q.2)
one_chunked i s n bytes a b all (Cut x e p) (Many f q) = absurd (chunked_is_one n s i x bytes p q)
one_chunked i s n bytes a b all (Cut x e p) (Past f q past) =
    absurd (let there = p.there in omega (arith, there, past))
one_chunked i s n bytes a b all (Not p) (Cut y f q) =
    absurd (chunked_is_not_refused n s i y bytes p.0 q p.2)
one_chunked i s n bytes a b all (Not p) (Not q) = one_refused bytes a b all p q
one_chunked i s n bytes a b all (Not p) (Many f q) =
    absurd (several_not_refused bytes p.0 all q p.2)
one_chunked i s n bytes a b all (Not p) (Past f q past) =
    absurd (one_not_refused bytes p.0 all q p.2)
one_chunked i s n bytes a b all (Many e p) (Cut y f q) = absurd (chunked_is_one n s i y bytes q p)
one_chunked i s n bytes a b all (Many e p) (Not q) =
    absurd (several_not_refused bytes q.0 all p q.2)
one_chunked i s n bytes a b all (Many e p) (Many f q) = e ∙ sym f
one_chunked i s n bytes a b all (Many e p) (Past f q past) =
    absurd (one_not_several bytes all q p)
one_chunked i s n bytes a b all (Past e p past) (Cut y f q) =
    absurd (let there = q.there in omega (arith, there, past))
one_chunked i s n bytes a b all (Past e p past) (Not q) =
    absurd (one_not_refused bytes q.0 all p q.2)
one_chunked i s n bytes a b all (Past e p past) (Many f q) =
    absurd (one_not_several bytes all p q)
one_chunked i s n bytes a b all (Past e p past) (Past f q later) = e ∙ sym f

-- what `sample` says is one thing
one_summary : (seed columns rows : ℕ) (a b : List ℕ) → IsSummary seed columns rows a
    → IsSummary seed columns rows b → a ≡ b
one_summary seed columns rows a b p q =
    let file = sample_file seed columns rows in
    let same = one_container Second (sample_segments ∷ []) p.0 q.0 file p.1 q.1 in
    p.2
    ∙ ap (λ (made : List ℕ). summary_of (length file) (length made)
    (cut_of columns rows sample_segments).segments (length file)) same
    ∙ sym q.2

one_sampled : (seed columns rows : ℕ) (bytes : List ℕ) (a b : Answer)
    → Makes (Sample seed columns rows) bytes a → Makes (Sample seed columns rows) bytes b → a ≡ b
one_sampled s c r bytes (Made a) (Made b) p q = ap Made (one_summary s c r a b p q)
one_sampled s c r bytes (Made a) (Early refusal) p q = absurd q
one_sampled s c r bytes (Made a) (Late written refusal) p q = absurd q
one_sampled s c r bytes (Early refusal) b p q = absurd p
one_sampled s c r bytes (Late written refusal) b p q = absurd p

one_made : (command : Command) (bytes : List ℕ) (a b : Answer) → AllByRecursion IsByte bytes
    → Makes command bytes a → Makes command bytes b → a ≡ b
one_made (Encode segments) bytes a b all p q =
    one_encoded segments bytes a b all (encoded_so segments bytes a p)
    (encoded_so segments bytes b q)
one_made (Decode workers) bytes a b all p q =
    p.2 ∙ ap (λ (m : Meaning). answer_by m.bytes m.verdict)
    (stands_for_one bytes p.0 q.0 p.1 q.1) ∙ sym q.2
one_made Migrate bytes a b all p q = one_boxed _ _ bytes a b p q
one_made Index bytes a b all p q = one_boxed _ _ bytes a b p q
one_made (Range from to workers) bytes a b all p q = one_boxed _ _ bytes a b p q
one_made (Chunk index size segments) bytes a b all p q =
    one_chunked index size segments bytes a b all (chunked_so index size segments bytes a p)
    (chunked_so index size segments bytes b q)
one_made (Sample seed columns rows) bytes a b all p q =
    one_sampled seed columns rows bytes a b p q

pub one_answer : (command : Command) (bytes : List ℕ) (a b : Answer)
    → Answers command bytes a → Answers command bytes b → a ≡ b
one_answer command bytes a b (inl p) (inl q) = p.1 ∙ sym q.1
one_answer command bytes a b (inl p) (inr q) = absurd (let h = q.short in omega (arith, p.0))
one_answer command bytes a b (inr p) (inl q) = absurd (let h = p.short in omega (arith, q.0))
one_answer command bytes a b (inr p) (inr q) =
    one_made command bytes a b p.are p.makes q.makes
