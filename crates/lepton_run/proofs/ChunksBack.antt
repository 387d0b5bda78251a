-- Chunks are decoded alone.
use Rattle.std.proofs.Common.{◌≡◌, ℕ, ◌*◌, ◌<◌, ◌≤◌, inl, inr, List, length, take, refl, subst}
use Rattle.std.specs.Prelude.{flat_map}
use Rattle.std.specs.List.{AllByRecursion, range_with_len}
use Rattle.bit_list.specs.Bits.{IsByte}
use Rattle.box_format.specs.Parts.{BoxParts}
use Rattle.box_format.specs.Single.{IsBoxOf}
use Rattle.box_format.specs.Versions.{layout_of}
use Rattle.box_format.specs.declared.version.Version.TheVariants.{Third}
use Rattle.byte_window.specs.Slices.{chunk_from, chunk_to}
use Rattle.container_spec.specs.Meanings.{Restored}
use Rattle.container_spec.specs.Portions.{StandsFor}
use Rattle.container_spec.specs.Chunks.{IsChunkOf, chunk_of, parts_of_chunk}
use Rattle.container_spec.proofs.ChunkBoxes.{box_is}
use Rattle.container_spec.proofs.ChunkSizes.{chunk_is_short}
use Rattle.container_spec.proofs.JoinedChunks.{chunks_are_restored}
use Rattle.container_spec.proofs.RestoredChunks.{chunk_is_restored}
use Rattle.command_words.specs.declared.command.Command.TheVariants.{Encode, Decode, Chunk}
use Rattle.lepton_run.specs.Answers.{Answers, Made, limit_of}
use Rattle.lepton_run.proofs.BothWays.{restored_by, same_meaning}
use Rattle.lepton_run.proofs.ScansOfBytes.{box_are}

-- the parts of a chunk's container
abbrev chunk_parts : (most size i : ℕ) (made file : List ℕ) → IsChunkOf most size i made file
    → BoxParts
chunk_parts most size i made file is =
    parts_of_chunk is.plan is.mcus is.pads (take is.plan.header_length file) is.is.scan is.trailer
    (chunk_from size i) (chunk_to (length file) size i) most

chunk_of_parts : (most size i : ℕ) (made file : List ℕ) → 0 < most → most ≤ (layout_of Third).most
    → (is : IsChunkOf most size i made file)
    → IsBoxOf is.plan (chunk_parts most size i made file is) made
chunk_of_parts most size i made file some few is =
    record { box = box_is most size i made file some is few; one = refl; text = is.spelled }

-- the bytes of a chunk's container are bytes
chunk_are : (most size i : ℕ) (made file : List ℕ) → 0 < most → most ≤ (layout_of Third).most
    → IsChunkOf most size i made file → AllByRecursion IsByte made
chunk_are most size i made file some few is =
    box_are is.plan (chunk_parts most size i made file is) made
    (chunk_of_parts most size i made file some few is)

-- of the container of a chunk of a file that encode takes, decode makes that chunk
pub chunk_back : (most size i workers : ℕ) (made file : List ℕ) → 0 < most
    → most ≤ (layout_of Third).most → length file ≤ limit_of (Encode most)
    → IsChunkOf most size i made file → Answers (Decode workers) made (Made (chunk_of file size i))
chunk_back most size i workers made file some few short is = inr (record {
  short = chunk_is_short most size i made file some few is short;
  are = chunk_are most size i made file some few is;
  makes = (
    record { bytes = chunk_of file size i; verdict = Restored },
    chunk_is_restored most size i made file some few is,
    refl,
  );
})

-- what `chunk` makes is such a container
is_chunk : (index size segments : ℕ) (file made : List ℕ)
    → Answers (Chunk index size segments) file (Made made)
    → IsChunkOf segments size index made file × (length file ≤ limit_of (Encode segments))
is_chunk index size segments file made (inl long) = absurd (let e = long.1 in cc)
is_chunk index size segments file made (inr is) = (is.makes, is.short)

pub chunk_undone : (index size segments workers : ℕ) (file made : List ℕ) → 0 < segments
    → segments ≤ (layout_of Third).most → Answers (Chunk index size segments) file (Made made)
    → Answers (Decode workers) made (Made (chunk_of file size index))
chunk_undone index size segments workers file made some few answers =
    let is = is_chunk index size segments file made answers in
    chunk_back segments size index workers made file some few is.1 is.0

-- what a decode makes of a container is what that stands for
pub is_meant : (workers : ℕ) (made bytes : List ℕ) → Answers (Decode workers) made (Made bytes)
    → StandsFor made (record { bytes = bytes; verdict = Restored })
is_meant workers made bytes (inl long) = absurd (let e = long.1 in cc)
is_meant workers made bytes (inr is) =
    let m = is.makes in
    let so = restored_by m.0.bytes bytes m.0.verdict m.2 in
    subst (StandsFor made) (same_meaning m.0 bytes so.0 so.1) m.1

pub chunks_joined : (count size segments workers : ℕ) (file : List ℕ) (made decoded : ℕ → List ℕ)
    → 0 < segments → segments ≤ (layout_of Third).most → length file ≤ count * size
    → ((i : ℕ) → i < count → Answers (Chunk i size segments) file (Made (made i)))
    → ((i : ℕ) → i < count → Answers (Decode workers) (made i) (Made (decoded i)))
    → flat_map decoded (range_with_len 0 count) ≡ file
chunks_joined count size segments workers file made decoded some few long cut back =
    chunks_are_restored segments size count file made decoded some few long
    (λ i within. (is_chunk i size segments file (made i) (cut i within)).0)
    (λ i within. is_meant workers (made i) (decoded i) (back i within))
