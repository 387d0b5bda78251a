-- What the containers of all chunks of a file stand for, one after another, is the file.
use Rattle.std.proofs.Common.{◌≡◌, ℕ, zero, suc, ◌+◌, ◌<◌, ◌≤◌, List, ◌++◌, refl, ap, ap₂, ◌∙◌, arith}
use Rattle.std.specs.Prelude.{flat_map}
use Rattle.std.specs.List.{range_with_len}
use Rattle.byte_window.specs.PartedLaws.{chunks_of}
use Rattle.byte_window.proofs.PartedFacts.{chunks_are_the_file}
use Rattle.container_spec.specs.Meanings.{Meaning, Restored}
use Rattle.container_spec.specs.Portions.{StandsFor}
use Rattle.container_spec.proofs.BoxesOnce.{stands_for_one}
use Rattle.container_spec.specs.ChunkLaws.{ChunksAreRestored}
use Rattle.container_spec.specs.Chunks.{chunk_of}
use Rattle.container_spec.proofs.RestoredChunks.{chunk_is_restored}

-- bytes stand for one file or chunk
one_restored : (bytes a b : List ℕ) → StandsFor bytes (record { bytes = a; verdict = Restored })
    → StandsFor bytes (record { bytes = b; verdict = Restored }) → a ≡ b
one_restored bytes a b x y =
    ap (λ (m : Meaning). m.bytes) (stands_for_one bytes _ _ x y)

-- chunks from number i on
chunks_joined : (file : List ℕ) (size : ℕ) (decoded : ℕ → List ℕ) (count i : ℕ)
    → ((j : ℕ) → i ≤ j → j < i + count → decoded j ≡ chunk_of file size j)
    → flat_map decoded (range_with_len i count) ≡ flat_map (λ chunk. chunk) (chunks_of file size i count)
chunks_joined file size decoded zero i each = refl
chunks_joined file size decoded (suc count) i each =
    ap₂ (λ (x y : List ℕ). x ++ y) (each i (omega arith) (omega arith))
    (chunks_joined file size decoded count (i + 1)
    (λ j after within. each j (omega (arith, after)) (omega (arith, within))))

pub chunks_are_restored : ChunksAreRestored
chunks_are_restored most size count file made decoded some allowed long chunks meanings =
    chunks_joined file size decoded count 0
    (λ j after within.
    let under : j < count = omega (arith, within) in
    one_restored (made j) (decoded j) (chunk_of file size j) (meanings j under)
    (chunk_is_restored most size j (made j) file some allowed (chunks j under)))
    ∙ chunks_are_the_file file size count long
