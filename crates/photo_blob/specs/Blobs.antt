-- Statement: the blob by which a file is kept (docs/STORE.md, Blobs).
use Rattle.std.specs.Prelude.{ℕ, ◌≡◌, ◌⊎◌, List, ◌∷◌}
use Rattle.container_spec.specs.ScansFiles.{FileRefusal, FileIsRefused, IsContainerOfFile}

-- the first byte of a blob: the file follows it, or the file's container does
abbrev pub plain_mark : ℕ
plain_mark = 0

abbrev pub container_mark : ℕ
container_mark = 1

-- how many segments the container has at most, but that each scan has one
abbrev pub blob_segments : ℕ
blob_segments = 1

-- the blob of a file: a mark and its container, if it has one, and else a mark and the file
abbrev pub IsBlobOf : List ℕ → List ℕ → Type 0
IsBlobOf blob file =
    ((made : List ℕ) × (blob ≡ container_mark ∷ made)
    × IsContainerOfFile blob_segments made file)
    ⊎ ((blob ≡ plain_mark ∷ file) × (refusal : FileRefusal) × FileIsRefused file refusal)
