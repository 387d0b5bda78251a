-- Law: what holds of all files in parts, and of their slices (own).
use Rattle.std.specs.Prelude.{ℕ, zero, suc, ◌≡◌, ◌+◌, ◌-◌, ◌*◌, ◌<◌, ◌≤◌, max, min, true, false, List, [], ◌∷◌, ◌++◌, length, get_or, slice_index}
use Rattle.byte_window.specs.Slices.{slice, has_place, chunk_from, chunk_to}
use Rattle.byte_window.specs.PartedFiles.{PartedFile, IsPlaced, file_bytes, parts_within, begun_within, bytes_within, skip_within, header_within, trailer_within, slice_bytes, joined, listed}

-- the parts of a slice are some of the file's
abbrev pub PartsAreInFile : Type 0
PartsAreInFile =
    (f : PartedFile) (a b : ℕ)
    → ((parts_within f a b).from ≤ (parts_within f a b).to)
    × ((parts_within f a b).to ≤ f.count)

-- a slice's bytes are the file's
abbrev pub SliceOfFile : Type 0
SliceOfFile =
    (f : PartedFile) (a b : ℕ) → IsPlaced f → slice_bytes f a b ≡ slice a b (file_bytes f)

-- how many bytes of the parts lie from place a to before b
abbrev pub most_within : PartedFile → ℕ → ℕ → ℕ
most_within f a b =
    let c = parts_within f a b in min b (f.place c.to) - max a (f.place c.from)

-- the parts have as many bytes as the window skips and lets through
abbrev pub BytesAreEnough : Type 0
BytesAreEnough =
    (f : PartedFile) (a b : ℕ) → IsPlaced f
    → skip_within f a b + most_within f a b ≤ length (bytes_within f a b)

-- and as many go through as the slice has beside its part of the header and of the trailer
abbrev pub MostIsLeft : Type 0
MostIsLeft =
    (f : PartedFile) (a b : ℕ) → IsPlaced f → a ≤ b → b ≤ length (file_bytes f)
    → most_within f a b
    ≡ (b - a) - length (header_within f a b) - length (trailer_within f a b)

-- slices one after another are one slice
abbrev pub RangesJoin : Type 0
RangesJoin =
    (f : PartedFile) (a b c : ℕ) → IsPlaced f → a ≤ b → b ≤ c
    → slice_bytes f a b ++ slice_bytes f b c ≡ slice_bytes f a c

-- parts that are a list, with one place for each byte
abbrev pub ListIsPlaced : Type 0
ListIsPlaced =
    (header trailer places : List ℕ) (parts : List (List ℕ))
    → slice_index places 0 ≡ length header
    → ((i : ℕ) → i < length parts
    → slice_index places (i + 1) ≡ slice_index places i + length (get_or parts i []))
    → IsPlaced (listed header parts trailer places)

-- a file's part i has a place from a to before b
abbrev pub IsMet : PartedFile → ℕ → ℕ → ℕ → Type 0
IsMet f a b i = (i < f.count) × (has_place f.place a b i ≡ true)

-- a slice begins the parts from the first to the last with a place in it
abbrev pub BegunAreFirstToLast : Type 0
BegunAreFirstToLast =
    (f : PartedFile) (a b first last : ℕ) → IsMet f a b first → IsMet f a b last
    → ((i : ℕ) → IsMet f a b i → (first ≤ i) × (i ≤ last))
    → (parts_within f a b ≡ record { from = first; to = last + 1 })
    × (begun_within f a b ≡ last - first + 1)

-- and none if no part has one
abbrev pub NoneIsBegun : Type 0
NoneIsBegun =
    (f : PartedFile) (a b : ℕ) → ((i : ℕ) → i < f.count → has_place f.place a b i ≡ false)
    → begun_within f a b ≡ 0

-- a part from the first to the last with a place in the slice that has none itself has no byte
abbrev pub OthersAreEmpty : Type 0
OthersAreEmpty =
    (f : PartedFile) (a b i : ℕ) → IsPlaced f
    → (parts_within f a b).from ≤ i → i < (parts_within f a b).to
    → has_place f.place a b i ≡ false
    → f.between i (i + 1) ≡ []

-- whatever the bytes of the other parts are, the slice's bytes are the same
abbrev pub OthersAreUnread : Type 0
OthersAreUnread =
    (header trailer places : List ℕ) (parts others : List (List ℕ)) (a b : ℕ)
    → length others ≡ length parts
    → ((i : ℕ) → (parts_within (listed header parts trailer places) a b).from ≤ i
    → i < (parts_within (listed header parts trailer places) a b).to
    → get_or others i [] ≡ get_or parts i [])
    → slice_bytes (listed header others trailer places) a b
    ≡ slice_bytes (listed header parts trailer places) a b

-- chunks from number i on, N of them
abbrev pub chunks_of : List ℕ → ℕ → ℕ → ℕ → List (List ℕ)
chunks_of file size i zero = []
chunks_of file size i (suc more) =
    slice (chunk_from size i) (chunk_to (length file) size i) file
    ∷ chunks_of file size (i + 1) more

-- all chunks of a file are the file
abbrev pub ChunksAreTheFile : Type 0
ChunksAreTheFile =
    (file : List ℕ) (size count : ℕ) → length file ≤ count * size
    → joined (chunks_of file size 0 count) ≡ file
