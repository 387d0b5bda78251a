-- Law: what holds of all blobs (own).
use Rattle.std.specs.Prelude.{ℕ, ◌≡◌, List}
use Rattle.photo_blob.specs.Blobs.{IsBlobOf}

-- a file has one blob
abbrev pub OneBlob : Type 0
OneBlob =
    (blob other file : List ℕ) → IsBlobOf blob file → IsBlobOf other file → blob ≡ other

-- and a blob is that of one file
abbrev pub OneFile : Type 0
OneFile =
    (blob file other : List ℕ) → IsBlobOf blob file → IsBlobOf blob other → file ≡ other
