-- Statement: a file in parts between a header and a trailer, and what of them lies in a slice of it (own).
use Rattle.std.specs.Prelude.{ℕ, ◌≡◌, ◌-◌, ◌≤◌, ◌==◌, if◌then◌else◌, List, ◌++◌, length, take, drop, flat_map, max, min, slice_index, Some}
use Rattle.byte_window.specs.declared.window.Window.{Window}
use Rattle.byte_window.specs.Windows.{window}
use Rattle.byte_window.specs.Slices.{Cover, Rises, slice, cover_of}

-- how many parts there are, the place of each part's first byte, after the last part that of the parts' end, and the
-- bytes of the parts from one to before another, one after another
pub record PartedFile : Type 0 where
  pub header : List ℕ
  pub count : ℕ
  pub place : ℕ → ℕ
  pub between : ℕ → ℕ → List ℕ
  pub trailer : List ℕ

abbrev pub parts_end : PartedFile → ℕ
parts_end f = f.place f.count

abbrev pub parts_bytes : PartedFile → List ℕ
parts_bytes f = f.between 0 f.count

-- the file
abbrev pub file_bytes : PartedFile → List ℕ
file_bytes f = f.header ++ (parts_bytes f ++ f.trailer)

-- the parts follow the header, and each has one byte for each of its places
pub record IsPlaced (f : PartedFile) : Type 0 where
  pub first : f.place 0 ≡ length f.header
  pub rises : Rises f.place f.count
  pub each : (i j : ℕ) → i ≤ j → j ≤ f.count
      → f.between i j ≡ slice (f.place i - f.place 0) (f.place j - f.place 0) (parts_bytes f)
  pub all : length (parts_bytes f) ≡ parts_end f - f.place 0

-- the parts from the first to the last that has a place from place a to before b
abbrev pub parts_within : PartedFile → ℕ → ℕ → Cover
parts_within f a b = cover_of f.place f.count a b

-- how many they are
abbrev pub begun_within : PartedFile → ℕ → ℕ → ℕ
begun_within f a b = let c = parts_within f a b in c.to - c.from

-- their bytes
abbrev pub bytes_within : PartedFile → ℕ → ℕ → List ℕ
bytes_within f a b = let c = parts_within f a b in f.between c.from c.to

-- what of the first one's bytes lies before place a; nothing if there is no part
abbrev pub skip_of : (ℕ → ℕ) → Cover → ℕ → ℕ
skip_of place c a = if c.from == c.to then 0 else a - place c.from

-- the window on their bytes: as many go through as they have places from a to before b
abbrev pub window_of : (ℕ → ℕ) → Cover → ℕ → ℕ → Window
window_of place c a b =
    record { skip = skip_of place c a; most = Some (min b (place c.to) - max a (place c.from)) }

abbrev pub skip_within : PartedFile → ℕ → ℕ → ℕ
skip_within f a b = skip_of f.place (parts_within f a b) a

abbrev pub window_within : PartedFile → ℕ → ℕ → Window
window_within f a b = window_of f.place (parts_within f a b) a b

-- what of the header, and of the trailer, lies there
abbrev pub header_within : PartedFile → ℕ → ℕ → List ℕ
header_within f a b = slice a b f.header

abbrev pub trailer_within : PartedFile → ℕ → ℕ → List ℕ
trailer_within f a b = slice (a - parts_end f) (b - parts_end f) f.trailer

-- the slice's bytes
abbrev pub slice_bytes : PartedFile → ℕ → ℕ → List ℕ
slice_bytes f a b =
    header_within f a b ++ (window (window_within f a b) (bytes_within f a b) ++ trailer_within f a b)

-- the bytes of parts that are a list, one after another, and of those from one to before another
abbrev pub joined : List (List ℕ) → List ℕ
joined parts = flat_map (λ bytes. bytes) parts

abbrev pub joined_between : List (List ℕ) → ℕ → ℕ → List ℕ
joined_between parts i j = joined (take (j - i) (drop i parts))

-- a file of such parts, with a list of places
abbrev pub listed : List ℕ → List (List ℕ) → List ℕ → List ℕ → PartedFile
listed header parts trailer places = record {
  header = header;
  count = length parts;
  place = λ i. slice_index places i;
  between = joined_between parts;
  trailer = trailer;
}
