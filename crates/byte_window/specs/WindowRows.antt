-- Rows: worked windows and covers (own).
use Rattle.std.specs.Prelude.{ℕ, ◌≡◌, List, [], ◌∷◌, slice_index, Some}
use Rattle.byte_window.specs.declared.window.Window.{Window}
use Rattle.byte_window.specs.Windows.{everything, window, after}
use Rattle.byte_window.specs.Slices.{Cover, cover_of}

abbrev pub bounded : ℕ → ℕ → Window
bounded skip most = record { skip = skip; most = Some most }

abbrev pub covering : ℕ → ℕ → Cover
covering from to = record { from = from; to = to }

-- a byte and its stuffed zero, and the two of two segments of three bytes
abbrev pub worked_windows : Type 0
worked_windows =
    (window (bounded 0 1) (0xff ∷ 0x00 ∷ []) ≡ 0xff ∷ [])
    × (window (bounded 1 1) (0xff ∷ 0x00 ∷ []) ≡ 0x00 ∷ [])
    × (window (bounded 2 1) (0xff ∷ 0x00 ∷ []) ≡ [])
    × (window (bounded 2 2) (0x3f ∷ 0xff ∷ 0xd0 ∷ []) ≡ 0xd0 ∷ [])
    × (after (bounded 2 2) 3 ≡ bounded 0 1)
    × (window (after (bounded 2 2) 3) (0x3f ∷ []) ≡ 0x3f ∷ [])
    × (after everything 3 ≡ everything)

-- rows that start at these places, and end at the last
abbrev pub places : List ℕ → ℕ → ℕ
places starts i = slice_index starts i

-- four rows of which the last alone has bytes, and two of three bytes and of one
abbrev pub worked_covers : Type 0
worked_covers =
    let four = places (71 ∷ 71 ∷ 71 ∷ 71 ∷ 73 ∷ []) in
    let two = places (75 ∷ 78 ∷ 79 ∷ []) in
    (cover_of four 4 0 72 ≡ covering 3 4)
    × (cover_of four 4 72 75 ≡ covering 3 4)
    × (cover_of four 4 0 1 ≡ covering 0 0)
    × (cover_of four 4 73 75 ≡ covering 0 0)
    × (cover_of two 2 76 78 ≡ covering 0 1)
    × (cover_of two 2 77 79 ≡ covering 0 2)
    × (cover_of two 2 78 78 ≡ covering 0 0)
    × (cover_of two 2 78 79 ≡ covering 1 2)
    × (cover_of two 2 0 75 ≡ covering 0 0)
