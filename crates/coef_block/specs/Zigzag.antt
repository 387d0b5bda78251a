-- Statement: the zigzag order of a block's 64 coefficients (ITU-T T.81, A.3.6, Figure A.6). A natural position is 8
-- times the row plus the column, both from 0; a zigzag index counts the positions along the figure's walk.
use Rattle.std.specs.Prelude.{ℕ, ◌+◌, ◌-◌, ◌*◌, ◌/◌, ◌%◌, Bool, true, ◌&&◌, ◌==◌, List, [], ◌∷◌, length, if◌then◌else◌}

-- the natural position at each zigzag index (Figure A.6), a diagonal a line
abbrev pub zigzag : List ℕ
zigzag =
    0 ∷
    1 ∷ 8 ∷
    16 ∷ 9 ∷ 2 ∷
    3 ∷ 10 ∷ 17 ∷ 24 ∷
    32 ∷ 25 ∷ 18 ∷ 11 ∷ 4 ∷
    5 ∷ 12 ∷ 19 ∷ 26 ∷ 33 ∷ 40 ∷
    48 ∷ 41 ∷ 34 ∷ 27 ∷ 20 ∷ 13 ∷ 6 ∷
    7 ∷ 14 ∷ 21 ∷ 28 ∷ 35 ∷ 42 ∷ 49 ∷ 56 ∷
    57 ∷ 50 ∷ 43 ∷ 36 ∷ 29 ∷ 22 ∷ 15 ∷
    23 ∷ 30 ∷ 37 ∷ 44 ∷ 51 ∷ 58 ∷
    59 ∷ 52 ∷ 45 ∷ 38 ∷ 31 ∷
    39 ∷ 46 ∷ 53 ∷ 60 ∷
    61 ∷ 54 ∷ 47 ∷
    55 ∷ 62 ∷
    63 ∷ []

-- a row and a column, as a natural position (A.3.6)
abbrev pub position_at : ℕ → ℕ → ℕ
position_at row column = 8 * row + column

-- up and to the right, along the right edge down, along the top edge to the right (Figure A.6)
abbrev pub position_upward : ℕ → ℕ → ℕ
position_upward row column =
    if column == 7 then position_at (row + 1) column
    else if row == 0 then position_at row (column + 1)
    else position_at (row - 1) (column + 1)

-- down and to the left, along the bottom edge to the right, along the left edge down (Figure A.6)
abbrev pub position_downward : ℕ → ℕ → ℕ
position_downward row column =
    if row == 7 then position_at row (column + 1)
    else if column == 0 then position_at (row + 1) column
    else position_at (row + 1) (column - 1)

-- where the walk goes from a row and a column: upward on the diagonals whose row plus column is even
abbrev pub position_after : ℕ → ℕ → ℕ
position_after row column =
    if (row + column) % 2 == 0 then position_upward row column else position_downward row column

-- whether the walk from a position goes over these positions (Figure A.6)
abbrev pub walks_from : ℕ → List ℕ → Bool
walks_from position [] = true
walks_from position (p ∷ ps) =
    p == position && walks_from (position_after (position / 8) (position % 8)) ps

-- whether these are the 64 positions of the figure's walk, which begins at position 0
abbrev pub is_zigzag : List ℕ → Bool
is_zigzag positions = length positions == 64 && walks_from 0 positions
