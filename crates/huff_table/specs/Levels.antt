-- Steps: the code words of one size after another, as the code goes over them (own).
use Rattle.std.specs.Prelude.{ℕ, ◌+◌, ◌-◌, ◌*◌, List, [], ◌∷◌, ◌++◌, take, drop, Option, None, nat_le, slice_get, if◌then◌else◌}
use Rattle.huff_table.specs.CodeWords.{CodeWord}

-- values and the code words of a size, each one more than the one before
abbrev pub level : ℕ → ℕ → List ℕ → List CodeWord
level size code [] = []
level size code (value ∷ values) =
    record { value = value; size = size; code = code } ∷ level size (code + 1) values

-- the code words of a size from a first one on, and then the longer ones
abbrev pub levels : ℕ → ℕ → List ℕ → List ℕ → List CodeWord
levels size first [] values = []
levels size first (count ∷ counts) values =
    level size first (take count values)
    ++ levels (size + 1) (2 * (first + count)) counts (drop count values)

-- the value of a code word among those of its size
abbrev pub value_among : List ℕ → ℕ → ℕ → Option ℕ
value_among values first code = if nat_le first code then slice_get values (code - first) else None
