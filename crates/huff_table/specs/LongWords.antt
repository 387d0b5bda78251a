-- View: where the code words and the values of each size end, by which a word is found (own; ITU-T T.81, Figure F.15
-- keeps the last word of each size, and the index of its first value).
use Rattle.std.specs.Prelude.{ℕ, ◌+◌, ◌-◌, ◌*◌, ◌^◌, List, [], ◌∷◌}

-- the number after the words of each size, in sixteen bits, if those of the first size have `more` bits fewer, and begin
-- with `first`
abbrev pub word_ends : ℕ → ℕ → List ℕ → List ℕ
word_ends more first [] = []
word_ends more first (count ∷ counts) =
    (first + count) * 2 ^ more ∷ word_ends (more - 1) (2 * (first + count)) counts

-- the index after the values of each size, after some earlier values
abbrev pub value_ends : ℕ → List ℕ → List ℕ
value_ends before [] = []
value_ends before (count ∷ counts) = (before + count) ∷ value_ends (before + count) counts
