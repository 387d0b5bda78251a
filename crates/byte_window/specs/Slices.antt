-- Statement: slices of a list, and which of a list's parts have a place in one (own).
use Rattle.std.specs.Prelude.{ℕ, zero, suc, ◌+◌, ◌*◌, ◌<◌, ◌≤◌, ◌==◌, max, min, nat_lt, if◌then◌else◌, Bool, true, false, List, take, drop}

-- the items from place a to before place b
abbrev pub slice : ℕ → ℕ → List ℕ → List ℕ
slice a b xs = drop a (take b xs)

-- chunk i of a file's chunks of one size: the place of its first byte, and that after its last
abbrev pub chunk_from : ℕ → ℕ → ℕ
chunk_from size i = i * size

abbrev pub chunk_to : ℕ → ℕ → ℕ → ℕ
chunk_to length size i = min (i * size + size) length

-- starts that don't fall
abbrev pub Rises : (ℕ → ℕ) → ℕ → Type 0
Rises starts count = (i : ℕ) → i < count → starts i ≤ starts (i + 1)

-- whether part i, of parts that start at these places, has a place from a to before b
abbrev pub has_place : (ℕ → ℕ) → ℕ → ℕ → ℕ → Bool
has_place starts a b i = nat_lt (max a (starts i)) (min b (starts (i + 1)))

-- parts from one to before another; none, as 0 to before 0
pub record Cover : Type 0 where
  pub from : ℕ
  pub to : ℕ

-- with one more part, after those before it
abbrev pub with_part : Cover → ℕ → Bool → Cover
with_part c i false = c
with_part c i true = record { from = if c.from == c.to then i else c.from; to = i + 1 }

-- from the least to the greatest of the first `count` parts that are met
abbrev pub cover : (ℕ → Bool) → ℕ → Cover
cover met zero = record { from = 0; to = 0 }
cover met (suc count) = with_part (cover met count) count (met count)

-- those with a place from a to before b
abbrev pub cover_of : (ℕ → ℕ) → ℕ → ℕ → ℕ → Cover
cover_of starts count a b = cover (has_place starts a b) count
