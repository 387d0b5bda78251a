-- Statement: how a bin counts bits (docs/FORMAT.md, Bins).
use Rattle.std.specs.Prelude.{ℕ, ◌+◌, ◌*◌, ◌/◌, ◌==◌, Bool, if◌then◌else◌}

-- how often each bit occurred; a count is from 1 to 255
pub record Counts : Type 0 where
  pub zeros : ℕ
  pub ones : ℕ

-- counts from two numbers
abbrev pub counts : ℕ → ℕ → Counts
counts zeros ones = record { zeros = zeros; ones = ones }

-- before the first bit
abbrev pub unseen : Counts
unseen = counts 1 1

-- the largest count
abbrev pub most_count : ℕ
most_count = 255

-- both counts halved and rounded up
abbrev pub halved : Counts → Counts
halved c = counts ((c.zeros + 1) / 2) ((c.ones + 1) / 2)

-- the count of a bit
abbrev pub seen : Counts → Bool → ℕ
seen c bit = if bit then c.ones else c.zeros

-- halved if the count of a bit is 255
abbrev pub with_room : Counts → Bool → Counts
with_room c bit = if seen c bit == most_count then halved c else c

-- one more of a bit
abbrev pub raised : Counts → Bool → Counts
raised c bit = if bit then counts c.zeros (c.ones + 1) else counts (c.zeros + 1) c.ones

-- a bit adds one to its count; if that count is 255, both are halved first
abbrev pub counted : Counts → Bool → Counts
counted c bit = raised (with_room c bit) bit

-- the probability of a zero, as parts of 256: from 1 to 255
abbrev pub prob_of : Counts → ℕ
prob_of c = 256 * c.zeros / (c.zeros + c.ones)
