-- View: how a bin keeps its counts, and the probability that follows (own).
use Rattle.std.specs.Prelude.{◌≡◌, ◌≤◌}
use Rattle.adapt_bins.specs.Counts.{Counts, counts, prob_of}
use Rattle.adapt_bins.specs.declared.bins.Bin.TheInside.{Inside}

-- the counts
abbrev pub counts_of : Inside → Counts
counts_of b = counts b.zeros b.ones

-- both counts are from 1 on, and the probability is theirs, from 1 on too
pub record IsBin (b : Inside) : Type 0 where
  pub zeros : 1 ≤ b.zeros
  pub ones : 1 ≤ b.ones
  pub prob : b.prob ≡ prob_of (counts b.zeros b.ones)
  pub some : 1 ≤ b.prob

-- what is kept of counts
abbrev pub inside_of : Counts → Inside
inside_of c = record { zeros = c.zeros; ones = c.ones; prob = prob_of c }
