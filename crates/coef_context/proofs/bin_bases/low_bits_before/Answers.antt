use Rattle.std.proofs.Common.{◌≤◌, arith}
use Rattle.coef_context.proofs.Radix.{few_rows}
use Rattle.coef_context.proofs.bin_bases.low_bits_before.Goals as goal

pub returns-else-size-lt2-clause-below : goal.returns-else-size-lt2-clause-below
returns-else-size-lt2-clause-below c = let some : 2 ≤ c.args.size = omega arith in rw c.low_bit.ensures (few_rows c.args.size some c.requires.most)
