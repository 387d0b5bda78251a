use Rattle.std.specs.Int.{w64}
use Rattle.std.proofs.lemmas.Nat.Bits.{bit_at-trailing_zeros}
use Rattle.scan_write.proofs.acs.lowest.Goals as goal

pub returns-clause-here : goal.returns-clause-here
returns-clause-here c = (bit_at-trailing_zeros w64 c.args.mask c.requires c.ranges.mask.fits).1

pub returns-clause-below : goal.returns-clause-below
returns-clause-below c = (bit_at-trailing_zeros w64 c.args.mask c.requires c.ranges.mask.fits).2
