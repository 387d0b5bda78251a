use Rattle.std.proofs.Common.{arith}
use Rattle.block_spec.proofs.CategoryBits.{category_at_most}
use Rattle.block_code.proofs.bands.InnerBandBand.bases.Goals as goal

pub inner_bases-requires-clause-most : goal.inner_bases-requires-clause-most
inner_bases-requires-clause-most c = rw c.bits_of_count.ensures (category_at_most 6 c.args.remain (omega (arith, c.requires.place)))
