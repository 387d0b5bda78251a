use Rattle.std.proofs.Common.{arith}
use Rattle.block_spec.proofs.CategoryBits.{category_at_most}
use Rattle.block_code.proofs.bands.EdgeBandBand.bases.Goals as goal

pub edge_bases-requires-clause-most : goal.edge_bases-requires-clause-most
edge_bases-requires-clause-most c = rw c.bits_of_count.ensures (category_at_most 3 c.args.remain (omega (arith, c.requires.place)))
