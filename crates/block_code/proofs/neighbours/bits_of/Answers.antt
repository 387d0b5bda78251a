use Rattle.std.proofs.Common.{◌<◌, ◌^◌, arith}
use Rattle.coef_block.proofs.CategoryLemmas.{bits_category}
use Rattle.block_code.proofs.neighbours.bits_of.Goals as goal

pub returns : goal.returns
returns c = let fits : c.args.n < 2 ^ 32 = omega (arith, c.requires) in bits_category c.args.n fits
