use Rattle.coef_block.proofs.BlockMasks.{IsMask-mask_of}
use Rattle.coef_block.proofs.block.Block.nonzeros.Goals as goal

pub returns : goal.returns
returns c = rw (c.self.invariant.mask, ← c.self.view_is) (IsMask-mask_of c.self.inside.values)
