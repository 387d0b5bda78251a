use Rattle.coef_block.proofs.BlockMasks.{IsMask-mask_of, mask_of-lt, ones_among}
use Rattle.coef_block.proofs.block.Block.nonzeros_among.Goals as goal

pub returns : goal.returns
returns c =
    let values = c.self.inside.values in
    rw (c.self.invariant.mask, ← c.self.view_is) (ones_among _ c.args.indexes values (mask_of-lt values) (IsMask-mask_of values))
