use Rattle.std.proofs.Common.{◌<◌, length, slice_index, sym, ◌∙◌, arith}
use Rattle.std.specs.Int.{w16}
use Rattle.std.proofs.lemmas.Int.{to_z-of_z}
use Rattle.coef_block.specs.Nonzeros.{IsMask}
use Rattle.coef_block.specs.Zigzag.{zigzag}
use Rattle.coef_block.proofs.BlockMasks.{IsBlock-put, IsMask-put, IsMask-mask_of, mask_of-IsMask, some_bit}
use Rattle.coef_block.proofs.Positions.{zigzag-below}
use Rattle.coef_block.proofs.block.Block.put_in_zigzag.Goals as goal

pub invariant_of-self : goal.invariant_of-self
invariant_of-self c =
    let values = c.self.inside.values in
    let new = c.marked-self-inside.result in
    let index = c.args.index in
    let value = c.args.value in
    let same = to_z-of_z w16 value c.ranges.value in
    let was : IsMask c.self.inside.mask values = rw c.self.invariant.mask (IsMask-mask_of values) in
    let below = zigzag-below index c.requires.index in
    let inside : slice_index zigzag index < length values = omega (arith, below, c.self.told) in
    let here = c.marked-self-inside.ensures.here ∙ sym (some_bit value c.requires.some) in
    let is = IsMask-put c.self.inside.mask new values index value inside c.requires.index was here c.marked-self-inside.ensures.others in
    rw (c.natural_position.ensures.position, same) record {
      block = IsBlock-put values (slice_index zigzag index) value below c.requires.coefficient c.self.invariant.block;
      mask = mask_of-IsMask new _ c.marked-self-inside.type_inv is;
    }
