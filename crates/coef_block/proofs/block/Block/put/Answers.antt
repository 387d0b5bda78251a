use Rattle.std.proofs.Common.{◌<◌, ◌==◌, not, length, slice_index, unsigned_abs, ℤ, ap, ◌∙◌, arith}
use Rattle.std.specs.Int.{w16}
use Rattle.std.proofs.lemmas.Int.{to_z-of_z}
use Rattle.coef_block.specs.Nonzeros.{IsMask}
use Rattle.coef_block.specs.Zigzag.{zigzag}
use Rattle.coef_block.proofs.BlockMasks.{IsBlock-put, IsMask-put, IsMask-mask_of, mask_of-IsMask}
use Rattle.coef_block.proofs.Masks.{bit_of}
use Rattle.coef_block.proofs.block.Block.put.Goals as goal

pub invariant_of-self : goal.invariant_of-self
invariant_of-self c =
    let values = c.self.inside.values in
    let new = c.masked-self-inside.result in
    let same = to_z-of_z w16 c.args.value c.ranges.value in
    let was : IsMask c.self.inside.mask values = rw c.self.invariant.mask (IsMask-mask_of values) in
    let inside : slice_index zigzag c.args.index < length values = omega (arith, c.requires.within, c.requires.position, c.self.told) in
    let here = c.masked-self-inside.ensures.here ∙ ap (λ (z : ℤ). bit_of (not (unsigned_abs z == 0))) same in
    let is = IsMask-put c.self.inside.mask new values c.args.index c.args.value inside c.requires.index was here
    c.masked-self-inside.ensures.others in
    rw same record {
      block = IsBlock-put values c.args.position c.args.value c.requires.within c.requires.coefficient c.self.invariant.block;
      mask = rw c.requires.position (mask_of-IsMask new _ c.masked-self-inside.type_inv is);
    }
