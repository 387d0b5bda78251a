use Rattle.std.proofs.Common.{◌≤◌, ℤ, ◌-ℤ◌, unsigned_abs, sym, ap, ap₂, ◌∙◌, subst, arith}
use Rattle.std.specs.Int.{w32}
use mir.Val.{to_z, of_z}
use Rattle.coef_block.specs.Categories.{category as size}
use Rattle.scan_spec.specs.BlockBits.{Text, value_text}
use Rattle.scan_spec.specs.PlainWriting.{IsWritten}
use Rattle.scan_spec.proofs.SignedValues.{difference_is}
use Rattle.scan_spec.proofs.ValueLemmas.{size_is}
use Rattle.scan_spec.proofs.Words.{dc_far, dc_near}
use Rattle.scan_spec.proofs.plain.put_dc.Goals as goal

pub returns-then-unsigned_abs-gt-MOST_DIFFERENCE : goal.returns-then-unsigned_abs-gt-MOST_DIFFERENCE
returns-then-unsigned_abs-gt-MOST_DIFFERENCE c =
    let is = ap unsigned_abs (difference_is c.args.dc c.args.before c.requires.dc c.requires.before) in
    dc_far c.args.codes.now c.args.before c.args.dc (omega (arith, c.unsigned_abs.ensures.value, is, c.if-unsigned_abs-gt-MOST_DIFFERENCE.true))

pub returns : goal.returns
returns c =
    let difference = c.args.dc -ℤ c.args.before in
    let same = difference_is c.args.dc c.args.before c.requires.dc c.requires.before in
    let near : unsigned_abs difference ≤ 2047 = omega (arith, c.unsigned_abs.ensures.value, ap unsigned_abs same, c.if-unsigned_abs-gt-MOST_DIFFERENCE.false) in
    let sized = size_is (to_z w32 (of_z w32 (to_z w32 (of_z w32 c.args.dc) -ℤ to_z w32 (of_z w32 c.args.before)))) c.size.result c.size.ensures.below c.size.ensures.least in
    let text = dc_near c.args.codes.now c.args.before c.args.dc near in
    subst (λ (t : Text). IsWritten c.put_value.result c.args.bits.now.items c.put_value.new.bits.items t)
    (ap₂ (value_text c.args.codes.now) (sized ∙ ap (λ (z : ℤ). size (unsigned_abs z)) same) same ∙ sym text) c.put_value.ensures
