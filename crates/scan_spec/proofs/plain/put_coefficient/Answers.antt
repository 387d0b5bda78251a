use Rattle.std.proofs.Common.{◌+◌, ◌*◌, ◌/◌, ◌%◌, ℤ, unsigned_abs, ap, ap₂, ◌∙◌, subst, arith}
use Rattle.std.proofs.lemmas.Int.{to_z-of_z}
use Rattle.std.specs.Int.{w32}
use mir.Val.{to_z, of_z}
use Rattle.coef_block.specs.Categories.{category as size}
use Rattle.scan_spec.specs.BlockBits.{Text, zeros_text, value_text, coefficient_text}
use Rattle.scan_spec.specs.PlainWriting.{IsWritten}
use Rattle.scan_spec.proofs.Texts.{goes_start, goes_more, goes_last}
use Rattle.scan_spec.proofs.ValueLemmas.{size_is}
use Rattle.scan_spec.proofs.plain.put_coefficient.Goals as goal

pub overflow_add-zeros : goal.overflow_add-zeros
overflow_add-zeros c =
    let same = ap unsigned_abs (to_z-of_z w32 c.args.value c.ranges.value) in
    let few = c.size.ensures.no_more 10 (omega (arith, same)) in
    omega (arith, few)

pub returns : goal.returns
returns c =
    let codes = c.args.codes.now in
    let same = to_z-of_z w32 c.args.value c.ranges.value in
    let sized = size_is (to_z w32 (of_z w32 c.args.value)) c.size.result c.size.ensures.below c.size.ensures.least ∙ ap (λ (z : ℤ). size (unsigned_abs z)) same in
    let symbol = 16 * (c.args.zeros % 16) in
    let value = value_text codes (symbol + size (unsigned_abs c.args.value)) c.args.value in
    let zeros = zeros_text codes (c.args.zeros / 16) in
    let whole = coefficient_text codes c.args.zeros c.args.value in
    let old = c.args.bits.now.items in
    let last = subst (λ (t : Text). IsWritten c.put_value.result c.put_zeros.new.bits.items c.put_value.new.bits.items t)
    (ap₂ (λ n v. value_text codes (symbol + n) v) sized same) c.put_value.ensures in
    goes_last whole old c.put_zeros.new.bits.items c.put_value.new.bits.items value c.put_value.result
    (goes_more whole old old c.put_zeros.new.bits.items zeros value tt (goes_start whole old) c.in_ok-put_zeros.ensures) last
