use Rattle.std.proofs.Common.{◌+◌, ◌*◌, ◌/◌, ◌%◌, ℤ, unsigned_abs, ap, ap₂, ◌∙◌, subst, arith}
use Rattle.std.proofs.lemmas.Int.{to_z-of_z}
use Rattle.std.specs.Int.{w32}
use Rattle.coef_block.specs.Categories.{category}
use Rattle.scan_spec.specs.BlockBits.{Text, zeros_text, value_text, coefficient_text}
use Rattle.scan_write.specs.Outputs.{output_with}
use Rattle.scan_write.specs.Appending.{IsWritten}
use Rattle.scan_write.proofs.AppendedTexts.{texts_start, texts_more, texts_last}
use Rattle.scan_write.proofs.acs.coefficient.Goals as goal

pub overflow_add-zeros : goal.overflow_add-zeros
overflow_add-zeros c =
    let same = ap unsigned_abs (to_z-of_z w32 c.args.number c.ranges.number) in
    let few = c.size-size.ensures.no_more 10 (omega (arith, same)) in
    omega (arith, few)

pub value-requires-clause-room : goal.value-requires-clause-room
value-requires-clause-room c =
    let same = ap unsigned_abs (to_z-of_z w32 c.args.number c.ranges.number) in
    let few = c.size-size.ensures.no_more 10 (omega (arith, same)) in
    omega (arith, few)

pub returns-clause-is : goal.returns-clause-is
returns-clause-is c =
    let codes = c.args.codes.now in
    let same = to_z-of_z w32 c.args.number c.ranges.number in
    let sized = c.size-size.ensures.category ∙ ap (λ (z : ℤ). category (unsigned_abs z)) same in
    let symbol = 16 * (c.args.zeros % 16) in
    let value = value_text codes (symbol + category (unsigned_abs c.args.number)) c.args.number in
    let zeros = zeros_text codes (c.args.zeros / 16) in
    let whole = coefficient_text codes c.args.zeros c.args.number in
    let old = output_with c.args.output.now c.args.out.now in
    let now = output_with c.sixteens.new.output c.sixteens.new.out in
    let new = output_with c.value.new.output c.value.new.out in
    let last = subst (λ (t : Text). IsWritten c.value.result now new t) (ap₂ (λ n v. value_text codes (symbol + n) v) sized same) c.value.ensures.is in
    texts_last whole old now new value c.value.result (texts_more whole old old now zeros value (texts_start whole old) c.in_ok-sixteens.ensures.is) last

pub returns-clause-spent : goal.returns-clause-spent
returns-clause-spent c =
    let same = ap unsigned_abs (to_z-of_z w32 c.args.number c.ranges.number) in
    let few = c.size-size.ensures.no_more 10 (omega (arith, same)) in
    omega (arith, few)
