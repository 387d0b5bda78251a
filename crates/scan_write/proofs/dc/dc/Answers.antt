use Rattle.std.proofs.Common.{[], ◌≤◌, ℤ, ◌-ℤ◌, unsigned_abs, sym, ap, ap₂, ◌∙◌, subst, arith}
use Rattle.coef_block.specs.Categories.{category}
use Rattle.scan_spec.specs.BlockBits.{Text, value_text}
use Rattle.scan_spec.proofs.ValueLemmas.{size_is}
use Rattle.scan_spec.proofs.Words.{dc_far, dc_near}
use Rattle.scan_write.specs.Outputs.{output_with}
use Rattle.scan_write.specs.Appending.{IsWritten}
use Rattle.scan_write.proofs.OutputLemmas.{appended_nothing}
use Rattle.scan_write.proofs.SmallNumbers.{made, difference_of}
use Rattle.scan_write.proofs.dc.dc.Goals as goal

pub returns-then-unsigned_abs-gt-MOST_DIFFERENCE-clause-is : goal.returns-then-unsigned_abs-gt-MOST_DIFFERENCE-clause-is
returns-then-unsigned_abs-gt-MOST_DIFFERENCE-clause-is c =
    let is = ap unsigned_abs (difference_of c.args.dc c.args.before c.from.result c.from-2.result c.requires.dc c.requires.before c.from.ensures c.from-2.ensures) in (
      [],
      dc_far c.args.codes.now c.args.before c.args.dc (omega (arith, c.unsigned_abs.ensures.value, is, c.if-unsigned_abs-gt-MOST_DIFFERENCE.true)),
      sym (appended_nothing (output_with c.args.output.now c.args.out.now)),
    )

pub value-requires-clause-room : goal.value-requires-clause-room
value-requires-clause-room c =
    let few = c.size-size.ensures.no_more 11 (omega arith) in
    omega (arith, few)

pub returns-clause-is : goal.returns-clause-is
returns-clause-is c =
    let difference = c.args.dc -ℤ c.args.before in
    let same = difference_of c.args.dc c.args.before c.from.result c.from-2.result c.requires.dc c.requires.before c.from.ensures c.from-2.ensures in
    let near : unsigned_abs difference ≤ 2047 = omega (arith, c.unsigned_abs.ensures.value, ap unsigned_abs same, c.if-unsigned_abs-gt-MOST_DIFFERENCE.false) in
    let text = dc_near c.args.codes.now c.args.before c.args.dc near in
    let sized = size_is (made (made c.from.result -ℤ made c.from-2.result)) c.size-size.result c.size-size.ensures.below c.size-size.ensures.least in
    subst (λ (t : Text). IsWritten c.value.result (output_with c.args.output.now c.args.out.now) (output_with c.value.new.output c.value.new.out) t)
    (ap₂ (value_text c.args.codes.now) (sized ∙ ap (λ (z : ℤ). category (unsigned_abs z)) same) same ∙ sym text) c.value.ensures.is

pub returns-clause-spent : goal.returns-clause-spent
returns-clause-spent c =
    let few = c.size-size.ensures.no_more 11 (omega arith) in
    omega (arith, few)
