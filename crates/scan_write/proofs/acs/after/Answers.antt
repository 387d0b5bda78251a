use Rattle.std.proofs.Common.{◌-◌, ℤ, subst, arith, ap, ◌∙◌, sym}
use Rattle.scan_spec.specs.BlockBits.{coefficient_at, coefficient_text}
use Rattle.scan_spec.proofs.SignedValues.{widened}
use Rattle.scan_spec.proofs.Words.{value_is, small_value}
use Rattle.scan_write.specs.Outputs.{output_with}
use Rattle.scan_write.specs.Appending.{IsWritten}
use Rattle.scan_write.proofs.Runs.{magnitude_some}
use Rattle.scan_write.proofs.acs.after.Goals as goal

pub coefficient-requires-clause-some : goal.coefficient-requires-clause-some
coefficient-requires-clause-some c =
    let block = c.args.block.now in
    let position = c.natural_position.result in
    let value = c.get-value.result in
    let small = small_value position value (c.natural_position.ensures.later (omega arith)) c.get-value.ensures.coefficient in
    let wide = widened value c.from.result small c.from.ensures in
    let is = value_is block position value c.get-value.ensures.value in
    let there = ap (coefficient_at block) c.natural_position.ensures.position in
    magnitude_some block c.args.index _ c.requires.some (sym (wide ∙ sym is ∙ there))

pub returns-clause-is : goal.returns-clause-is
returns-clause-is c =
    let codes = c.args.codes.now in
    let block = c.args.block.now in
    let zeros = c.args.index - c.args.last - 1 in
    let position = c.natural_position.result in
    let value = c.get-value.result in
    let small = small_value position value (c.natural_position.ensures.later (omega arith)) c.get-value.ensures.coefficient in
    let wide = widened value c.from.result small c.from.ensures in
    let is = value_is block position value c.get-value.ensures.value in
    let there = ap (coefficient_at block) c.natural_position.ensures.position in
    let old = output_with c.args.output.now c.args.out.now in
    let new = output_with c.coefficient.new.output c.coefficient.new.out in
    subst (λ (v : ℤ). IsWritten c.coefficient.result old new (coefficient_text codes zeros v)) (wide ∙ sym is ∙ there) c.coefficient.ensures.is
