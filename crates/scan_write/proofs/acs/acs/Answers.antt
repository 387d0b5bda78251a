use Rattle.std.proofs.Common.{◌≡◌, ◌-◌, subst, arith}
use Rattle.scan_spec.specs.BlockBits.{Text, ac_text, ac_values, word_text}
use Rattle.scan_spec.proofs.Words.{ac_full, ac_end}
use Rattle.scan_write.specs.Outputs.{output_with}
use Rattle.scan_write.specs.Appending.{HasAppended}
use Rattle.scan_write.proofs.AppendedTexts.{texts_end, texts_last}
use Rattle.scan_write.proofs.acs.acs.Goals as goal

pub returns-then-last-eq63-clause-is : goal.returns-then-last-eq63-clause-is
returns-then-last-eq63-clause-is c =
    let codes = c.args.codes.now in
    let whole = ac_text codes 0 (ac_values c.args.block.now) in
    let old = output_with c.args.output.now c.args.out.now in
    let now = output_with c.coefficients.new.output c.coefficients.new.out in
    let none : 63 - c.in_ok-last.last ≡ 0 = omega (arith, c.if-last-eq63.true) in
    texts_end whole old now (subst (λ (t : Text). HasAppended whole old now t) (ac_full codes (63 - c.in_ok-last.last) none) c.in_ok-last.ensures.ok)

pub returns-clause-is : goal.returns-clause-is
returns-clause-is c =
    let codes = c.args.codes.now in
    let whole = ac_text codes 0 (ac_values c.args.block.now) in
    let old = output_with c.args.output.now c.args.out.now in
    let now = output_with c.coefficients.new.output c.coefficients.new.out in
    let new = output_with c.word.new.output c.word.new.out in
    let due = subst (λ (t : Text). HasAppended whole old now t) (ac_end codes (63 - c.in_ok-last.last) (λ none. c.if-last-eq63.false (omega (arith, c.in_ok-last.ensures.few)))) c.in_ok-last.ensures.ok in
    texts_last whole old now new (word_text codes 0) c.word.result due c.word.ensures.is
