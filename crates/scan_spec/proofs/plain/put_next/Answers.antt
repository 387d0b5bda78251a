use Rattle.std.proofs.Common.{ℤ, Ok, Err, subst}
use Rattle.std.proofs.lemmas.Int.{to_z-of_z}
use Rattle.std.specs.Int.{w32}
use Rattle.std.proofs.lemmas.Result.{err_from_is_err_and}
use Rattle.scan_spec.specs.BlockBits.{Text, coefficient_text, ac_text}
use Rattle.scan_spec.specs.PlainWriting.{HasPutPrefix, IsWritten}
use Rattle.scan_spec.proofs.SignedValues.{zero_is, not_zero_is}
use Rattle.scan_spec.proofs.Texts.{goes_more, goes_stop}
use Rattle.scan_spec.proofs.Words.{ac_zero, ac_value}
use Rattle.scan_spec.proofs.plain.put_next.Goals as goal

pub returns-then-value-eq0-clause-ok : goal.returns-then-value-eq0-clause-ok
returns-then-value-eq0-clause-ok c = λ whole old values at.
    subst (λ (t : Text). HasPutPrefix whole old c.args.bits.now.items t) (ac_zero c.args.codes.now c.args.zeros c.args.value values (zero_is c.args.value c.if-value-eq0.true c.ranges.value)) at

pub returns-in_err-put_coefficient-clause-err : goal.returns-in_err-put_coefficient-clause-err
returns-in_err-put_coefficient-clause-err c =
    let codes = c.args.codes.now in
    let p = err_from_is_err_and c.from_residual.result c.from_residual.ensures.1 in
    rw (p.1, p.2) (λ whole old values at.
    goes_stop whole old c.args.bits.now.items c.put_coefficient.new.bits.items (coefficient_text codes c.args.zeros c.args.value) (ac_text codes 0 values) c.in_err-put_coefficient.field-0.0
    (subst (λ (t : Text). HasPutPrefix whole old c.args.bits.now.items t) (ac_value codes c.args.zeros c.args.value values (not_zero_is c.args.value c.if-value-eq0.false)) at)
    (subst (λ (v : ℤ). IsWritten (Err c.in_err-put_coefficient.field-0.0) c.args.bits.now.items c.put_coefficient.new.bits.items (coefficient_text codes c.args.zeros v)) (to_z-of_z w32 c.args.value c.ranges.value) c.in_err-put_coefficient.ensures))

pub returns-clause-ok : goal.returns-clause-ok
returns-clause-ok c = λ whole old values at.
    let codes = c.args.codes.now in
    goes_more whole old c.args.bits.now.items c.put_coefficient.new.bits.items (coefficient_text codes c.args.zeros c.args.value) (ac_text codes 0 values) tt
    (subst (λ (t : Text). HasPutPrefix whole old c.args.bits.now.items t) (ac_value codes c.args.zeros c.args.value values (not_zero_is c.args.value c.if-value-eq0.false)) at)
    (subst (λ (v : ℤ). IsWritten (Ok tt) c.args.bits.now.items c.put_coefficient.new.bits.items (coefficient_text codes c.args.zeros v)) (to_z-of_z w32 c.args.value c.ranges.value) c.in_ok-put_coefficient.ensures)
