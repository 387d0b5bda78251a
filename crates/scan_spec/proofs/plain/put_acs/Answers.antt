use Rattle.std.proofs.Common.{◌≡◌, ◌≤◌, ◌+◌, ◌-◌, ◌∷◌, List, ℤ, drop, sym, ap, ◌∙◌, subst, arith}
use Rattle.std.proofs.lemmas.Result.{err_from_is_err_and}
use Rattle.scan_spec.specs.BlockBits.{Text, ac_text, ac_values, word_text}
use Rattle.scan_spec.specs.PlainWriting.{HasPutPrefix}
use Rattle.scan_spec.proofs.SignedValues.{widened}
use Rattle.scan_spec.proofs.Texts.{goes_end, goes_last}
use Rattle.scan_spec.proofs.Words.{ac_next, no_more, ac_full, ac_end, small_value}
use Rattle.scan_spec.proofs.plain.put_acs.Goals as goal

pub returns-in_err-zeros : goal.returns-in_err-zeros
returns-in_err-zeros c =
    let codes = c.args.codes.now in
    let block = c.args.block.now in
    let l = c.loop-index in
    let whole = ac_text codes 0 (ac_values block) in
    let rest = drop l.index (ac_values block) in
    let below : l.index ≤ 63 = omega (arith, c.loop-index-test.true) in
    let value = widened c.get-value.result c.from.result (small_value c.natural_position.result c.get-value.result (c.natural_position.ensures.later (omega arith)) c.get-value.ensures.coefficient) c.from.ensures in
    let next = ac_next block l.index c.natural_position.result c.get-value.result l.auto.index (omega arith) c.natural_position.ensures.position c.get-value.ensures.value ∙ ap (λ v. v ∷ rest) (sym value) in
    let at = subst (λ (vs : List ℤ). HasPutPrefix whole c.args.bits.now.items l.bits.items (ac_text codes l.zeros vs)) next l.invariant.goes in
    let p = err_from_is_err_and c.from_residual.result c.from_residual.ensures.1 in
    rw (p.1, p.2) (c.in_err-zeros.ensures.err whole c.args.bits.now.items rest at)

pub loop-index-preserved : goal.loop-index-preserved
loop-index-preserved c =
    let codes = c.args.codes.now in
    let block = c.args.block.now in
    let l = c.loop-index in
    let whole = ac_text codes 0 (ac_values block) in
    let rest = drop l.index (ac_values block) in
    let below : l.index ≤ 63 = omega (arith, c.loop-index-test.true) in
    let value = widened c.get-value.result c.from.result (small_value c.natural_position.result c.get-value.result (c.natural_position.ensures.later (omega arith)) c.get-value.ensures.coefficient) c.from.ensures in
    let next = ac_next block l.index c.natural_position.result c.get-value.result l.auto.index (omega arith) c.natural_position.ensures.position c.get-value.ensures.value ∙ ap (λ v. v ∷ rest) (sym value) in
    let at = subst (λ (vs : List ℤ). HasPutPrefix whole c.args.bits.now.items l.bits.items (ac_text codes l.zeros vs)) next l.invariant.goes in
    let one : l.index ≡ l.index + 1 - 1 = omega arith in
    record {
      few = omega (arith, c.in_ok-zeros.ensures.few, l.invariant.few, l.auto.index);
      goes = subst (λ n. HasPutPrefix whole c.args.bits.now.items c.put_next.new.bits.items (ac_text codes c.in_ok-zeros.zeros (drop n (ac_values block)))) one (c.in_ok-zeros.ensures.ok whole c.args.bits.now.items rest at);
    }

pub returns-then-zeros-eq0 : goal.returns-then-zeros-eq0
returns-then-zeros-eq0 c =
    let codes = c.args.codes.now in
    let l = c.loop-index in
    let whole = ac_text codes 0 (ac_values c.args.block.now) in
    let left = ap (ac_text codes l.zeros) (no_more c.args.block.now l.index c.loop-index-test.false) ∙ ac_full codes l.zeros c.if-zeros-eq0.true in
    goes_end whole c.args.bits.now.items l.bits.items tt (subst (λ (t : Text). HasPutPrefix whole c.args.bits.now.items l.bits.items t) left l.invariant.goes)

pub returns : goal.returns
returns c =
    let codes = c.args.codes.now in
    let l = c.loop-index in
    let whole = ac_text codes 0 (ac_values c.args.block.now) in
    let left = ap (ac_text codes l.zeros) (no_more c.args.block.now l.index c.loop-index-test.false) ∙ ac_end codes l.zeros c.if-zeros-eq0.false in
    goes_last whole c.args.bits.now.items l.bits.items c.put_word.new.bits.items (word_text codes 0) c.put_word.result (subst (λ (t : Text). HasPutPrefix whole c.args.bits.now.items l.bits.items t) left l.invariant.goes) c.put_word.ensures
