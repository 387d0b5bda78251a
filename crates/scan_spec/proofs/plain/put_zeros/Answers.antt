use Rattle.std.proofs.Common.{◌≡◌, ◌<◌, ◌+◌, ◌-◌, ◌∙◌, ap, subst, arith}
use Rattle.std.proofs.lemmas.Result.{err_from_is_err_and}
use Rattle.scan_spec.specs.BlockBits.{Text, then_text, word_text, zeros_text}
use Rattle.scan_spec.specs.PlainWriting.{HasPutPrefix}
use Rattle.scan_spec.proofs.Texts.{goes_more, goes_stop, goes_end}
use Rattle.scan_spec.proofs.Words.{zeros_none, zeros_more}
use Rattle.scan_spec.proofs.plain.put_zeros.Goals as goal

pub returns-in_err-put_word : goal.returns-in_err-put_word
returns-in_err-put_word c =
    let codes = c.args.codes.now in
    let left = c.args.sixteens - c.loop.counter in
    let some : 0 < left = omega (arith, c.loop-test.true) in
    let at = subst (λ (t : Text). HasPutPrefix (zeros_text codes c.args.sixteens) c.args.bits.now.items c.loop.bits.items t) (zeros_more codes left some) c.loop.invariant in
    let p = err_from_is_err_and c.from_residual.result c.from_residual.ensures.1 in
    rw (p.1, p.2) (goes_stop (zeros_text codes c.args.sixteens) c.args.bits.now.items c.loop.bits.items c.put_word.new.bits.items (word_text codes 240) (zeros_text codes (left - 1)) c.in_err-put_word.field-0.0 at c.in_err-put_word.ensures)

pub loop-preserved : goal.loop-preserved
loop-preserved c =
    let codes = c.args.codes.now in
    let left = c.args.sixteens - c.loop.counter in
    let some : 0 < left = omega (arith, c.loop-test.true) in
    let next : left - 1 ≡ c.args.sixteens - (c.loop.counter + 1) = omega arith in
    let at = subst (λ (t : Text). HasPutPrefix (zeros_text codes c.args.sixteens) c.args.bits.now.items c.loop.bits.items t) (zeros_more codes left some ∙ ap (λ n. then_text (word_text codes 240) (zeros_text codes n)) next) c.loop.invariant in
    goes_more (zeros_text codes c.args.sixteens) c.args.bits.now.items c.loop.bits.items c.put_word.new.bits.items (word_text codes 240) (zeros_text codes (c.args.sixteens - (c.loop.counter + 1))) tt at c.in_ok-put_word.ensures

pub returns : goal.returns
returns c =
    let codes = c.args.codes.now in
    let none : c.args.sixteens - c.loop.counter ≡ 0 = omega (arith, c.loop-test.false) in
    let at = subst (λ (t : Text). HasPutPrefix (zeros_text codes c.args.sixteens) c.args.bits.now.items c.loop.bits.items t) (ap (zeros_text codes) none ∙ zeros_none codes) c.loop.invariant in
    goes_end (zeros_text codes c.args.sixteens) c.args.bits.now.items c.loop.bits.items tt at
