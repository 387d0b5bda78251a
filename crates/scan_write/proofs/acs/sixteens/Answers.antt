use Rattle.std.proofs.Common.{◌≡◌, ◌<◌, ◌+◌, ◌-◌, ◌∙◌, ap, subst, arith}
use Rattle.std.proofs.lemmas.Result.{err_from_is_err_and}
use Rattle.scan_spec.specs.BlockBits.{Text, then_text, word_text, zeros_text}
use Rattle.scan_spec.proofs.Words.{zeros_none, zeros_more}
use Rattle.scan_write.specs.Outputs.{output_with}
use Rattle.scan_write.specs.Appending.{HasAppended}
use Rattle.scan_write.proofs.AppendedTexts.{texts_more, texts_stop, texts_end}
use Rattle.scan_write.proofs.acs.sixteens.Goals as goal

pub returns-in_err-word-clause-is : goal.returns-in_err-word-clause-is
returns-in_err-word-clause-is c =
    let codes = c.args.codes.now in
    let left = c.args.count - c.loop.counter in
    let some : 0 < left = omega (arith, c.loop-test.true) in
    let whole = zeros_text codes c.args.count in
    let old = output_with c.args.output.now c.args.out.now in
    let now = output_with c.loop.output c.loop.out in
    let at = subst (λ (t : Text). HasAppended whole old now t) (zeros_more codes left some) c.loop.invariant.going in
    let p = err_from_is_err_and c.from_residual.result c.from_residual.ensures.1 in
    rw (p.1, p.2) (texts_stop whole old now (output_with c.word.new.output c.word.new.out) (word_text codes 240) (zeros_text codes (left - 1)) c.in_err-word.field-0.0 at c.in_err-word.ensures.is)

pub loop-preserved : goal.loop-preserved
loop-preserved c =
    let codes = c.args.codes.now in
    let left = c.args.count - c.loop.counter in
    let some : 0 < left = omega (arith, c.loop-test.true) in
    let next : left - 1 ≡ c.args.count - (c.loop.counter + 1) = omega arith in
    let whole = zeros_text codes c.args.count in
    let old = output_with c.args.output.now c.args.out.now in
    let now = output_with c.loop.output c.loop.out in
    let at = subst (λ (t : Text). HasAppended whole old now t) (zeros_more codes left some ∙ ap (λ n. then_text (word_text codes 240) (zeros_text codes n)) next) c.loop.invariant.going in
    record {
      spent = omega (arith, c.word.ensures.spent, c.loop.invariant.spent);
      going = texts_more whole old now (output_with c.word.new.output c.word.new.out) (word_text codes 240) (zeros_text codes (c.args.count - (c.loop.counter + 1))) at c.in_ok-word.ensures.is;
    }

pub returns-clause-is : goal.returns-clause-is
returns-clause-is c =
    let codes = c.args.codes.now in
    let none : c.args.count - c.loop.counter ≡ 0 = omega (arith, c.loop-test.false) in
    let whole = zeros_text codes c.args.count in
    let old = output_with c.args.output.now c.args.out.now in
    let now = output_with c.loop.output c.loop.out in
    let at = subst (λ (t : Text). HasAppended whole old now t) (ap (zeros_text codes) none ∙ zeros_none codes) c.loop.invariant.going in
    texts_end whole old now at
