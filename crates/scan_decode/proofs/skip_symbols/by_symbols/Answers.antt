use Rattle.std.proofs.Common.{ℕ, List, Bool, sym, subst, ◌∙◌, arith}
use Rattle.std.proofs.lemmas.Result.{err_from_is_err_and}
use Rattle.scan_decode.specs.SkipWords.{IsSkipped}
use Rattle.scan_decode.proofs.SkipReading.{none_loose}
use Rattle.scan_decode.proofs.skip_symbols.by_symbols.Goals as goal

pub returns-in_err-at-2-clause-err : goal.returns-in_err-at-2-clause-err
returns-in_err-at-2-clause-err c =
    let l = c.loop-at in
    let p = err_from_is_err_and c.from_residual-in_err-at-2.result c.from_residual-in_err-at-2.ensures.1 in
    rw (p.1, p.2) (λ whole gone.
    c.in_err-at-2.ensures.err whole (subst (λ (bytes : List ℕ). IsSkipped whole c.args.codes.now bytes l.at.index l.at.loose l.input.cursor) (sym l.invariant.bytes) (l.invariant.going whole gone)))

pub loop-at-preserved : goal.loop-at-preserved
loop-at-preserved c =
    let l = c.loop-at in
    let i = l.invariant in
    let at = c.in_ok-at-2.at in
    record {
      some = let more = c.in_ok-at-2.ensures.more in let s = i.some in omega (arith, more, s);
      within = c.in_ok-at-2.ensures.some.1;
      bytes = c.go_on-in-loop-at.ensures.bytes ∙ i.bytes;
      going = λ whole gone.
          let before = subst (λ (bytes : List ℕ). IsSkipped whole c.args.codes.now bytes l.at.index l.at.loose l.input.cursor) (sym i.bytes) (i.going whole gone) in
          subst (λ (bytes : List ℕ). IsSkipped whole c.args.codes.now bytes at.index at.loose c.go_on-in-loop-at.new.input.cursor) i.bytes (c.in_ok-at-2.ensures.ok whole before);
    }

pub returns-else-at-lt64-clause-ok : goal.returns-else-at-lt64-clause-ok
returns-else-at-lt64-clause-ok c = λ whole gone.
    let l = c.loop-at in
    none_loose whole c.args.codes.now c.args.input.now.bytes l.at.index l.at.loose l.input.cursor (let past = c.if-at-lt64.false in omega (arith, past)) (l.invariant.going whole gone)

pub returns-after-loop-at-clause-ok : goal.returns-after-loop-at-clause-ok
returns-after-loop-at-clause-ok c = λ whole gone.
    let l = c.loop-at in
    subst (λ (t : Bool). IsSkipped whole c.args.codes.now c.args.input.now.bytes l.at.index t l.input.cursor) c.loop-at-test.false (l.invariant.going whole gone)
