use Rattle.std.proofs.Common.{◌∙◌, arith, refl, sym}
use Rattle.std.proofs.lemmas.Result.{err_from_is_err_and}
use Rattle.segment_code.proofs.PiecesFilled.{stands_here, filled_on, filled_badly}
use Rattle.segment_code.proofs.decoder.SegmentDecoder.fill.Goals as goal

pub loop-self-preserved : goal.loop-self-preserved
loop-self-preserved c =
    let on = sym c.goes_on.ensures.value ∙ c.loop-self-test.true in
    let some = c.loop-self-test.ensures.left refl in
    let less = c.in_ok-next_mcu.ensures.left in
    let most = c.loop-self.invariant.most in
    record {
      filled = λ s most at is.
          let begun = c.loop-self.invariant.filled s most at is in
          filled_on s most at c.loop-self.out c.next_mcu.new.out c.loop-self.self
          c.next_mcu.new.self begun on some
          (c.in_ok-next_mcu.ensures.made s begun.now
          (stands_here s most at c.loop-self.out c.loop-self.self begun));
      most = omega (arith, less, most);
      fewer = λ some. omega (arith, less, most);
      given = c.next_mcu.ensures.given ∙ c.loop-self.invariant.given;
      number = c.next_mcu.ensures.number ∙ c.loop-self.invariant.number;
      begun = c.next_mcu.ensures.begun ∙ c.loop-self.invariant.begun;
      plan = c.next_mcu.ensures.plan ∙ c.loop-self.invariant.plan;
    }

pub returns-in_err-next_mcu-clause-filled : goal.returns-in_err-next_mcu-clause-filled
returns-in_err-next_mcu-clause-filled c = λ s most at is.
    let p = err_from_is_err_and c.from_residual.result c.from_residual.ensures.1 in
    let on = sym c.goes_on.ensures.value ∙ c.loop-self-test.true in
    let some = c.loop-self-test.ensures.left refl in
    let begun = c.loop-self.invariant.filled s most at is in
    rw (p.1, p.2)
    (filled_badly s most at c.loop-self.out c.next_mcu.new.out c.loop-self.self c.next_mcu.new.self
    begun on some c.in_err-next_mcu.field-0.0
    (c.in_err-next_mcu.ensures.made s begun.now
    (stands_here s most at c.loop-self.out c.loop-self.self begun)))
