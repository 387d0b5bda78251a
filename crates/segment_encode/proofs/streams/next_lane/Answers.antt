use Rattle.std.proofs.Common.{sym, ap, subst, ◌∙◌, arith}
use Rattle.segment_code.specs.ScanPasses.{PartFields}
use Rattle.segment_encode.specs.StreamsFound.{ArePassed}
use Rattle.segment_encode.proofs.PartsKept.{more_planned, more_ready, one_longer}
use Rattle.segment_encode.proofs.StreamsPassed.{passed_more, plan_on, ready_more}
use Rattle.segment_encode.proofs.streams.next_lane.Goals as goal

pub loop-preserved : goal.loop-preserved
loop-preserved c =
    let before = c.loop.invariant in
    let old = c.args.pass.now in
    let mid = c.loop.pass in
    let rs = c.loop.parts.items in
    let next = c.push.new.list.items in
    let r = c.in_ok-part.part in
    let kept = c.in_ok-push.ensures.items in
    let longer = one_longer rs next r kept in
    let was = before.long in
    record {
      on = passed_more c.loop.counter old mid c.pass_over.new.self before.on c.in_ok-part.ensures.passed;
      ready = more_ready rs next r before.ready c.in_ok-part.ensures.ready kept;
      plan = more_planned old.plan rs next r before.plan
          (ap (λ (p : PartFields). p.plan) c.in_ok-part.ensures.part
          ∙ plan_on c.loop.counter old mid before.on) kept;
      long = omega (arith, longer, was);
      passed = ready_more c.loop.counter old mid rs next r before.on before.passed was kept
          c.in_ok-part.ensures.stream c.in_ok-part.ensures.none;
    }

pub returns-clause-parts : goal.returns-clause-parts
returns-clause-parts c =
    subst (ArePassed c.args.pass.now) (sym c.in_ok-prepare.ensures.parts) c.loop.invariant.passed
