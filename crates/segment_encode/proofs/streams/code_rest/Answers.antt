use Rattle.std.proofs.Common.{◌≡◌, ◌∷◌, [], ◌+◌, map, ap, ◌∙◌, sym, subst, arith}
use Rattle.jpeg_marker.specs.Plans.{PlanFields}
use Rattle.segment_code.specs.ReadyParts.{IsEncoderFor}
use Rattle.segment_encode.proofs.StreamsMade.{mapped_on}
use Rattle.std.specs.Prelude.{Err}
use Rattle.std.proofs.lemmas.Result.{err_from_is_err_and}
use Rattle.segment_code.specs.declared.error.ScanError.{ScanError}
use Rattle.segment_code.specs.declared.error.ScanError.TheVariants.{Scan}
use Rattle.segment_encode.proofs.StreamsPassed.{AreSoFar, all_coded, one_more, passed_more, plan_on, refuses_on}
use Rattle.segment_encode.proofs.streams.code_rest.Goals as goal

-- the plan stays
pub encode-requires-clause-encoder : goal.encode-requires-clause-encoder
encode-requires-clause-encoder c =
    let on = c.loop.invariant.on in
    subst (λ (plan : PlanFields). IsEncoderFor plan c.loop.encoder)
    (sym (plan_on c.loop.counter c.args.pass.now c.loop.pass on)) c.loop.invariant.encoder

pub loop-preserved : goal.loop-preserved
loop-preserved c =
    let before = c.loop.invariant in
    let old = c.args.pass.now in
    let so = one_more c.loop.counter old c.loop.pass (map (λ v. v.items) c.loop.streams.items)
    c.in_ok-stream.stream.items before.on before.streams c.in_ok-stream.ensures.stream in
    record {
      on = passed_more c.loop.counter old c.loop.pass c.encode.new.self before.on
          c.in_ok-stream.ensures.passed;
      encoder = subst (IsEncoderFor old.plan) (sym c.in_ok-stream.ensures.encoder) before.encoder;
      streams = subst (AreSoFar (c.loop.counter + 1) old)
          (sym (ap (map (λ v. v.items)) c.in_ok-push.ensures.items
          ∙ mapped_on (λ v. v.items) c.loop.streams.items (c.in_ok-stream.stream ∷ []))) so;
    }

pub returns-clause-made : goal.returns-clause-made
returns-clause-made c =
    let counted = c.loop-test.false in
    let within = c.loop.auto.counter-end in
    let left = c.left-count.ensures in
    all_coded c.loop.counter c.args.pass.now c.loop.pass (map (λ v. v.items) c.loop.streams.items)
    c.loop.invariant.on (omega (arith, counted, within, left)) c.loop.invariant.streams

-- a refusal after some segments is the scan's
pub returns-in_err-stream-clause-refused : goal.returns-in_err-stream-clause-refused
returns-in_err-stream-clause-refused c =
    let on = c.loop.invariant.on in
    let p = err_from_is_err_and c.from_residual-in_err-stream.result c.from_residual-in_err-stream.ensures.1 in
    rw (p.1, p.2) (λ refusal is.
    let error : c.in_err-stream.field-0.0 ≡ Scan refusal = cc in
    refuses_on c.loop.counter c.args.pass.now c.loop.pass refusal on
    (c.in_err-stream.ensures.refused refusal (ap (λ (e : ScanError). Err e) error)))
