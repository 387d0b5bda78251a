use Rattle.std.proofs.Common.{◌∷◌, ◌++◌, ◌≤◌, [], List, take, sym, ap, ◌∙◌, arith}
use Rattle.std.proofs.lemmas.List.{map-append, take_more}
use Rattle.std.proofs.lemmas.List.Elements.{All-push}
use Rattle.jpeg_marker.specs.Plans.{PlanFields}
use Rattle.segment_code.specs.Decoding.{DecoderSeen}
use Rattle.segment_code.proofs.file_decoder.decoders_of.Goals as goal

pub loop-plan-preserved : goal.loop-plan-preserved
loop-plan-preserved c =
    let items = c.in_ok-push.ensures.items in
    let plans = c.loop-plan.invariant.plans in
    let plan = c.in_ok-prepare.ensures.plan in
    let item = c.plan-item.is in
    let under = c.loop-plan-test.true in
    record {
      plans = rw items
          (map-append (λ (d : DecoderSeen). d.plan) c.loop-plan.decoders.items
          (c.in_ok-prepare.field-0 ∷ [])
          ∙ ap (λ (ps : List PlanFields). ps ++ c.in_ok-prepare.field-0.plan ∷ []) plans
          ∙ ap (λ (p : PlanFields). take c.loop-plan.plan-index c.args.plans.now ++ p ∷ [])
          (plan ∙ item)
          ∙ sym (take_more c.args.plans.now c.loop-plan.plan-index c.plan-item.result under));
      begun = rw items (All-push (λ (d : DecoderSeen). d.begun ≤ 0) c.loop-plan.decoders.items
          c.in_ok-prepare.field-0 c.loop-plan.invariant.begun (omega (arith, c.in_ok-prepare.ensures.begun)));
    }
