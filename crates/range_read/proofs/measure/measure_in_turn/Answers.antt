use Rattle.std.proofs.Common.{rules, ◌+◌, ◌<◌, ◌≤◌, ◌∙◌, ℕ, length, ap, arith}
use Rattle.box_format.specs.Parts.{BoxSeen}
use Rattle.range_read.proofs.MeasuredSegments.{none_measured, good_measured, bad_measured, all_measured}
use Rattle.range_read.proofs.measure.measure_in_turn.Goals as goal

pub loop-segment-init : goal.loop-segment-init
loop-segment-init c = record {
  plans = search rules;
  begun = search rules;
  so_far = none_measured c.args.scan.now c.in_ok-measures.measures.items c.in_ok-measures.ensures.items;
}

pub returns-in-Bad : goal.returns-in-Bad
returns-in-Bad c =
    let v = c.args.scan.now in
    let test = c.loop-segment-test.true in
    let count = c.segments-segments.ensures.count in
    let same = ap (λ (b : BoxSeen). length b.parts.handovers) c.view.ensures in
    let below : c.loop-segment.segment < length v.parts.handovers = omega (arith, test, count, same) in
    bad_measured v c.loop-segment.segment c.loop-segment.measures.items c.keep.new.list.items
    c.measure_one-measure.result below c.loop-segment.invariant.so_far
    c.measure_one-measure.ensures.measured c.in_ok-keep.ensures.items c.in-Bad.field-0 c.in-Bad.is

pub loop-segment-preserved : goal.loop-segment-preserved
loop-segment-preserved c =
    let v = c.args.scan.now in
    let test = c.loop-segment-test.true in
    let count = c.segments-segments.ensures.count in
    let same = ap (λ (b : BoxSeen). length b.parts.handovers) c.view.ensures in
    let below : c.loop-segment.segment < length v.parts.handovers = omega (arith, test, count, same) in
    record {
      plans = c.measure_one-measure.ensures.plans ∙ c.loop-segment.invariant.plans;
      begun = c.measure_one-measure.ensures.begun ∙ ap (λ (n : ℕ). n + 1) c.loop-segment.invariant.begun;
      so_far = good_measured v c.loop-segment.segment c.loop-segment.measures.items c.keep.new.list.items
          c.measure_one-measure.result below c.loop-segment.invariant.so_far
          c.measure_one-measure.ensures.measured c.in_ok-keep.ensures.items c.in-Good.pads c.in-Good.is;
    }

pub returns : goal.returns
returns c =
    let v = c.args.scan.now in
    let test = c.loop-segment-test.false in
    let count = c.segments-segments.ensures.count in
    let same = ap (λ (b : BoxSeen). length b.parts.handovers) c.view.ensures in
    let past : length v.parts.handovers ≤ c.loop-segment.segment = omega (arith, test, count, same) in
    all_measured v c.loop-segment.segment c.loop-segment.measures.items past c.loop-segment.invariant.so_far
