use Rattle.std.proofs.Common.{◌≡◌, ◌+◌, ◌<◌, ℕ, length, min, subst, sym, ap, arith}
use Rattle.box_format.specs.Parts.{BoxSeen}
use Rattle.range_read.specs.Lanes.{AreMeasuredUpTo, IsMeasuredAt}
use Rattle.range_read.specs.declared.lanes.Lane.{Lane}
use Rattle.range_read.proofs.MeasuredSegments.{good_measured, bad_measured}
use Rattle.range_read.proofs.lanes.put_wave.Goals as goal

pub loop-i-init : goal.loop-i-init
loop-i-init c =
    let z : c.args.wave.now.first ≡ c.args.wave.now.first + 0 = omega arith in
    subst (λ (n : ℕ). AreMeasuredUpTo c.args.wave.now.scan.now n c.args.measures.now.items) z
    c.requires.before

pub returns-in-Bad-clause-bad : goal.returns-in-Bad-clause-bad
returns-in-Bad-clause-bad c =
    let v = c.args.wave.now.scan.now in
    let segment = c.args.wave.now.first + c.loop-i.i in
    let lane = c.index-lanes-i.result in
    let test = c.loop-i-test.true in
    let end = c.min-i-end.ensures in
    let left = c.from-left.ensures in
    let count = c.segments.ensures.count in
    let same = ap (λ (b : BoxSeen). length b.parts.handovers) c.view.ensures in
    let inside : c.loop-i.i < length c.args.lanes.now = omega (arith, test, end) in
    let below : segment < length v.parts.handovers = omega (arith, test, end, left, count, same) in
    let measured : IsMeasuredAt v segment lane =
    subst (λ (l : Lane). IsMeasuredAt v segment l) (sym c.index-lanes-i.is)
    (c.requires.measured c.loop-i.i lane inside) in
    λ _. bad_measured v segment c.loop-i.measures.items c.push.new.list.items lane.measure below
    c.loop-i.invariant (measured below) c.in_ok-push.ensures.items c.in-Bad.field-0 c.in-Bad.is

pub loop-i-preserved : goal.loop-i-preserved
loop-i-preserved c =
    let v = c.args.wave.now.scan.now in
    let segment = c.args.wave.now.first + c.loop-i.i in
    let lane = c.index-lanes-i.result in
    let test = c.loop-i-test.true in
    let end = c.min-i-end.ensures in
    let left = c.from-left.ensures in
    let count = c.segments.ensures.count in
    let same = ap (λ (b : BoxSeen). length b.parts.handovers) c.view.ensures in
    let inside : c.loop-i.i < length c.args.lanes.now = omega (arith, test, end) in
    let below : segment < length v.parts.handovers = omega (arith, test, end, left, count, same) in
    let measured : IsMeasuredAt v segment lane =
    subst (λ (l : Lane). IsMeasuredAt v segment l) (sym c.index-lanes-i.is)
    (c.requires.measured c.loop-i.i lane inside) in
    let more : segment + 1 ≡ c.args.wave.now.first + (c.loop-i.i + 1) = omega arith in
    subst (λ (n : ℕ). AreMeasuredUpTo v n c.push.new.list.items) more
    (good_measured v segment c.loop-i.measures.items c.push.new.list.items lane.measure below
    c.loop-i.invariant (measured below)
    c.in_ok-push.ensures.items c.in-Good.pads c.in-Good.is)

pub returns-clause-good : goal.returns-clause-good
returns-clause-good c =
    let test = c.loop-i-test.false in
    let most = c.loop-i.auto.i-end in
    let end = c.min-i-end.ensures in
    let left = c.from-left.ensures in
    let count = c.segments.ensures.count in
    let first = c.requires.first in
    let handovers = ap (λ (b : BoxSeen). length b.parts.handovers) c.view.ensures in
    let same : c.args.wave.now.first + c.loop-i.i
    ≡ min (c.args.wave.now.first + length c.args.lanes.now) (length c.args.wave.now.scan.now.parts.handovers) =
    omega (arith, test, most, end, left, count, first, handovers) in
    λ _. subst (λ (n : ℕ). AreMeasuredUpTo c.args.wave.now.scan.now n c.loop-i.measures.items) same
    c.loop-i.invariant
