use Rattle.std.proofs.Common.{rules, vec_len, ◌≡◌, ◌+◌, ◌<◌, ◌≤◌, ◌∙◌, ℕ, List, length, min, subst, sym, ap, arith}
use Rattle.std.specs.Prelude.{All, slice_index_or}
use Rattle.std.proofs.lemmas.List.{with_items_is}
use Rattle.box_format.specs.Parts.{BoxSeen}
use Rattle.range_read.specs.Lanes.{AreMeasuredUpTo, IsLane, IsMeasuredAt}
use Rattle.range_read.specs.declared.lanes.Lane.{Lane}
use Rattle.range_read.proofs.MeasuredSegments.{none_measured, all_measured, lanes_after}
use Rattle.range_read.proofs.measure.measure_all.Goals as goal

pub loop-first-init : goal.loop-first-init
loop-first-init g c =
    let v = c.args.scan.now in
    let z : 0 ≡ min 0 (length v.parts.handovers) = omega arith in
    record {
      lanes = c.in_ok-lanes.ensures.new;
      count = c.in_ok-lanes.ensures.count;
      so_far = subst (λ (n : ℕ). AreMeasuredUpTo v n c.in_ok-measures.measures.items) z
          (none_measured v c.in_ok-measures.measures.items c.in_ok-measures.ensures.items);
    }

pub put_wave-requires : goal.put_wave-requires
put_wave-requires g c =
    let v = c.args.scan.now in
    let first = c.loop-first.first in
    let test = c.loop-first-test.true in
    let count = c.segments-segments.ensures.count in
    let same = ap (λ (b : BoxSeen). length b.parts.handovers) c.view.ensures in
    let below : first < length v.parts.handovers = omega (arith, test, count, same) in
    let at : min first (length v.parts.handovers) ≡ first = omega (arith, below) in
    let long : length c.perform_all.new.tasks ≡ vec_len c.loop-first.lanes = search rules in
    let after : c.as_slice.result.now ≡ c.perform_all.new.tasks =
    c.as_slice.ensures.value ∙ with_items_is c.loop-first.lanes c.perform_all.new.tasks long in
    record {
      before = subst (λ (n : ℕ). AreMeasuredUpTo v n c.loop-first.measures.items) at
          c.loop-first.invariant.so_far;
      measured = subst (λ (l : List Lane). (i : ℕ) (lane : Lane) → i < length l
          → IsMeasuredAt v (first + i) (slice_index_or l i lane)) (sym after)
          (λ i lane inside.
          let long = c.perform_all.ensures.count in
          (c.perform_all.ensures.done i lane (omega (arith, inside, long))).measured);
      first = below;
    }

pub loop-first-preserved : goal.loop-first-preserved
loop-first-preserved g c =
    let v = c.args.scan.now in
    let first = c.loop-first.first in
    let next = c.saturating_add-first.result in
    let test = c.loop-first-test.true in
    let segments = c.segments-segments.ensures.count in
    let same = ap (λ (b : BoxSeen). length b.parts.handovers) c.view.ensures in
    let most = c.segments-segments.type_inv in
    let sum = c.saturating_add-first.ensures in
    let later : first < next = omega (arith, test, most, sum) in
    let long : length c.perform_all.new.tasks ≡ vec_len c.loop-first.lanes = search rules in
    let is = with_items_is c.loop-first.lanes c.perform_all.new.tasks long in
    let before = subst (All (IsLane v first)) (sym c.as_mut_slice.ensures.value) c.loop-first.invariant.lanes in
    let count = c.perform_all.ensures.count ∙ ap length c.as_mut_slice.ensures.value ∙ c.loop-first.invariant.count in
    let shown = ap length (c.as_slice.ensures.value ∙ is) in
    let on : min (first + length c.as_slice.result.now) (length v.parts.handovers)
    ≡ min next (length v.parts.handovers) = omega (arith, test, most, sum, segments, same, count, shown) in
    record {
      lanes = subst (All (IsLane v next)) (sym is)
          (lanes_after v first next c.as_mut_slice.result.now c.perform_all.new.tasks before
          c.perform_all.ensures.count later c.perform_all.ensures.done);
      count = ap length is ∙ count;
      so_far = subst (λ (n : ℕ). AreMeasuredUpTo v n c.put_wave.new.measures.items) on
          (c.in_ok-put_wave.ensures.good c.if-not-branch.false);
    }

pub returns : goal.returns
returns g c =
    let v = c.args.scan.now in
    let test = c.loop-first-test.false in
    let count = c.segments-segments.ensures.count in
    let same = ap (λ (b : BoxSeen). length b.parts.handovers) c.view.ensures in
    let past : length v.parts.handovers ≤ min c.loop-first.first (length v.parts.handovers) =
    omega (arith, test, count, same) in
    all_measured v (min c.loop-first.first (length v.parts.handovers)) c.loop-first.measures.items past
    c.loop-first.invariant.so_far
