use Rattle.std.proofs.Common.{◌≡◌, ℕ, true, ap, subst, ◌∙◌}
use Rattle.scan_spec.specs.Pads.{is_long_for, pads_given}
use Rattle.scan_spec.specs.Slots.{shape_of}
use Rattle.jpeg_marker.specs.Plans.{PlanFields}
use Rattle.handover.specs.Handovers.{HandoverFields}
use Rattle.container_spec.specs.Meanings.{segment_in}
use Rattle.container_spec.specs.Segments.{SegmentFields, first_progress, rest_output, with_place}
use Rattle.segment_code.specs.Decoding.{StandsAt}
use Rattle.segment_code.proofs.BoxSegments.{IsCounted, box_suits, counted_in, rows_ordered, rows_in_grid, some_mcus, within_rows, starts_there, same_segment}
use Rattle.segment_code.proofs.decoder.SegmentDecoder.begin.Goals as goal

-- the segment that is begun
is_counted : (c : goal.After-pad) → IsCounted c.args.self.now.plan c.args.view.now.parts c.args.segment c.row_of-row.result c.mcus_in-count.result
is_counted c =
    counted_in c.args.self.now.plan c.args.view.now.plan c.plan-plan.result.now c.args.view.now.parts
    c.chunk-chunk.result c.segments-segments.result c.args.segment c.row_of-row.result
    c.mcus_in-count.result
    c.plan-plan.ensures.value c.requires.plan c.chunk-chunk.ensures c.segments-segments.ensures.count c.plan-plan.ensures.sound
    c.requires.segment c.row_of-row.ensures.value c.mcus_in-count.ensures.value
    c.mcus_in-count.ensures.within

pub row_of-row-requires-clause-order : goal.row_of-row-requires-clause-order
row_of-row-requires-clause-order c =
    rows_ordered c.args.view.now.plan c.plan-plan.result.now c.args.view.now.parts
    c.chunk-chunk.result c.plan-plan.ensures.value c.chunk-chunk.ensures c.plan-plan.ensures.sound

pub row_of-row-requires-clause-grid : goal.row_of-row-requires-clause-grid
row_of-row-requires-clause-grid c =
    rows_in_grid c.args.view.now.plan c.plan-plan.result.now c.args.view.now.parts
    c.chunk-chunk.result c.plan-plan.ensures.value c.chunk-chunk.ensures c.plan-plan.ensures.sound

pub begin_at-requires-clause-suits : goal.begin_at-requires-clause-suits
begin_at-requires-clause-suits c =
    let is = is_counted c in box_suits c.args.self.now.plan c.args.view.now.parts is.box

pub begin_at-requires-clause-row : goal.begin_at-requires-clause-row
begin_at-requires-clause-row c =
    within_rows c.args.self.now.plan c.args.view.now.parts c.args.segment c.row_of-row.result
    c.mcus_in-count.result (is_counted c)

pub begin_at-requires-clause-restarts : goal.begin_at-requires-clause-restarts
begin_at-requires-clause-restarts c =
    ap (λ (h : HandoverFields). h.restarts) c.handover-handover.ensures
    ∙ starts_there c.args.self.now.plan c.args.view.now.parts c.args.segment c.row_of-row.result
    c.mcus_in-count.result (is_counted c)

pub begin_at-requires-clause-some : goal.begin_at-requires-clause-some
begin_at-requires-clause-some c =
    some_mcus c.args.self.now.plan c.args.view.now.parts c.args.segment c.row_of-row.result
    c.mcus_in-count.result (is_counted c)

pub begin_at-requires-clause-pads : goal.begin_at-requires-clause-pads
begin_at-requires-clause-pads c =
    subst (λ (plan : PlanFields). is_long_for (shape_of plan) (pads_given c.pad.result) ≡ true)
    c.requires.plan c.pad.ensures.long

pub returns-clause-stands : goal.returns-clause-stands
returns-clause-stands c =
    let is =
    counted_in c.args.self.now.plan c.args.view.now.plan c.plan-plan.result.now c.args.view.now.parts
    c.chunk-chunk.result c.segments-segments.result c.args.segment c.row_of-row.result
    c.mcus_in-count.result
    c.plan-plan.ensures.value c.requires.plan c.chunk-chunk.ensures c.segments-segments.ensures.count c.plan-plan.ensures.sound
    c.requires.segment c.row_of-row.ensures.value c.mcus_in-count.ensures.value
    c.mcus_in-count.ensures.within in
    subst (λ (s : SegmentFields). StandsAt c.begin_at.new.self s s.count (first_progress s))
    (same_segment c.args.self.now.plan c.args.view.now.parts c.args.segment c.row_of-row.result
    c.mcus_in-count.result is c.stream-stream.result.now c.handover-handover.result
    c.start_after-next.result c.kept_in-kept.result (pads_given c.pad.result) c.stream-stream.ensures
    c.handover-handover.ensures c.start_after-next.ensures c.kept_in-kept.ensures c.pad.ensures.value)
    c.begin_at.ensures.stands

pub returns-clause-owes : goal.returns-clause-owes
returns-clause-owes c =
    let s = segment_in c.args.self.now.plan c.args.view.now.parts c.args.segment in
    record {
      segment = s;
      left = s.count;
      at = first_progress s;
      stands = returns-clause-stands c;
      rest = ap (λ (given : ℕ). with_place s given (rest_output s.count s (first_progress s)))
          c.begin_at.ensures.given;
    }
