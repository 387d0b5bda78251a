use Rattle.std.proofs.Common.{ℕ, sym, ap, ◌∙◌}
use Rattle.scan_spec.specs.Slots.{shape_of}
use Rattle.box_format.specs.Parts.{box_cut, can_start}
use Rattle.box_format.specs.Raws.{handover_from}
use Rattle.box_format.specs.Slices.{place_among}
use Rattle.box_format.proofs.FirstBad.{bad_here, bad_later}
use Rattle.box_format.proofs.starts.first_bad_segment.Goals as goal

pub returns-then-not-can_start_at-clause-value : goal.returns-then-not-can_start_at-clause-value
returns-then-not-can_start_at-clause-value c =
    let shape = shape_of c.args.plan.now in
    let records = c.args.records.now in
    let at : ℕ → ℕ = place_among c.args.version in
    sym (bad_here shape (box_cut c.args.plan.now c.args.chunk c.args.segments)
    (λ i. handover_from records (at i)) c.loop-i.i c.args.segments c.loop-i-test.true
    (ap (λ (count : ℕ). can_start shape count (handover_from records (at c.loop-i.i)))
    (sym c.first_mcu-count.ensures)
    ∙ ap (λ (place : ℕ). can_start shape c.first_mcu-count.result (handover_from records place))
    (sym c.place_among.ensures.value)
    ∙ sym c.can_start_at.ensures ∙ c.if-not-can_start_at.true))
    ∙ c.loop-i.invariant

pub loop-i-preserved : goal.loop-i-preserved
loop-i-preserved c =
    let shape = shape_of c.args.plan.now in
    let records = c.args.records.now in
    let at : ℕ → ℕ = place_among c.args.version in
    sym (bad_later shape (box_cut c.args.plan.now c.args.chunk c.args.segments)
    (λ i. handover_from records (at i)) c.loop-i.i c.args.segments c.loop-i-test.true
    (ap (λ (count : ℕ). can_start shape count (handover_from records (at c.loop-i.i)))
    (sym c.first_mcu-count.ensures)
    ∙ ap (λ (place : ℕ). can_start shape c.first_mcu-count.result (handover_from records place))
    (sym c.place_among.ensures.value)
    ∙ sym c.can_start_at.ensures ∙ c.if-not-can_start_at.false))
    ∙ c.loop-i.invariant
