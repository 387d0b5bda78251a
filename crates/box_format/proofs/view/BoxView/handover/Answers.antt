use Rattle.std.proofs.Common.{◌<◌, ℕ, List, length, get_or, sym, ap, ◌∙◌, arith}
use Rattle.scan_spec.specs.Slots.{shape_of}
use Rattle.handover.specs.Handovers.{start}
use Rattle.handover.specs.HandoverBytes.{handover_in, is_handover}
use Rattle.box_format.specs.Parts.{box_cut, BoxSeen}
use Rattle.box_format.specs.Raws.{handover_from}
use Rattle.box_format.specs.Slices.{handovers_in, place_among}
use Rattle.box_format.proofs.Sliced.{room_low}
use Rattle.box_format.proofs.RawParts.{starts_soundly}
use Rattle.box_format.proofs.Sliced.{handover_sliced, handovers_long, record_among}
use Rattle.box_format.proofs.view.BoxView.handover.Goals as goal

pub record_at-requires : goal.record_at-requires
record_at-requires c =
    let i = c.self.inside in
    let count = sym (ap (λ (s : BoxSeen). length s.parts.handovers) c.self.view_is)
    ∙ handovers_long i.version i.segments i.records.now in
    let below : c.args.segment < i.segments = let h = c.requires in omega (arith, h, count) in
    let room = record_among i.version c.args.segment i.segments below in
    let low = room_low i.version in
    let each = c.self.invariant.whole.each in
    let place = c.place_among-place.ensures.value in
    omega (arith, room, low, each, place)

pub returns-in-Some : goal.returns-in-Some
returns-in-Some c =
    let i = c.self.inside in
    let count = sym (ap (λ (s : BoxSeen). length s.parts.handovers) c.self.view_is)
    ∙ handovers_long i.version i.segments i.records.now in
    let below : c.args.segment < i.segments = let h = c.requires in omega (arith, h, count) in
    c.in-Some.ensures.some ∙ ap handover_in c.record_at.ensures
    ∙ ap (handover_from i.records.now) c.place_among-place.ensures.value
    ∙ sym (handover_sliced i.version i.segments i.records.now c.args.segment start below)
    ∙ ap (λ (s : BoxSeen). get_or s.parts.handovers c.args.segment start) c.self.view_is

pub returns-in-None : goal.returns-in-None
returns-in-None c =
    let i = c.self.inside in
    let count = sym (ap (λ (s : BoxSeen). length s.parts.handovers) c.self.view_is)
    ∙ handovers_long i.version i.segments i.records.now in
    let below : c.args.segment < i.segments = let h = c.requires in omega (arith, h, count) in
    let all = handovers_in i.version i.segments i.records.now in
    let sound = starts_soundly (shape_of i.plan) (box_cut i.plan i.chunk (length all))
    (λ k. handover_from i.records.now (place_among i.version k)) c.args.segment i.segments
    c.self.invariant.scan.1.starts below in
    absurd (c.in-None.ensures.none
    (ap (λ (l : List ℕ). is_handover (handover_in l)) c.record_at.ensures
    ∙ ap (λ (k : ℕ). is_handover (handover_from i.records.now k)) c.place_among-place.ensures.value
    ∙ sound))
