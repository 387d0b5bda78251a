use Rattle.std.proofs.Common.{◌≡◌, ◌++◌, [], ◌∷◌, ap, ◌∙◌, sym}
use Rattle.std.specs.Prelude.{Bool, true, Option, unwrap_or}
use Rattle.handover.specs.PadSums.{pads_with}
use Rattle.scan_spec.specs.ScanPads.{pad_sum}
use Rattle.scan_spec.specs.Slots.{Shape}
use Rattle.scan_spec.specs.Spots.{is_closed}
use Rattle.segment_code.proofs.PadsOn.{ending_through, within_through}
use Rattle.segment_code.proofs.ReadOn.{keeps}
use Rattle.segment_code.proofs.find.keep_pad.Goals as goal

pub returns-in_ok-push : goal.returns-in_ok-push
returns-in_ok-push c = λ before mcu read same.
    let now = c.args.reader.now in
    let closes : is_closed before.shape now.at.count ≡ c.ends_interval.result =
    ap (λ (s : Shape). is_closed s now.at.count) (sym (keeps before now same).shape)
    ∙ sym c.ends_interval.ensures in
    ending_through before now.at mcu c.args.pads.now c.push.new.self read
    (closes ∙ c.if-ends_interval.true)
    (c.in_ok-push.ensures.bits ∙ ap (λ (p : Option Bool). c.args.pads.now.bits
    ++ unwrap_or p true ∷ []) c.pad.ensures)
    (c.in_ok-push.ensures.sum ∙ ap (λ (p : Option Bool). pads_with c.args.pads.now.sum
    (pad_sum p)) c.pad.ensures)

pub returns-else-ends_interval : goal.returns-else-ends_interval
returns-else-ends_interval c = λ before mcu read same.
    let now = c.args.reader.now in
    let closes : is_closed before.shape now.at.count ≡ c.ends_interval.result =
    ap (λ (s : Shape). is_closed s now.at.count) (sym (keeps before now same).shape)
    ∙ sym c.ends_interval.ensures in
    within_through before now.at mcu c.args.pads.now read (closes ∙ c.if-ends_interval.false)
