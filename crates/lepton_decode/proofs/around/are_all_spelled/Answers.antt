use Rattle.std.proofs.Common.{true, false, ◌∙◌, sym, ap₂}
use Rattle.scan_spec.specs.Pads.{PadBits, is_spelled}
use Rattle.handover.specs.declared.pads.PadSum.{PadSum}
use Rattle.lepton_decode.proofs.PadsLooked.{spelled_next}
use Rattle.lepton_decode.proofs.around.are_all_spelled.Goals as goal

pub returns-then-not-is_spelled : goal.returns-then-not-is_spelled
returns-then-not-is_spelled c =
    let told = ap₂ (λ (p : PadBits) (s : PadSum). is_spelled p s) (sym c.pad.ensures.value) (sym c.sum_in.ensures)
    ∙ sym c.is_spelled.ensures ∙ c.if-not-is_spelled.true in
    sym (spelled_next c.args.view.now c.loop-scan.scan c.scan-part.result c.args.pads.now false c.scan-part.ensures told)
    ∙ c.loop-scan.invariant

pub loop-scan-preserved : goal.loop-scan-preserved
loop-scan-preserved c =
    let told = ap₂ (λ (p : PadBits) (s : PadSum). is_spelled p s) (sym c.pad.ensures.value) (sym c.sum_in.ensures)
    ∙ sym c.is_spelled.ensures ∙ c.if-not-is_spelled.false in
    sym (spelled_next c.args.view.now c.loop-scan.scan c.scan-part.result c.args.pads.now true c.scan-part.ensures told)
    ∙ c.loop-scan.invariant
