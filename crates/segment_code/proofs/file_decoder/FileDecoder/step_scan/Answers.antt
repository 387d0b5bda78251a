use Rattle.std.proofs.Common.{sym, ap, subst, ◌∙◌}
use Rattle.segment_code.specs.FileDecoding.{FileDecoderSeen, FileOwes, FilePays, file_seen}
use Rattle.segment_code.specs.declared.step.Step.{Step}
use Rattle.segment_code.proofs.FileSteps.{file_pays}
use Rattle.segment_code.proofs.file_decoder.FileDecoder.step_scan.Goals as goal

pub returns-clause-pays : goal.returns-clause-pays
returns-clause-pays c = λ bytes outcome.
    let inside = c.self.inside in
    let none = ap (λ (d : FileDecoderSeen). d.lead) c.self.view_is ∙ c.requires.none in
    let new : FileDecoderSeen = file_seen c.step_in-step.new.decoders.items inside.begun inside.scan
    inside.number inside.lead.now in
    subst (λ (old : FileDecoderSeen). FileOwes old bytes outcome
    → FilePays c.with_number.result bytes outcome c.step_in-step.new.out old new) c.self.view_is
    (λ owes. subst (λ (step : Step). FilePays step bytes outcome c.step_in-step.new.out
    (file_seen inside.decoders.items inside.begun inside.scan inside.number inside.lead.now) new)
    (sym c.with_number.ensures)
    (file_pays c.step_in-step.result bytes outcome c.step_in-step.new.out inside.decoders.items
    c.step_in-step.new.decoders.items inside.begun inside.scan inside.number inside.lead.now none owes
    (c.step_in-step.ensures.pays owes.rest owes.ending owes.owes)))
