use Rattle.std.proofs.Common.{◌≡◌, ◌+◌, subst}
use Rattle.std.proofs.lemmas.Result.{IfOk-weaker}
use Rattle.cut_spec.specs.Cuts.{first_mcu}
use Rattle.cut_spec.specs.RowHandovers.{mcus_between}
use Rattle.box_format.specs.Parts.{box_cut}
use Rattle.container_spec.specs.ScanStream.{stream_of}
use Rattle.segment_code.specs.ScanPasses.{IsNoPart, IsPartStream, PartFields}
use Rattle.segment_code.proofs.segment_stream.ready_segment.Goals as goal

pub returns-clause-stream : goal.returns-clause-stream
returns-clause-stream c = λ mcus pads stream file are.
    let plan = c.args.plan.now in
    let cut = box_cut plan c.args.chunk c.args.count in
    IfOk-weaker c.prepare.result _ (λ ready. IsPartStream ready.part stream → stream ≡ stream_of plan
    (mcus_between mcus (first_mcu cut c.args.segment) (first_mcu cut (c.args.segment + 1))))
    (λ ready is its. c.segment_part-part.ensures.stream mcus pads stream file are
    (subst (λ (p : PartFields). IsPartStream p stream) is its)) c.prepare.ensures.part

pub returns-clause-refused : goal.returns-clause-refused
returns-clause-refused c =
    IfOk-weaker c.prepare.result _ (λ ready. IsNoPart ready.part → ⊥)
    (λ ready is none. c.segment_part-part.ensures.refused (subst IsNoPart is none))
    c.prepare.ensures.part
