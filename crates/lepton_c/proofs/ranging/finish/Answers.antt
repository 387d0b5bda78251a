use Rattle.std.proofs.Common.{Err, ap, subst, ◌∙◌}
use Rattle.container_spec.specs.RangeMeanings.{range_meaning}
use Rattle.segment_worker.specs.declared.emitted.EmitStop.{EmitStop}
use Rattle.lepton_c.specs.Gives.{RangeGives}
use Rattle.lepton_c.specs.Writes.{Reads}
use Rattle.lepton_c.proofs.Copied.{copied, filled}
use Rattle.lepton_c.proofs.ranging.finish.Goals as goal

pub returns-in-Ok : goal.returns-in-Ok
returns-in-Ok c = λ from to bytes plan b of read good wrote.
    let m = range_meaning plan b from to in
    let w = subst (Reads c.args.held.now m) (c.in-Ok.is) wrote in
    copied (RangeGives from to bytes c.args.out.now c.copy.new.out) c.args.held.now c.args.out.now
    c.copy.new.out m.bytes _ c.copy.result w.1 c.copy.ensures.whole c.copy.ensures.part
    (λ all. (plan, b, of, read, good, (w.0, all))) (λ n first. (plan, b, of, read, good, first))

pub returns-in-Err-Fault : goal.returns-in-Err-Fault
returns-in-Err-Fault c = λ from to bytes plan b of read good wrote.
    let m = range_meaning plan b from to in
    let w = subst (Reads c.args.held.now m) (c.in-Err-Fault.is ∙ ap (λ (stop : EmitStop). Err stop) c.in-Err-Fault.field-0-is) wrote in
    copied (RangeGives from to bytes c.args.out.now c.copy-in-Err-Fault.new.out) c.args.held.now c.args.out.now
    c.copy-in-Err-Fault.new.out m.bytes _ c.copy-in-Err-Fault.result w.1 c.copy-in-Err-Fault.ensures.whole c.copy-in-Err-Fault.ensures.part
    (λ all. (plan, b, of, read, good, (w.0, all))) (λ n first. (plan, b, of, read, good, first))

pub returns-in-Err-WriteFault : goal.returns-in-Err-WriteFault
returns-in-Err-WriteFault c = λ from to bytes plan b of read good wrote.
    let m = range_meaning plan b from to in
    let w = subst (Reads c.args.held.now m)
    (c.in-Err-WriteFault.is ∙ ap (λ (stop : EmitStop). Err stop) c.in-Err-WriteFault.field-0-is) wrote in
    filled (RangeGives from to bytes c.args.out.now c.fill.new.out) c.args.held.now c.args.out.now
    c.fill.new.out m.bytes _ c.fill.result w c.fill.ensures.full c.fill.ensures.none (λ same. same)
    (λ n first. (plan, b, of, read, good, first))
