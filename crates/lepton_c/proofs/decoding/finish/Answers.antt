use Rattle.std.proofs.Common.{Err, ap, subst, ◌∙◌}
use Rattle.container_spec.specs.Portions.{scans_meaning}
use Rattle.lepton_decode.specs.declared.error.DecodeError.{DecodeError}
use Rattle.lepton_c.specs.Gives.{DecodeGives}
use Rattle.lepton_c.specs.Writes.{Decodes}
use Rattle.lepton_c.proofs.Copied.{copied, filled}
use Rattle.lepton_c.proofs.decoding.finish.Goals as goal

pub returns-in-Ok : goal.returns-in-Ok
returns-in-Ok c = λ bytes scans of wrote.
    let m = scans_meaning scans in
    let w = subst (Decodes c.args.held.now m) (c.in-Ok.is) wrote in
    copied (DecodeGives bytes c.args.out.now c.copy.new.out) c.args.held.now c.args.out.now
    c.copy.new.out m.bytes _ c.copy.result w.1 c.copy.ensures.whole c.copy.ensures.part
    (λ all. (scans, of, w.0, all)) (λ n first. (scans, of, first))

pub returns-in-Err-Fault : goal.returns-in-Err-Fault
returns-in-Err-Fault c = λ bytes scans of wrote.
    let m = scans_meaning scans in
    let w = subst (Decodes c.args.held.now m) (c.in-Err-Fault.is ∙ ap (λ (error : DecodeError). Err error) c.in-Err-Fault.field-0-is) wrote in
    copied (DecodeGives bytes c.args.out.now c.copy-in-Err-Fault.new.out) c.args.held.now c.args.out.now
    c.copy-in-Err-Fault.new.out m.bytes _ c.copy-in-Err-Fault.result w.1 c.copy-in-Err-Fault.ensures.whole c.copy-in-Err-Fault.ensures.part
    (λ all. (scans, of, w.0, all)) (λ n first. (scans, of, first))

pub returns-in-Err-PadSpelling : goal.returns-in-Err-PadSpelling
returns-in-Err-PadSpelling c = λ bytes scans of wrote.
    let m = scans_meaning scans in
    let w = subst (Decodes c.args.held.now m) (c.in-Err-PadSpelling.is ∙ ap (λ (error : DecodeError). Err error) c.in-Err-PadSpelling.field-0-is) wrote in
    copied (DecodeGives bytes c.args.out.now c.copy-in-Err-PadSpelling.new.out) c.args.held.now c.args.out.now
    c.copy-in-Err-PadSpelling.new.out m.bytes _ c.copy-in-Err-PadSpelling.result w.1 c.copy-in-Err-PadSpelling.ensures.whole c.copy-in-Err-PadSpelling.ensures.part
    (λ all. (scans, of, w.0, all)) (λ n first. (scans, of, first))

pub returns-in-Err-ChunkShort : goal.returns-in-Err-ChunkShort
returns-in-Err-ChunkShort c = λ bytes scans of wrote.
    let m = scans_meaning scans in
    let w = subst (Decodes c.args.held.now m) (c.in-Err-ChunkShort.is ∙ ap (λ (error : DecodeError). Err error) c.in-Err-ChunkShort.field-0-is) wrote in
    copied (DecodeGives bytes c.args.out.now c.copy-in-Err-ChunkShort.new.out) c.args.held.now c.args.out.now
    c.copy-in-Err-ChunkShort.new.out m.bytes _ c.copy-in-Err-ChunkShort.result w.1 c.copy-in-Err-ChunkShort.ensures.whole c.copy-in-Err-ChunkShort.ensures.part
    (λ all. (scans, of, w.0, all)) (λ n first. (scans, of, first))

pub returns-in-Err-WriteFault : goal.returns-in-Err-WriteFault
returns-in-Err-WriteFault c = λ bytes scans of wrote.
    let m = scans_meaning scans in
    let w = subst (Decodes c.args.held.now m)
    (c.in-Err-WriteFault.is ∙ ap (λ (error : DecodeError). Err error) c.in-Err-WriteFault.field-0-is) wrote in
    filled (DecodeGives bytes c.args.out.now c.fill.new.out) c.args.held.now c.args.out.now
    c.fill.new.out m.bytes _ c.fill.result w c.fill.ensures.full c.fill.ensures.none (λ same. same)
    (λ n first. (scans, of, first))
