use Rattle.std.proofs.Common.{ap, Err}
use Rattle.box_format.specs.declared.error.ReadError.{ReadError}
use Rattle.lepton_run.proofs.SamplesCoded.{box_is_taken, decoded_whole, never_fails}
use Rattle.lepton_run.proofs.sample_command.restored.Goals as goal

pub unreachable-requires : goal.unreachable-requires
unreachable-requires g c =
    box_is_taken c.args.made.now c.args.file.now c.in-Err-Box.field-0-0 c.requires.container
    (c.in-Err-Box.ensures.refused c.in-Err-Box.field-0-0
    (ap (λ (error : ReadError). Err error) c.in-Err-Box.field-0-is))

pub unreachable-requires-in-Err : goal.unreachable-requires-in-Err
unreachable-requires-in-Err g c =
    never_fails _ _ c.new-sink.result _ c.args.made.now c.args.file.now c.in-Ok.ready.scans
    c.requires.container c.in-Ok.ensures.ready c.run.result c.in-Err.field-0
    c.in-Err.is c.run.ensures.ends

pub returns : goal.returns
returns g c =
    decoded_whole _ _ _ _ c.new-sink.result _ c.args.made.now c.args.file.now c.in-Ok.ready.scans
    c.requires.container c.in-Ok.ensures.ready c.run.result
    c.in-Ok-run.restored c.in-Ok-run.is c.run.ensures.ends
