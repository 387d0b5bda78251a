use Rattle.std.proofs.Common.{ap, arith, Err}
use Rattle.lepton_encode.specs.declared.error.EncodeError.{EncodeError}
use Rattle.container_spec.specs.ScansFiles.{Header, Scan}
use Rattle.lepton_run.proofs.SamplesCoded.{sample_fits, sample_has_one, sample_is_taken}
use Rattle.lepton_run.proofs.sample_command.encoded.Goals as goal

pub encode-requires-clause-length : goal.encode-requires-clause-length
encode-requires-clause-length g c κs within =
    let few = sample_fits c.args.file.now c.requires in omega (arith, few)

pub unreachable-requires : goal.unreachable-requires
unreachable-requires g c =
    sample_is_taken c.args.file.now (Header c.in-Err-Header.field-0-0) c.requires
    (c.in-Err-Header.ensures.header c.in-Err-Header.field-0-0
    (ap (λ (error : EncodeError). Err error) c.in-Err-Header.field-0-is))

pub unreachable-requires-in-Err-Scan : goal.unreachable-requires-in-Err-Scan
unreachable-requires-in-Err-Scan g c =
    sample_is_taken c.args.file.now (Scan c.in-Err-Scan.field-0-0) c.requires
    (c.in-Err-Scan.ensures.scan c.in-Err-Scan.field-0-0
    (ap (λ (error : EncodeError). Err error) c.in-Err-Scan.field-0-is))

pub returns-in-Ok : goal.returns-in-Ok
returns-in-Ok g c =
    sample_has_one c.args.file.now c.in-Ok.made.items c.requires c.in-Ok.ensures.made
