use Rattle.segment_code.proofs.ScanDecoders.{running_there, plans_kept, scan_pays}
use Rattle.segment_code.proofs.file_decoder.step_in.Goals as goal

pub returns-clause-pays : goal.returns-clause-pays
returns-clause-pays c = λ bytes outcome owes.
    let was = running_there c.args.decoders.now.items c.from.result c.args.scan
    c.index_mut-decoder.result.now c.from.ensures c.requires.running
    c.index_mut-decoder.ensures.value in
    scan_pays c.step.result bytes outcome c.step.new.out c.args.decoders.now.items c.from.result
    c.args.scan c.index_mut-decoder.result.now c.step.new.self c.from.ensures was
    c.step.ensures.pays owes

pub returns-clause-plans : goal.returns-clause-plans
returns-clause-plans c =
    let was = running_there c.args.decoders.now.items c.from.result c.args.scan
    c.index_mut-decoder.result.now c.from.ensures c.requires.running
    c.index_mut-decoder.ensures.value in
    plans_kept c.args.decoders.now.items c.from.result c.index_mut-decoder.result.now
    c.step.new.self was c.step.ensures.plan
