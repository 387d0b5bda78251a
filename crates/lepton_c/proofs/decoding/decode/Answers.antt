use Rattle.std.proofs.Common.{List, ℕ, ap, subst, sym}
use Rattle.outside_core.specs.Memory.{Store}
use Rattle.container_spec.specs.Portions.{scans_meaning}
use Rattle.lepton_c.specs.Writes.{Decodes}
use Rattle.lepton_c.proofs.Written.{decodes}
use Rattle.lepton_c.proofs.decoding.decode.Goals as goal

pub returns : goal.returns
returns c =
    let scans = c.in-Ok.ready.scans in
    c.finish.ensures c.args.bytes.now scans c.in-Ok.ensures.ready
    (subst (λ (l : List ℕ). Decodes l (scans_meaning scans) c.run_alone-ended.result)
    (sym c.bytes.ensures)
    (decodes c.in-Ok-new.sink c.run_alone-ended.new.sink (scans_meaning scans) c.run_alone-ended.result
    (ap (λ (s : Store). s.held) c.in-Ok-new.ensures) c.run_alone-ended.ensures.ends))
