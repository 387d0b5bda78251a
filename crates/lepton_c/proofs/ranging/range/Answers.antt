use Rattle.std.proofs.Common.{List, ℕ, ap, ap₂, subst, sym}
use Rattle.outside_core.specs.Memory.{Store}
use Rattle.container_spec.specs.RangeMeanings.{RangeMeaning, range_meaning}
use Rattle.range_read.specs.RangeEnds.{lone_range_in}
use Rattle.lepton_c.specs.Writes.{Reads}
use Rattle.lepton_c.proofs.Written.{reads}
use Rattle.lepton_c.proofs.ranging.range.Goals as goal

pub returns : goal.returns
returns c =
    let ready = c.in-Ok.ready in
    let ended = c.run_range_alone-ended.result in
    let wrote = reads c.in-Ok-new.sink c.run_range_alone-ended.new.sink (lone_range_in ready) ended
    (ap (λ (s : Store). s.held) c.in-Ok-new.ensures) c.run_range_alone-ended.ensures.ends in
    let there = subst (λ (l : List ℕ). Reads l (lone_range_in ready) ended) (sym c.bytes.ensures) wrote in
    c.finish.ensures c.args.from c.args.to c.args.bytes.now ready.plan ready.parts c.in-Ok.ensures.ready
    c.in-Ok.ensures.version c.in-Ok.ensures.good
    (subst (λ (m : RangeMeaning). Reads c.bytes.result.now m ended)
    (ap₂ (range_meaning ready.plan ready.parts) c.in-Ok.ensures.from c.in-Ok.ensures.to) there)
