use Rattle.std.proofs.Common.{subst}
use Rattle.segment_code.specs.ScanPasses.{IsNoPart, IsPartStream, PartFields}
use Rattle.segment_code.proofs.pass.ScanPass.pass_over.Goals as goal

pub returns-clause-stream : goal.returns-clause-stream
returns-clause-stream c = λ stream. λ its.
    c.next-next.ensures.stream stream (subst (λ (p : PartFields). IsPartStream p stream)
    c.in_ok-prepare.ensures.part its)

pub returns-clause-none : goal.returns-clause-none
returns-clause-none c = λ none.
    c.next-next.ensures.refused (subst IsNoPart c.in_ok-prepare.ensures.part none)
