use Rattle.box_format.proofs.HeadersRead.{HaveRead}
use Rattle.box_format.proofs.headers.read_plans.Given as goal

abbrev pub invariant-loop-scan : goal.invariant-loop-scan
invariant-loop-scan l = HaveRead l.version l.bytes l.scan l.plan l.plans.items
