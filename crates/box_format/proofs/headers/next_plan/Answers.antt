use Rattle.std.proofs.Common.{rules, arith}
use Rattle.handover.proofs.FieldBytes.{all_of}
use Rattle.jpeg_marker.specs.Walks.{next_walk}
use Rattle.box_format.proofs.HeadersRead.{one_plan}
use Rattle.box_format.proofs.headers.next_plan.Goals as goal

pub returns-clause-passed : goal.returns-clause-passed
returns-clause-passed c =
    let is = c.header_length-place.ensures in
    let past = c.if-place-header.false in
    one_plan (next_walk c.args.before.now.known 0) c.args.header.now c.in-Ok.plan
    (all_of c.args.header.now (λ i. let h = c.type_inv.header i in search rules)) c.requires
    c.in-Ok.ensures.accepted (omega (arith, is, past))
