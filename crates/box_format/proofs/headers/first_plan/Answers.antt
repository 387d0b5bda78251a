use Rattle.std.proofs.Common.{rules, length, ap, inr, arith}
use Rattle.std.proofs.lemmas.Bool.{lt-ltb}
use Rattle.handover.proofs.FieldBytes.{all_of}
use Rattle.jpeg_marker.specs.FirstWalks.{opening_walk}
use Rattle.jpeg_marker.proofs.HeadersTaken.{none_known}
use Rattle.box_format.specs.declared.refusal.BoxRefusal.TheVariants.{HeaderLong}
use Rattle.box_format.proofs.HeadersRead.{one_plan}
use Rattle.box_format.proofs.headers.first_plan.Goals as goal

pub returns-then-place-header-clause-failed : goal.returns-then-place-header-clause-failed
returns-then-place-header-clause-failed c =
    let is = c.header_length-place.ensures in
    let short = c.if-place-header.true in
    inr (
      c.in-Ok.plan,
      c.in-Ok.ensures.accepted,
      lt-ltb c.in-Ok.plan.header_length (length c.args.header.now) (omega (arith, is, short)),
      ap (λ n. HeaderLong n) is,
    )

pub returns-clause-passed : goal.returns-clause-passed
returns-clause-passed c =
    let is = c.header_length-place.ensures in
    let past = c.if-place-header.false in
    one_plan opening_walk c.args.header.now c.in-Ok.plan
    (all_of c.args.header.now (λ i. let h = c.type_inv.header i in search rules)) none_known
    c.in-Ok.ensures.accepted (omega (arith, is, past))
