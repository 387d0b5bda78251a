use Rattle.std.proofs.Common.{rules, ◌≡◌, length, ◌∙◌, ap, arith}
use Rattle.scan_spec.specs.ScanCalls.{reader_at}
use Rattle.scan_spec.specs.Slots.{shape_of}
use Rattle.segment_code.specs.FileStarts.{StartsFields}
use Rattle.segment_code.proofs.PassesOn.{first_pass}
use Rattle.segment_code.proofs.ScansCoded.{bytes_all}
use Rattle.segment_code.proofs.pass.ScanPass.start.Goals as goal

pub returns-clause-is : goal.returns-clause-is
returns-clause-is c =
    let reader = c.start.ensures
    ∙ ap (reader_at (shape_of c.args.plan.now) c.args.bytes.now) c.header_length.ensures in
    first_pass c.args.plan.now c.args.codes.now c.args.bytes.now c.args.most c.start.result
    c.none.result c.none-2.result (bytes_all c.args.bytes.now
    (λ i. let h = c.type_inv.bytes i in search rules)) c.requires.plan c.requires.codes
    c.requires.some c.ranges.most.fits reader c.none.ensures c.none-2.ensures

pub returns-clause-some : goal.returns-clause-some
returns-clause-some c =
    let high = c.requires.plan.is_plan.high in
    let none : length c.none.result.rows ≡ 0 =
    ap (λ (s : StartsFields). length s.rows) c.none.ensures in
    let some = c.requires.some in
    omega (arith, high, none, some)
