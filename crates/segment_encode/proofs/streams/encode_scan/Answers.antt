use Rattle.std.proofs.Common.{arith}
use Rattle.segment_encode.proofs.StreamsPassed.{all_passed}
use Rattle.segment_encode.proofs.streams.encode_scan.Goals as goal

pub returns-clause-streams : goal.returns-clause-streams
returns-clause-streams g c =
    all_passed c.in_ok-pass.pass c.make_all.new.pass c.args.plan.now c.args.bytes.now
    c.args.segments _ (rw c.read_ahead.ensures at c.in_ok-streams.ensures.made) c.in_ok-pass.ensures.plan
    c.in_ok-pass.ensures.bytes c.in_ok-pass.ensures.most c.in_ok-pass.ensures.none

pub make_all-requires-clause-most : goal.make_all-requires-clause-most
make_all-requires-clause-most g c =
    let each = c.in_a_lane-each.ensures.most in
    let left = c.left.ensures in
    rw c.read_ahead.ensures (omega (arith, each, left))
