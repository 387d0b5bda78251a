use Rattle.segment_encode.proofs.StreamsPassed.{all_passed}
use Rattle.segment_encode.proofs.alone.encode_scan_alone.Goals as goal

pub returns-clause-streams : goal.returns-clause-streams
returns-clause-streams c =
    all_passed c.in_ok-pass.pass c.code_rest.new.pass c.args.plan.now c.args.bytes.now
    c.args.segments _ c.in_ok-streams.ensures.made c.in_ok-pass.ensures.plan
    c.in_ok-pass.ensures.bytes c.in_ok-pass.ensures.most c.in_ok-pass.ensures.none
