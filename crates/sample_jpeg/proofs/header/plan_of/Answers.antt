use Rattle.sample_jpeg.proofs.PlansRead.{never_refused, plan_read}
use Rattle.sample_jpeg.proofs.header.plan_of.Goals as goal

pub unreachable-requires : goal.unreachable-requires
unreachable-requires c =
    never_refused c.args.header.now _ c.requires.0 c.requires.1 c.requires.2 c.in-Err.ensures.refused

pub returns : goal.returns
returns c = λ e is same. plan_read c.args.header.now _ e is same c.in-Ok.ensures.accepted
