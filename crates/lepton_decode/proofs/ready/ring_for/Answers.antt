use Rattle.std.proofs.Common.{arith}
use Rattle.lepton_decode.proofs.RingSizes.{all_rings}
use Rattle.lepton_decode.proofs.ready.ring_for.Goals as goal

pub returns-clause-all : goal.returns-clause-all
returns-clause-all c =
    let twice = c.saturating_mul.ensures in
    let kept = c.clamp.ensures in
    all_rings c.clamp.result c.args.length c.args.segments (omega (arith, twice, kept))

pub returns-clause-share : goal.returns-clause-share
returns-clause-share c =
    let twice = c.saturating_mul.ensures in
    let kept = c.clamp.ensures in omega (arith, twice, kept)
