use Rattle.std.proofs.Common.{arith}
use Rattle.box_format.specs.Versions.{most_segments}
use Rattle.segment_worker.specs.Contents.{stretch}
use Rattle.segment_worker.proofs.ContentsTold.{are_short, scans_are}
use Rattle.segment_worker.proofs.Emissions.{few_joined}
use Rattle.segment_worker.proofs.lengths.segments_are_short.Goals as goal

pub returns-clause-short : goal.returns-clause-short
returns-clause-short c = λ first count within.
    are_short (stretch c.args.view.now first count)
    (scans_are c.args.view.now c.scans-scans.ensures.sound.0 c.scans-scans.ensures.sound.1)

pub returns-clause-joined : goal.returns-clause-joined
returns-clause-joined c = λ first count within.
    let v = stretch c.args.view.now first count in
    let few = c.segments-segments.ensures.few in
    let count = c.segments-segments.ensures.count in
    few_joined v most_segments
    (are_short v (scans_are c.args.view.now c.scans-scans.ensures.sound.0 c.scans-scans.ensures.sound.1)) (omega (arith, within, few, count))
