use Rattle.std.proofs.Common.{arith}
use Rattle.box_format.specs.Fields.{raws_as}
use Rattle.box_format.proofs.FilesViewed.{count_is, segments_end, segments_next}
use Rattle.box_format.proofs.files.FileView.segments.Goals as goal

pub scan-requires : goal.scan-requires
scan-requires c =
    let i = c.self.inside in
    let few = c.self.invariant.few in
    let room = c.self.invariant.room in
    let count = count_is i.plans.items (raws_as i.version i.bytes.now) c.args.self.now i.count c.self.invariant.passed
    c.self.view_is (omega (arith, few, room)) in
    omega (arith, count)

pub loop-scan-preserved : goal.loop-scan-preserved
loop-scan-preserved c =
    let next = segments_next c.args.self.now c.loop-scan.scan c.scan.result c.scan.ensures in
    let before = c.loop-scan.invariant in
    let here = c.segments-count.ensures.count in
    omega (arith, next, before, here)

pub returns-clause-count : goal.returns-clause-count
returns-clause-count c =
    let i = c.self.inside in
    let few = c.self.invariant.few in
    let room = c.self.invariant.room in
    let count = count_is i.plans.items (raws_as i.version i.bytes.now) c.args.self.now i.count c.self.invariant.passed
    c.self.view_is (omega (arith, few, room)) in
    let past = c.loop-scan-test.false in
    let end = segments_end c.args.self.now c.loop-scan.scan (omega (arith, count, past)) in
    let before = c.loop-scan.invariant in
    omega (arith, end, before)
