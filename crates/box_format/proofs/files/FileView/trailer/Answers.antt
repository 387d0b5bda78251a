use Rattle.std.proofs.Common.{List, ◌∙◌, ◌-◌, arith, subst}
use Rattle.box_format.specs.Parts.{BoxSeen}
use Rattle.box_format.specs.Containers.{IsContainerIn}
use Rattle.jpeg_marker.specs.FirstWalks.{opening_walk}
use Rattle.box_format.specs.Fields.{raws_as}
use Rattle.box_format.proofs.FilesViewed.{count_is, last_trailer}
use Rattle.box_format.proofs.files.FileView.trailer.Goals as goal

pub scan-last-requires : goal.scan-last-requires
scan-last-requires c =
    let i = c.self.inside in
    let few = c.self.invariant.few in
    let some = c.self.invariant.some in
    let room = c.self.invariant.room in
    let count = count_is i.plans.items (raws_as i.version i.bytes.now) c.args.self.now i.count c.self.invariant.passed
    c.self.view_is (omega (arith, few, room)) in
    omega (arith, count, some)

pub returns-clause-bytes : goal.returns-clause-bytes
returns-clause-bytes c =
    let i = c.self.inside in
    let few = c.self.invariant.few in
    let some = c.self.invariant.some in
    let room = c.self.invariant.room in
    let count = count_is i.plans.items (raws_as i.version i.bytes.now) c.args.self.now i.count c.self.invariant.passed
    c.self.view_is (omega (arith, few, room)) in
    c.trailer.ensures.bytes
    ∙ last_trailer opening_walk c.args.self.now (i.count - 1) c.scan-last.result
    (subst (λ (scans : List BoxSeen). IsContainerIn i.version scans i.bytes.now) c.self.view_is
    c.self.invariant.is).are.each c.scan-last.ensures (omega (arith, count, some))
