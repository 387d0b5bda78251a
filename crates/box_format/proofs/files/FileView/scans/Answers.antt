use Rattle.std.proofs.Common.{List, arith, subst}
use Rattle.box_format.specs.Parts.{BoxSeen}
use Rattle.box_format.specs.Containers.{IsContainerIn}
use Rattle.box_format.specs.Fields.{raws_as}
use Rattle.box_format.proofs.FilesViewed.{count_is}
use Rattle.box_format.proofs.files.FileView.scans.Goals as goal

pub returns-clause-count : goal.returns-clause-count
returns-clause-count c =
    let i = c.self.inside in
    let few = c.self.invariant.few in
    let room = c.self.invariant.room in
    count_is i.plans.items (raws_as i.version i.bytes.now) c.args.self.now i.count c.self.invariant.passed c.self.view_is
    (omega (arith, few, room))

pub returns-clause-sound : goal.returns-clause-sound
returns-clause-sound c =
    let i = c.self.inside in (
      i.bytes.now,
      (
        i.version,
        subst (λ (scans : List BoxSeen). IsContainerIn i.version scans i.bytes.now) c.self.view_is
            c.self.invariant.is,
      ),
    )
