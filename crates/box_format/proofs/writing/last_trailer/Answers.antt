use Rattle.box_format.proofs.GivenScans.{last_given}
use Rattle.box_format.proofs.writing.last_trailer.Goals as goal

pub returns-in-Some : goal.returns-in-Some
returns-in-Some c = last_given c.args.version c.args.scans.now c.in-Some.scan.now c.requires c.in-Some.ensures.item.1
