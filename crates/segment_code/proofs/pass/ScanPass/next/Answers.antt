use Rattle.std.proofs.Common.{sym, subst}
use Rattle.segment_code.specs.ScanPasses.{IsPart}
use Rattle.segment_code.proofs.PassesOn.{next_is_part, no_file_of, stream_of_part}
use Rattle.segment_code.proofs.pass.ScanPass.next.Goals as goal

pub returns-clause-part : goal.returns-clause-part
returns-clause-part c = subst IsPart (sym c.part.ensures)
    (next_is_part c.args.self.now c.requires.pass c.requires.some)

pub returns-clause-stream : goal.returns-clause-stream
returns-clause-stream c = stream_of_part c.args.self.now c.part.result c.part.ensures
    c.requires.pass c.requires.some

pub returns-clause-refused : goal.returns-clause-refused
returns-clause-refused c = no_file_of c.args.self.now c.part.result c.part.ensures
    c.requires.pass c.requires.some
