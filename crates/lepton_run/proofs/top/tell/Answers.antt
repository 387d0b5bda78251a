use Rattle.std.proofs.Common.{◌∙◌}
use Rattle.lepton_run.proofs.LinesNoted.{notes_of}
use Rattle.lepton_run.proofs.top.tell.Goals as goal

pub returns-clause-notes : goal.returns-clause-notes
returns-clause-notes g c =
    let text = c.bytes.ensures ∙ c.line-line.ensures in
    let whole = c.write_all.ensures.whole in
    let part = c.write_all.ensures.part in
    rw (← text) (notes_of g.N.Sink.held g.N.Sink.faults g.N.Sink.full c.args.note.now
    c.write_all.new.sink c.bytes.result.now c.write_all.result whole part
    c.write_all.ensures.failed)
