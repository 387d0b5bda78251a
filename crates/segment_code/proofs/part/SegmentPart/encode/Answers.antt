use Rattle.std.proofs.Common.{◌≡◌, List, ap, ◌∙◌, sym, subst}
use Rattle.std.specs.Prelude.{IfOk}
use Rattle.std.specs.List.{AllByRecursion}
use Rattle.std.proofs.lemmas.Result.{IfOk-weaker}
use Rattle.coef_block.specs.Block.{IsBlock}
use Rattle.scan_spec.specs.Scans.{Mcu}
use Rattle.scan_spec.specs.ScanLaws.{zigzag_of}
use Rattle.container_spec.specs.ScanStream.{stream_of}
use Rattle.segment_code.specs.CodedMcus.{AreReadOn, next_of}
use Rattle.segment_code.specs.ScanPasses.{IsPartStream, PartFields, part_reader}
use Rattle.segment_code.proofs.SegmentsCoded.{not_refused, part_reads, part_streams}
use Rattle.segment_code.proofs.part.SegmentPart.encode.Goals as goal

pub returns-clause-stream : goal.returns-clause-stream
returns-clause-stream c =
    let part = c.args.self.now in
    let from = c.at-reader.ensures ∙ ap part_reader c.self.view_is in
    let coded = subst (λ (p : PartFields). IfOk c.code.result (λ stream.
    (all : List Mcu) × AllByRecursion (AllByRecursion IsBlock) all
    × AreReadOn p.mcus c.at-reader.result c.code.new.reader (zigzag_of all)
    × (stream.items ≡ stream_of p.plan all))) c.self.view_is c.code.ensures.coded in
    IfOk-weaker c.code.result _ (λ stream. IsPartStream part stream.items)
    (λ stream so. part_streams part c.at-reader.result c.code.new.reader so.0 stream.items
    c.requires.bytes from so.1 so.2 so.3) coded

pub returns-clause-refused : goal.returns-clause-refused
returns-clause-refused c = λ refusal is mcus pads trailer to file of_file.
    let part = c.args.self.now in
    let from = c.at-reader.ensures ∙ ap part_reader c.self.view_is in
    let read = part_reads part mcus pads trailer to c.requires.bytes file of_file
    c.at-reader.result from in
    not_refused part.mcus c.at-reader.result _ read.0 refusal read.1
    (ap (λ (p : PartFields). next_of p.mcus c.at-reader.result) (sym c.self.view_is)
    ∙ c.code.ensures.refused refusal is)
