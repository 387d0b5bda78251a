use Rattle.std.proofs.Common.{◌≡◌, List, ap, ◌∙◌, sym, subst}
use Rattle.std.specs.Prelude.{IfOk}
use Rattle.std.specs.List.{AllByRecursion}
use Rattle.std.proofs.lemmas.Result.{IfOk-weaker}
use Rattle.coef_block.specs.Block.{IsBlock}
use Rattle.scan_spec.specs.Scans.{Mcu}
use Rattle.scan_spec.specs.ScanLaws.{zigzag_of}
use Rattle.container_spec.specs.ScanStream.{stream_of}
use Rattle.segment_code.specs.CodedMcus.{AreReadOn, next_of}
use Rattle.segment_code.specs.ReadyParts.{ReadyFields}
use Rattle.segment_code.specs.declared.ready.ReadyPart.TheInside.{Inside}
use Rattle.segment_code.specs.ScanPasses.{IsPartStream, PartFields}
use Rattle.segment_code.proofs.SegmentsCoded.{not_refused, part_reads, part_streams}
use Rattle.segment_code.proofs.ready.ReadyPart.encode.Goals as goal

pub returns-clause-stream : goal.returns-clause-stream
returns-clause-stream c =
    let part = c.args.self.now.part in
    let reader = c.self-inside.inside.0.1.0 in
    let is = ap (λ (r : Inside). r.part) c.self-inside.view_is ∙ ap (λ (r : ReadyFields). r.part) c.self.view_is in
    let from = ap (λ (r : Inside). r.reader) c.self-inside.view_is
    ∙ ap (λ (r : ReadyFields). r.reader) c.self.view_is ∙ c.requires.ready.reader in
    let coded = subst (λ (p : PartFields). IfOk c.code.result (λ stream.
    (all : List Mcu) × AllByRecursion (AllByRecursion IsBlock) all
    × AreReadOn p.mcus reader c.code.new.reader (zigzag_of all)
    × (stream.items ≡ stream_of p.plan all))) is c.code.ensures.coded in
    IfOk-weaker c.code.result _ (λ stream. IsPartStream part stream.items)
    (λ stream so. part_streams part reader c.code.new.reader so.0 stream.items
    c.requires.ready.part.bytes from so.1 so.2 so.3) coded

pub returns-clause-refused : goal.returns-clause-refused
returns-clause-refused c = λ refusal is mcus pads trailer to file of_file.
    let part = c.args.self.now.part in
    let reader = c.self-inside.inside.0.1.0 in
    let same = ap (λ (r : Inside). r.part) c.self-inside.view_is ∙ ap (λ (r : ReadyFields). r.part) c.self.view_is in
    let from = ap (λ (r : Inside). r.reader) c.self-inside.view_is
    ∙ ap (λ (r : ReadyFields). r.reader) c.self.view_is ∙ c.requires.ready.reader in
    let read = part_reads part mcus pads trailer to c.requires.ready.part.bytes file of_file reader
    from in
    not_refused part.mcus reader _ read.0 refusal read.1
    (ap (λ (p : PartFields). next_of p.mcus reader) (sym same) ∙ c.code.ensures.refused refusal is)
