use Rattle.std.proofs.Common.{rules, ap, Err, List, ℕ, subst, sym}
use Rattle.std.specs.List.{AllByRecursion}
use Rattle.bit_list.specs.Bits.{IsByte}
use Rattle.bool_coder.proofs.FirstBits.{all_bytes}
use Rattle.container_spec.specs.Chunks.{IsChunkOf}
use Rattle.chunk_cut.specs.declared.error.CutError.{CutError}
use Rattle.command_words.specs.declared.command.Command.TheVariants.{Chunk}
use Rattle.lepton_run.specs.Answers.{Answers, Made}
use Rattle.lepton_run.specs.declared.refusal.Refusal.TheVariants.{Header, Scan, ManyScans, NoChunk}
use Rattle.lepton_run.proofs.CarriedOut.{answers_so, refused_early}
use Rattle.lepton_run.proofs.commands.chunk.Goals as goal

pub returns-in-Err-Header-clause-ending : goal.returns-in-Err-Header-clause-ending
returns-in-Err-Header-clause-ending g c =
    refused_early g.K.Sink.held g.K.Sink.faults g.K.Sink.full c.args.sink.now c.args.sink.now
    c.args.bytes.now (all_bytes c.args.bytes.now (λ i. search rules)) (Chunk c.args.index c.args.size c.args.segments)
    (Header c.in-Err-Header.refusal) c.requires.short
    (c.in-Err-Header.ensures.header c.in-Err-Header.refusal
    (ap (λ (error : CutError). Err error) c.in-Err-Header.field-0-is))

pub returns-in-Err-Scan-clause-ending : goal.returns-in-Err-Scan-clause-ending
returns-in-Err-Scan-clause-ending g c =
    refused_early g.K.Sink.held g.K.Sink.faults g.K.Sink.full c.args.sink.now c.args.sink.now
    c.args.bytes.now (all_bytes c.args.bytes.now (λ i. search rules)) (Chunk c.args.index c.args.size c.args.segments)
    (Scan c.in-Err-Scan.refusal) c.requires.short
    (c.in-Err-Scan.ensures.scan c.in-Err-Scan.refusal
    (ap (λ (error : CutError). Err error) c.in-Err-Scan.field-0-is))

pub returns-in-Err-ManyScans-clause-ending : goal.returns-in-Err-ManyScans-clause-ending
returns-in-Err-ManyScans-clause-ending g c =
    refused_early g.K.Sink.held g.K.Sink.faults g.K.Sink.full c.args.sink.now c.args.sink.now
    c.args.bytes.now (all_bytes c.args.bytes.now (λ i. search rules))
    (Chunk c.args.index c.args.size c.args.segments) ManyScans c.requires.short
    (c.in-Err-ManyScans.ensures.many
    (ap (λ (error : CutError). Err error) c.in-Err-ManyScans.field-0-is))

pub returns-in-Err-NoChunk-clause-ending : goal.returns-in-Err-NoChunk-clause-ending
returns-in-Err-NoChunk-clause-ending g c =
    refused_early g.K.Sink.held g.K.Sink.faults g.K.Sink.full c.args.sink.now c.args.sink.now
    c.args.bytes.now (all_bytes c.args.bytes.now (λ i. search rules))
    (Chunk c.args.index c.args.size c.args.segments) NoChunk c.requires.short
    (rw (sym c.from.ensures, sym c.from-2.ensures)
    (c.in-Err-NoChunk.ensures.none
    (ap (λ (error : CutError). Err error) c.in-Err-NoChunk.field-0-is)))

pub returns-clause-ending : goal.returns-clause-ending
returns-clause-ending g c =
    let are : AllByRecursion IsByte c.args.bytes.now =
    all_bytes c.args.bytes.now (λ i. search rules) in
    let made = c.in-Ok.made.items in
    let command = Chunk c.args.index c.args.size c.args.segments in
    let is : IsChunkOf c.args.segments c.args.size c.args.index made c.args.bytes.now =
    rw (sym c.from.ensures, sym c.from-2.ensures) c.in-Ok.ensures.made in
    c.write_made.ensures.ending command c.args.bytes.now
    (subst (λ (m : List ℕ). Answers command c.args.bytes.now (Made m)) (sym c.as_slice.ensures.value)
    (answers_so g.K.Sink.held g.K.Sink.faults g.K.Sink.full c.args.sink.now c.write_made.new.sink
    c.args.bytes.now are command (Made made)
    c.requires.short is))

pub write_made-requires : goal.write_made-requires
write_made-requires g c =
    let are : AllByRecursion IsByte c.args.bytes.now =
    all_bytes c.args.bytes.now (λ i. search rules) in
    let made = c.in-Ok.made.items in
    let command = Chunk c.args.index c.args.size c.args.segments in
    let is : IsChunkOf c.args.segments c.args.size c.args.index made c.args.bytes.now =
    rw (sym c.from.ensures, sym c.from-2.ensures) c.in-Ok.ensures.made in
    record {
      takes = subst (g.K.Sink.takes c.args.sink.now) (sym c.as_slice.ensures.value)
          (c.requires.takes (Made made) (answers_so g.K.Sink.held g.K.Sink.faults g.K.Sink.full c.args.sink.now
          c.args.sink.now c.args.bytes.now are command (Made made)
          c.requires.short is));
    }
