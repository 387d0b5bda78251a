use Rattle.std.proofs.Common.{rules, ap, Err, List, ℕ, subst, sym}
use Rattle.bool_coder.proofs.FirstBits.{all_bytes}
use Rattle.lepton_encode.specs.declared.error.EncodeError.{EncodeError}
use Rattle.command_words.specs.declared.command.Command.TheVariants.{Encode}
use Rattle.lepton_run.specs.Answers.{Answers, Made}
use Rattle.lepton_run.specs.declared.refusal.Refusal.TheVariants.{Header, Scan}
use Rattle.lepton_run.proofs.CarriedOut.{answers_so, refused_early}
use Rattle.lepton_run.proofs.commands.encode.Goals as goal

pub returns-in-Err-Header-clause-ending : goal.returns-in-Err-Header-clause-ending
returns-in-Err-Header-clause-ending g c =
    refused_early g.K.Sink.held g.K.Sink.faults g.K.Sink.full c.args.sink.now c.args.sink.now
    c.args.bytes.now (all_bytes c.args.bytes.now (λ i. search rules)) (Encode c.args.segments)
    (Header c.in-Err-Header.refusal) c.requires.short
    (c.in-Err-Header.ensures.header c.in-Err-Header.refusal
    (ap (λ (error : EncodeError). Err error) c.in-Err-Header.field-0-is))

pub returns-in-Err-Scan-clause-ending : goal.returns-in-Err-Scan-clause-ending
returns-in-Err-Scan-clause-ending g c =
    refused_early g.K.Sink.held g.K.Sink.faults g.K.Sink.full c.args.sink.now c.args.sink.now
    c.args.bytes.now (all_bytes c.args.bytes.now (λ i. search rules)) (Encode c.args.segments)
    (Scan c.in-Err-Scan.refusal) c.requires.short
    (c.in-Err-Scan.ensures.scan c.in-Err-Scan.refusal
    (ap (λ (error : EncodeError). Err error) c.in-Err-Scan.field-0-is))

pub returns-clause-ending : goal.returns-clause-ending
returns-clause-ending g c =
    let made = c.in-Ok.made.items in
    let command = Encode c.args.segments in
    c.write_made.ensures.ending command c.args.bytes.now
    (subst (λ (m : List ℕ). Answers command c.args.bytes.now (Made m)) (sym c.as_slice.ensures.value)
    (answers_so g.K.Sink.held g.K.Sink.faults g.K.Sink.full c.args.sink.now c.write_made.new.sink
    c.args.bytes.now (all_bytes c.args.bytes.now (λ i. search rules)) command (Made made)
    c.requires.short c.in-Ok.ensures.made))

pub write_made-requires : goal.write_made-requires
write_made-requires g c =
    let made = c.in-Ok.made.items in
    let command = Encode c.args.segments in
    record {
      takes = subst (g.K.Sink.takes c.args.sink.now) (sym c.as_slice.ensures.value)
          (c.requires.takes (Made made) (answers_so g.K.Sink.held g.K.Sink.faults g.K.Sink.full c.args.sink.now
          c.args.sink.now c.args.bytes.now (all_bytes c.args.bytes.now (λ i. search rules)) command (Made made)
          c.requires.short c.in-Ok.ensures.made));
    }
