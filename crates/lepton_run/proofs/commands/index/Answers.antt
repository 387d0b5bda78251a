use Rattle.std.proofs.Common.{rules, ap, Err, inl, inr, List, ℕ, refl, subst, sym}
use Rattle.bool_coder.proofs.FirstBits.{all_bytes}
use Rattle.range_read.specs.declared.error.IndexError.{IndexError}
use Rattle.command_words.specs.declared.command.Command.TheVariants.{Index}
use Rattle.lepton_run.specs.Answers.{Answers, Made}
use Rattle.lepton_run.specs.declared.refusal.Refusal.TheVariants.{Box, Fault, PadSpelling}
use Rattle.lepton_run.proofs.CarriedOut.{refused_early}
use Rattle.lepton_run.proofs.RangesCarried.{ended_as, index_made}
use Rattle.lepton_run.proofs.commands.index.Goals as goal

pub returns-in-Err-Box-clause-ending : goal.returns-in-Err-Box-clause-ending
returns-in-Err-Box-clause-ending g c =
    refused_early g.K.Sink.held g.K.Sink.faults g.K.Sink.full c.args.sink.now c.args.sink.now
    c.args.bytes.now (all_bytes c.args.bytes.now (λ i. search rules)) Index
    (Box c.in-Err-Box.refusal) c.requires.short
    (inl (
      c.in-Err-Box.refusal,
      c.in-Err-Box.ensures.refused c.in-Err-Box.refusal
          (ap (λ (error : IndexError). Err error) c.in-Err-Box.field-0-is),
      refl,
    ))

pub returns-in-Err-Fault-clause-ending : goal.returns-in-Err-Fault-clause-ending
returns-in-Err-Fault-clause-ending g c =
    refused_early g.K.Sink.held g.K.Sink.faults g.K.Sink.full c.args.sink.now c.args.sink.now
    c.args.bytes.now (all_bytes c.args.bytes.now (λ i. search rules)) Index
    (Fault c.in-Err-Fault.fault) c.requires.short
    (inr (ended_as c.args.bytes.now _ (c.in-Err-Fault.ensures.fault c.in-Err-Fault.fault
    (ap (λ (error : IndexError). Err error) c.in-Err-Fault.field-0-is))))

pub returns-in-Err-PadSpelling-clause-ending : goal.returns-in-Err-PadSpelling-clause-ending
returns-in-Err-PadSpelling-clause-ending g c =
    refused_early g.K.Sink.held g.K.Sink.faults g.K.Sink.full c.args.sink.now c.args.sink.now
    c.args.bytes.now (all_bytes c.args.bytes.now (λ i. search rules)) Index
    PadSpelling c.requires.short
    (inr (ended_as c.args.bytes.now _ (c.in-Err-PadSpelling.ensures.spelling
    (ap (λ (error : IndexError). Err error) c.in-Err-PadSpelling.field-0-is))))

pub returns-clause-ending : goal.returns-clause-ending
returns-clause-ending g c =
    c.write_made.ensures.ending Index c.args.bytes.now
    (subst (λ (m : List ℕ). Answers Index c.args.bytes.now (Made m)) (sym c.as_slice.ensures.value)
    (index_made c.args.bytes.now c.in-Ok.made.items
    (all_bytes c.args.bytes.now (λ i. search rules)) c.requires.short c.in-Ok.ensures.made))

pub write_made-requires : goal.write_made-requires
write_made-requires g c = record {
  takes = subst (g.K.Sink.takes c.args.sink.now) (sym c.as_slice.ensures.value)
      (c.requires.takes (Made c.in-Ok.made.items) (index_made c.args.bytes.now c.in-Ok.made.items
      (all_bytes c.args.bytes.now (λ i. search rules)) c.requires.short c.in-Ok.ensures.made));
}
