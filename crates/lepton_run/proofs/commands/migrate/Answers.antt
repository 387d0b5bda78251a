use Rattle.std.proofs.Common.{rules, ap, Err, inl, inr, List, ℕ, refl, subst, sym}
use Rattle.bool_coder.proofs.FirstBits.{all_bytes}
use Rattle.box_format.specs.declared.refusal.Migrate.{Migrate as MigrateError}
use Rattle.command_words.specs.declared.command.Command.TheVariants.{Migrate}
use Rattle.lepton_run.specs.Answers.{Answers, Made}
use Rattle.lepton_run.specs.declared.refusal.Refusal.TheVariants.{Box}
use Rattle.lepton_run.proofs.CarriedOut.{answers_so, refused_early}
use Rattle.lepton_run.proofs.commands.migrate.Goals as goal

pub returns-in-Err-Box-clause-ending : goal.returns-in-Err-Box-clause-ending
returns-in-Err-Box-clause-ending g c =
    refused_early g.K.Sink.held g.K.Sink.faults g.K.Sink.full c.args.sink.now c.args.sink.now
    c.args.bytes.now (all_bytes c.args.bytes.now (λ i. search rules)) Migrate
    (Box c.in-Err-Box.refusal) c.requires.short
    (inl (
      c.in-Err-Box.refusal,
      c.in-Err-Box.ensures.refused c.in-Err-Box.refusal
          (ap (λ (error : MigrateError). Err error) c.in-Err-Box.field-0-is),
      refl,
    ))

pub returns-clause-ending : goal.returns-clause-ending
returns-clause-ending g c =
    let made = c.in-Ok.made.items in
    c.write_made.ensures.ending Migrate c.args.bytes.now
    (subst (λ (m : List ℕ). Answers Migrate c.args.bytes.now (Made m)) (sym c.as_slice.ensures.value)
    (answers_so g.K.Sink.held g.K.Sink.faults g.K.Sink.full c.args.sink.now c.write_made.new.sink
    c.args.bytes.now (all_bytes c.args.bytes.now (λ i. search rules)) Migrate (Made made)
    c.requires.short (let m = c.in-Ok.ensures.made in
    inr (m.0, m.1, m.2, m.3, ap Made m.4))))

pub write_made-requires : goal.write_made-requires
write_made-requires g c =
    let made = c.in-Ok.made.items in
    record {
      takes = subst (g.K.Sink.takes c.args.sink.now) (sym c.as_slice.ensures.value)
          (c.requires.takes (Made made) (answers_so g.K.Sink.held g.K.Sink.faults g.K.Sink.full c.args.sink.now
          c.args.sink.now c.args.bytes.now (all_bytes c.args.bytes.now (λ i. search rules)) Migrate (Made made)
          c.requires.short (let m = c.in-Ok.ensures.made in
          inr (m.0, m.1, m.2, m.3, ap Made m.4))));
    }
