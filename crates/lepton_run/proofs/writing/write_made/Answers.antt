use Rattle.std.proofs.Common.{inl, inr, refl}
use Rattle.lepton_run.proofs.CarriedOut.{made_part, made_whole}
use Rattle.lepton_run.proofs.writing.write_made.Goals as goal

pub returns-in-Ok-clause-ending : goal.returns-in-Ok-clause-ending
returns-in-Ok-clause-ending g c = λ command bytes answers.
    made_whole g.K.Sink.held g.K.Sink.faults g.K.Sink.full c.args.sink.now c.write_all.new.sink
    command bytes c.args.made.now answers c.in-Ok.ensures.whole c.in-Ok.ensures.unfailed

pub returns-in-Err-clause-ending : goal.returns-in-Err-clause-ending
returns-in-Err-clause-ending g c = λ command bytes answers.
    made_part g.K.Sink.held g.K.Sink.faults g.K.Sink.full c.args.sink.now c.write_all.new.sink
    command bytes c.args.made.now c.in-Err.field-0.written answers c.in-Err.ensures.failed
    c.in-Err.ensures.short c.in-Err.ensures.part

pub returns-in-Ok-clause-ends : goal.returns-in-Ok-clause-ends
returns-in-Ok-clause-ends g c = inl refl

pub returns-in-Err-clause-ends : goal.returns-in-Err-clause-ends
returns-in-Err-clause-ends g c = inr refl
