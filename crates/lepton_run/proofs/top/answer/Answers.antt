use Rattle.std.proofs.Common.{ap, Err, refl}
use Rattle.command_words.specs.declared.command.Command.TheVariants.{Sample}
use Rattle.command_words.specs.declared.command.WordsError.{WordsError}
use Rattle.lepton_run.proofs.top.answer.Goals as goal

pub returns-in-Err-Refused-clause-sampled : goal.returns-in-Err-Refused-clause-sampled
returns-in-Err-Refused-clause-sampled g c = λ seed columns rows means. (
  refl,
  c.in-Err-Refused.ensures.refused
      (ap (λ (error : WordsError). Err error) c.in-Err-Refused.field-0-is)
      (Sample seed columns rows) means,
)

pub transfer-requires-clause-takes : goal.transfer-requires-clause-takes
transfer-requires-clause-takes g c κs within = λ bytes may. c.requires.takes c.in-Ok.command bytes c.in-Ok.ensures.taken may
