use Rattle.bool_coder.proofs.encoder.flush_into.Goals as goal

pub returns-in-Ok-clause-kept : goal.returns-in-Ok-clause-kept
returns-in-Ok-clause-kept c = rw c.replace.ensures.value at c.in-Ok.ensures
