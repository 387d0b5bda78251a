use Rattle.std.proofs.Common.{◌<◌, subst, inl}
use Rattle.outside_core.specs.Memory.{Supply, past_calls, supply_faults}
use Rattle.outside_core.proofs.memory.MemSourceSource.read.Goals as goal

pub returns-then-count_call-clause-failed : goal.returns-then-count_call-clause-failed
returns-then-count_call-clause-failed c =
    inl (subst (λ (s : Supply). supply_faults s < past_calls c.self.inside.fails.now c.count_call.new.calls) c.self.view_is
    (c.count_call.ensures.risen c.if-count_call.true))
