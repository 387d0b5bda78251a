use Rattle.std.proofs.Common.{◌≡◌, ◌+◌, ◌-◌, ◌^◌, ◌<◌, ◌⊎◌, subst, inl, arith}
use Rattle.outside_core.specs.Memory.{Store, past_calls, store_faults}
use Rattle.outside_core.proofs.Calls.{refusal_rises}
use Rattle.outside_core.proofs.memory.MemSinkSink.write.Goals as goal

pub returns-then-count_call-clause-failed : goal.returns-then-count_call-clause-failed
returns-then-count_call-clause-failed c =
    let risen = c.count_call.ensures.risen c.if-count_call.true in
    inl (subst (λ (s : Store). store_faults s < past_calls c.self.inside.fails.now c.count_call.new.calls + c.self.inside.refused) c.self.view_is (omega (arith, risen)))

pub returns-then-not-is_empty-clause-failed : goal.returns-then-not-is_empty-clause-failed
returns-then-not-is_empty-clause-failed c =
    subst (λ (s : Store). (store_faults s < past_calls c.self.inside.fails.now c.count_call.new.calls + c.saturating_add-self-inside.result) ⊎ (c.saturating_add-self-inside.result ≡ 2 ^ 64 - 1)) c.self.view_is
    (refusal_rises _ _ _ _ c.count_call.ensures.lasting c.saturating_add-self-inside.ensures)
