use Rattle.std.proofs.Common.{◌+◌, rules, arith}
use Rattle.std.specs.List.{Contains}
use Rattle.outside_core.proofs.Calls.{past_calls-lasting, past_calls-risen, past_calls-stays}
use Rattle.outside_core.proofs.memory.count_call.Goals as goal

pub returns-clause-risen : goal.returns-clause-risen
returns-clause-risen c = λ h.
    let here : Contains c.args.fails.now (c.args.calls.now + 1) = search rules in
    past_calls-risen c.args.fails.now c.args.calls.now here

pub returns-clause-unrisen : goal.returns-clause-unrisen
returns-clause-unrisen c = λ h.
    let none : ¬ Contains c.args.fails.now (c.args.calls.now + 1) = search rules in
    past_calls-stays c.args.fails.now c.args.calls.now none

pub returns-clause-lasting : goal.returns-clause-lasting
returns-clause-lasting c = past_calls-lasting c.args.fails.now c.args.calls.now (c.args.calls.now + 1) (omega arith)
