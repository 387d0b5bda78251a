use Rattle.std.proofs.Common.{◌+◌, arith, ap, ◌∙◌}
use Rattle.thread_examples.specs.Sums.{sum_adds}
use Rattle.thread_examples.proofs.holds.add.Goals as goal

pub release-requires-clause-keeps : goal.release-requires-clause-keeps
release-requires-clause-keeps g c κs =
    let found = c.value-found.ensures.value ∙ c.hold-held.ensures.found in
    λ views is at. sum_adds _ _ c.args.amount views _ _ (ap (λ n. n + c.args.amount) found) is at

pub release-requires-else-found-amount-clause-keeps :
    goal.release-requires-else-found-amount-clause-keeps
release-requires-else-found-amount-clause-keeps g c κs =
    let found = c.value-found.ensures.value ∙ c.hold-held.ensures.found in
    λ views is at. sum_adds _ _ 0 views _ _ (omega arith) is at
