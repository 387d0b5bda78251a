use Rattle.std.proofs.Common.{◌+◌, arith, ap, ◌∙◌}
use Rattle.thread_examples.specs.Sums.{sum_adds}
use Rattle.thread_examples.proofs.holds.add_in_turn.Goals as goal

pub release-requires-clause-keeps : goal.release-requires-clause-keeps
release-requires-clause-keeps g c κs =
    let found = c.value-found.ensures.value ∙ c.hold-held.ensures.found in
    λ views is at. sum_adds _ _ 1 views _ _ (ap (λ n. n + 1) found) is at

pub release-requires-else-due-clause-keeps : goal.release-requires-else-due-clause-keeps
release-requires-else-due-clause-keeps g c κs =
    let found = c.value-found.ensures.value ∙ c.hold-held.ensures.found in
    λ views is at. sum_adds _ _ 0 views _ _ (omega arith) is at
