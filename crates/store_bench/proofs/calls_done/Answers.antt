use Rattle.std.proofs.Common.{◌<◌, List, length, ap, ◌∙◌, subst}
use Rattle.std.specs.Prelude.{slice_index_or}
use Rattle.blob_store.specs.Callers.{CallerValue}
use Rattle.store_bench.proofs.NewCallers.{each_is_of}
use Rattle.store_bench.proofs.calls_done.Goals as goal

pub tasks_of-requires : goal.tasks_of-requires
tasks_of-requires g c = λ k d within.
    let items = c.in_ok-store.ensures.callers in
    ap (λ (xs : List CallerValue). (slice_index_or xs k d).table) items
    ∙ each_is_of _ _ _ _ k d (subst (λ (xs : List CallerValue). k < length xs) items within)
