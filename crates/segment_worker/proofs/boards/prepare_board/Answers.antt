use Rattle.std.proofs.Common.{◌≡◌, ◌<◌, sym, subst, arith, length}
use Rattle.board_core.specs.BoardSteps.{count_limit}
use Rattle.board_core.specs.BoardInvariants.{bytes_at}
use Rattle.segment_worker.specs.Contents.{Stretch, stretch, segments_bytes, segments_outcomes}
use Rattle.segment_worker.proofs.ContentsTold.{bytes_long, outcomes_long}
use Rattle.segment_worker.proofs.boards.prepare_board.Goals as goal

pub prepare-requires-clause-bytes : goal.prepare-requires-clause-bytes
prepare-requires-clause-bytes c =
    subst (λ (v : Stretch). length (segments_bytes v) ≡ c.args.count) (sym c.new-content.ensures)
    (bytes_long (stretch c.args.view.now c.args.first c.args.count))

pub prepare-requires-clause-outcomes : goal.prepare-requires-clause-outcomes
prepare-requires-clause-outcomes c =
    subst (λ (v : Stretch). length (segments_outcomes v) ≡ c.args.count) (sym c.new-content.ensures)
    (outcomes_long (stretch c.args.view.now c.args.first c.args.count))

pub prepare-requires-clause-short : goal.prepare-requires-clause-short
prepare-requires-clause-short c = λ i.
    let short = c.segments_are_short.ensures.short c.args.first c.args.count c.requires.within i in
    subst (λ (v : Stretch). length (bytes_at (segments_bytes v) i) < count_limit) (sym c.new-content.ensures)
    (omega (arith, short))
