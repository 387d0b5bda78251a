use Rattle.std.proofs.Common.{ap, ◌∙◌, sym, subst, List, ℕ}
use Rattle.output_board.specs.declared.view.WorkerView.{WorkerView}
use Rattle.output_board.specs.Answers.{HasNext}
use Rattle.segment_worker.specs.Contents.{Stretch, segments_bytes}
use Rattle.segment_worker.proofs.Putting.{next_after}
use Rattle.segment_worker.proofs.worker_puts.put_bytes.Goals as goal

pub put-answer-requires-clause-next : goal.put-answer-requires-clause-next
put-answer-requires-clause-next g c =
    let i = c.loop.invariant in
    subst (λ (z : Stretch × List ℕ). HasNext (segments_bytes z.0) c.loop.seat.view z.1)
    (λ k. (sym i.1.content k, sym c.split_at.ensures.back k))
    (next_after (segments_bytes c.args.seat.now.content) c.args.seat.now.view c.args.bytes.now c.loop.put
    c.loop.seat.view i.0 c.requires.next i.2)

pub put-answer-requires-clause-going : goal.put-answer-requires-clause-going
put-answer-requires-clause-going g c =
    ap (λ (w : WorkerView). w.over) c.loop.invariant.2 ∙ c.requires.going
