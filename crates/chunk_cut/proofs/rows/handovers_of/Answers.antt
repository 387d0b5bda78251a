use Rattle.std.proofs.Common.{ℕ, ◌∙◌, ap, get_or, arith}
use Rattle.std.specs.Prelude.{Some}
use Rattle.handover.specs.Handovers.{start}
use Rattle.cut_spec.specs.Cuts.{row_of}
use Rattle.box_format.specs.Parts.{box_cut}
use Rattle.chunk_cut.proofs.ChunksFound.{one_more}
use Rattle.chunk_cut.proofs.rows.handovers_of.Goals as goal

pub loop-segment-preserved : goal.loop-segment-preserved
loop-segment-preserved c =
    let starts = c.args.starts.now.handovers in
    let test = c.loop-segment-test.true in
    record {
      all = one_more
          (λ i. get_or starts (row_of (box_cut c.args.plan.now (Some c.args.chunk) c.args.count) i) start)
          c.loop-segment.handovers.items c.push.new.list.items c.handover.result
          c.loop-segment.segment c.args.count (omega (arith, test)) c.in_ok-push.ensures.items
          (c.handover.ensures ∙ ap (λ (row : ℕ). get_or starts row start) c.row_of-row.ensures.value)
          ∙ c.loop-segment.invariant.all;
    }
