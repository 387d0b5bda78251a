use Rattle.std.proofs.Common.{◌≡◌, ◌+◌, ◌∙◌, sym, ap, subst, refl, List, ℕ, length}
use Rattle.handover.specs.declared.outcome.Outcome.TheVariants.{Good, Bad}
use Rattle.output_board.specs.declared.view.WorkerView.{WorkerView}
use Rattle.output_board.specs.Answers.{HasNext}
use Rattle.segment_worker.specs.Contents.{segments_bytes}
use Rattle.segment_worker.specs.OwnSegments.{OwesRest}
use Rattle.segment_worker.proofs.OwnPieces.{owed_later, owed_done, owed_fault}
use Rattle.segment_worker.proofs.Putting.{piece_next, at_end}
use Rattle.segment_worker.proofs.worker_segment.put_segment.Goals as goal

pub put_bytes-requires-clause-next : goal.put_bytes-requires-clause-next
put_bytes-requires-clause-next g c =
    let i = c.loop-step.invariant in
    subst (λ (l : List ℕ). HasNext (segments_bytes c.loop-step.seat.content) c.loop-step.seat.view l) (sym c.bytes.ensures.bytes)
    (piece_next c.args.seat.now.content c.args.segment c.loop-step.seat.view c.step-step.result c.step-step.new.out
    c.loop-step.decoder c.step-step.new.self c.loop-step.seat.content i.segment i.same.content i.owes c.step-step.ensures.pays)

pub loop-step-smaller : goal.loop-step-smaller
loop-step-smaller g c =
    let i = c.loop-step.invariant in
    (owed_later c.args.seat.now.content c.args.segment c.loop-step.seat.view.put c.step-step.new.out c.loop-step.decoder
    c.step-step.new.self i.owes c.in-More.ensures.pays).0

pub loop-step-preserved : goal.loop-step-preserved
loop-step-preserved g c =
    let i = c.loop-step.invariant in
    let view = c.if-not-put_bytes.ensures.put refl in
    let later = owed_later c.args.seat.now.content c.args.segment c.loop-step.seat.view.put c.step-step.new.out
    c.loop-step.decoder c.step-step.new.self i.owes c.in-More.ensures.pays in
    let count : c.put_bytes.new.seat.view.put ≡ c.loop-step.seat.view.put + length c.step-step.new.out =
    ap (λ (w : WorkerView). w.put) view ∙ ap (λ (l : List ℕ). c.loop-step.seat.view.put + length l) c.bytes.ensures.bytes in
    record {
      same = record {
        table = c.put_bytes.ensures.same.table ∙ i.same.table;
        content = c.put_bytes.ensures.same.content ∙ i.same.content;
        claims = c.put_bytes.ensures.same.claims ∙ i.same.claims;
      };
      segment = ap (λ (w : WorkerView). w.segment) view ∙ i.segment;
      going = ap (λ (w : WorkerView). w.over) view ∙ i.going;
      here = c.put_bytes.ensures.here ∙ i.here;
      running = later.1;
      owes = subst (λ (n : ℕ). OwesRest c.args.seat.now.content c.args.segment n c.step-step.new.self) (sym count) later.2;
      begun = c.in-More.ensures.begun ∙ i.begun;
      plans = c.in-More.ensures.plans ∙ i.plans;
    }

pub end-requires-clause-end : goal.end-requires-clause-end
end-requires-clause-end g c =
    let i = c.loop-step.invariant in
    let view = c.if-not-put_bytes.ensures.put refl in
    let count : c.put_bytes.new.seat.view.put ≡ c.loop-step.seat.view.put + length c.step-step.new.out =
    ap (λ (w : WorkerView). w.put) view ∙ ap (λ (l : List ℕ). c.loop-step.seat.view.put + length l) c.bytes.ensures.bytes in
    at_end c.args.seat.now.content c.args.segment c.loop-step.seat.view.put c.put_bytes.new.seat.view
    (Good c.in-Done.pads) c.step-step.new.out c.put_bytes.new.seat.content
    (ap (λ (w : WorkerView). w.segment) view ∙ i.segment) count (c.put_bytes.ensures.same.content ∙ i.same.content)
    (owed_done c.args.seat.now.content c.args.segment c.loop-step.seat.view.put c.in-Done.pads c.step-step.new.out
    c.loop-step.decoder c.step-step.new.self i.owes c.in-Done.ensures.pays)

pub end-requires-in-Fault-clause-end : goal.end-requires-in-Fault-clause-end
end-requires-in-Fault-clause-end g c =
    let i = c.loop-step.invariant in
    let view = c.if-not-put_bytes.ensures.put refl in
    let count : c.put_bytes.new.seat.view.put ≡ c.loop-step.seat.view.put + length c.step-step.new.out =
    ap (λ (w : WorkerView). w.put) view ∙ ap (λ (l : List ℕ). c.loop-step.seat.view.put + length l) c.bytes.ensures.bytes in
    at_end c.args.seat.now.content c.args.segment c.loop-step.seat.view.put c.put_bytes.new.seat.view
    (Bad c.in-Fault.fault) c.step-step.new.out c.put_bytes.new.seat.content
    (ap (λ (w : WorkerView). w.segment) view ∙ i.segment) count (c.put_bytes.ensures.same.content ∙ i.same.content)
    (owed_fault c.args.seat.now.content c.args.segment c.loop-step.seat.view.put c.in-Fault.fault c.step-step.new.out
    c.loop-step.decoder c.step-step.new.self i.owes c.in-Fault.ensures.pays)

pub end-requires-clause-going : goal.end-requires-clause-going
end-requires-clause-going g c =
    ap (λ (w : WorkerView). w.over) (c.if-not-put_bytes.ensures.put refl) ∙ c.loop-step.invariant.going

pub end-requires-in-Fault-clause-going : goal.end-requires-in-Fault-clause-going
end-requires-in-Fault-clause-going g c =
    ap (λ (w : WorkerView). w.over) (c.if-not-put_bytes.ensures.put refl) ∙ c.loop-step.invariant.going
