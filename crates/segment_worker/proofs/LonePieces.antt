-- Pieces of a segment that one thread decodes, written one after another.
use Rattle.std.proofs.Common.{◌≡◌, ℕ, ◌+◌, ◌*◌, ◌^◌, ◌<◌, ◌≤◌, true, List, [], ◌++◌, length, refl, sym, ap, ap₂, subst, ◌∙◌, arith, append_assoc, length-append, Option}
use Rattle.outside_core.specs.Takes.{TakesNext}
use Rattle.byte_window.specs.declared.window.Window.{Window}
use Rattle.byte_window.specs.Windows.{window, after, through}
use Rattle.bit_list.specs.Pieces.{piece_room}
use Rattle.handover.specs.declared.pads.PadSum.{PadSum}
use Rattle.handover.specs.declared.outcome.Outcome.{Outcome}
use Rattle.handover.specs.declared.outcome.Outcome.TheVariants.{Good, Bad}
use Rattle.handover.specs.declared.outcome.StreamFault.{StreamFault}
use Rattle.segment_code.specs.FileDecoding.{FileDecoderSeen, FileOwes, FilePays, steps_left}
use Rattle.segment_code.specs.declared.step.Step.{Step}
use Rattle.segment_code.specs.declared.step.Step.TheVariants.{More, Done, Fault}
use Rattle.outside_core.specs.Written.{HasWritten, HasFailed}
use Rattle.segment_worker.specs.LoneSegments.{OwesSome, UnderWay}
use Rattle.segment_worker.proofs.Writing.{written_nothing, written_on, failed_on, next_on}
use Rattle.segment_worker.proofs.OwnPieces.{PaysAll, paid_first}

module _ {Sink : Type 0} (held : Sink → Option (List ℕ))
    (takes : Sink → List ℕ → Type 0) (faults : Sink → ℕ) (full : Sink → Type 0) (w : Window) where
  -- before the first piece
  pub none_written : (d : FileDecoderSeen) (sink : Sink) → d.running ≡ true → OwesSome d
      → UnderWay held takes faults w d d sink sink 0
  none_written d sink running some = record {
    running = running;
    some = some;
    each = λ bytes outcome owes. record {
      first = [];
      more = bytes;
      parts = refl;
      owes = owes;
      appended = (written_nothing held takes faults full w sink).appended;
      onward = (written_nothing held takes faults full w sink).onward;
      count = refl;
    };
    unfailed = refl;
    few = omega arith;
    begun = refl;
    plans = refl;
  }

  -- the sink takes the next piece
  pub piece_taken : (step : Step) (from now new : FileDecoderSeen) (old mid : Sink) (came : ℕ) (out : List ℕ)
      (owed : OwesSome from) → TakesNext takes old (window w owed.bytes)
      → UnderWay held takes faults w from now old mid came → PaysAll step out now new
      → TakesNext takes mid (window (after w came) out)
  piece_taken step from now new old mid came out owed next u pays =
      let f = u.each owed.bytes owed.outcome owed.owes in
      let p = paid_first step f.more out owed.outcome now new (pays f.more owed.outcome f.owes) in
      next_on takes w old mid f.first out p.0 owed.bytes came f.count next f.onward
      (f.parts ∙ ap (λ (m : List ℕ). f.first ++ m) p.1)

  -- a piece more
  pub more_written : (from now new : FileDecoderSeen) (old mid sink : Sink) (came : ℕ) (out : List ℕ)
      (count : ℕ) → UnderWay held takes faults w from now old mid came → PaysAll More out now new
      → HasWritten held takes faults mid sink (window (after w came) out) → count ≡ length out
      → length out ≤ piece_room → new.begun ≡ now.begun → new.plans ≡ now.plans
      → (steps_left new < steps_left now) × UnderWay held takes faults w from new old sink (came + count)
  more_written from now new old mid sink came out count u pays has e room begun plans =
      let paid = pays u.some.bytes u.some.outcome u.some.owes in (
        paid.2,
        record {
          running = paid.4;
          some = record { bytes = paid.0; outcome = u.some.outcome; owes = paid.5 };
          each = λ bytes outcome owes.
              let f = u.each bytes outcome owes in
              let p = pays f.more outcome f.owes in
              let on = written_on held takes faults full w old mid sink f.first out came f.count
              (record { appended = f.appended; unfailed = u.unfailed; onward = f.onward }) has in
              record {
                first = f.first ++ out;
                more = p.0;
                parts = f.parts ∙ ap (λ (l : List ℕ). f.first ++ l) p.1
                    ∙ sym (append_assoc f.first out p.0);
                owes = p.5;
                appended = on.appended;
                onward = on.onward;
                count = ap₂ (λ (a b : ℕ). a + b) f.count e ∙ sym (length-append f.first out);
              };
          unfailed = has.unfailed ∙ u.unfailed;
          few = omega (arith, u.few, paid.2, e, room);
          begun = begun ∙ u.begun;
          plans = plans ∙ u.plans;
        },
      )

  -- the last piece
  pub all_written : (step : Step) (from now new : FileDecoderSeen) (old mid sink : Sink) (came : ℕ)
      (out : List ℕ) (count : ℕ) (end : Outcome) → UnderWay held takes faults w from now old mid came
      → PaysAll step out now new
      → ((bytes : List ℕ) (outcome : Outcome) → FilePays step bytes outcome out now new
      → (bytes ≡ out) × (outcome ≡ end))
      → HasWritten held takes faults mid sink (window (after w came) out) → count ≡ length out
      → (bytes : List ℕ) (outcome : Outcome) → FileOwes from bytes outcome
      → (came + count ≡ length bytes) × (end ≡ outcome) × HasWritten held takes faults old sink (window w bytes)
  all_written step from now new old mid sink came out count end u pays last has e bytes outcome owes =
      let f = u.each bytes outcome owes in
      let l = last f.more outcome (pays f.more outcome f.owes) in
      let whole : bytes ≡ f.first ++ out = f.parts ∙ ap (λ (m : List ℕ). f.first ++ m) l.0 in (
        ap₂ (λ (a b : ℕ). a + b) f.count e ∙ sym (length-append f.first out) ∙ ap length (sym whole),
        sym l.1,
        subst (λ (l : List ℕ). HasWritten held takes faults old sink (window w l)) (sym whole)
            (written_on held takes faults full w old mid sink f.first out came f.count
            (record { appended = f.appended; unfailed = u.unfailed; onward = f.onward }) has),
      )

  pub done_last : (pads : PadSum) (out : List ℕ) (now new : FileDecoderSeen) (bytes : List ℕ)
      (outcome : Outcome) → FilePays (Done pads) bytes outcome out now new
      → (bytes ≡ out) × (outcome ≡ Good pads)
  done_last pads out now new bytes outcome p = (p.0, p.1)

  pub fault_last : (fault : StreamFault) (out : List ℕ) (now new : FileDecoderSeen) (bytes : List ℕ)
      (outcome : Outcome) → FilePays (Fault fault) bytes outcome out now new
      → (bytes ≡ out) × (outcome ≡ Bad fault)
  fault_last fault out now new bytes outcome p = (p.0, p.1)

  -- a write of a piece that failed
  pub write_failed : (step : Step) (from now new : FileDecoderSeen) (old mid sink : Sink) (came more : ℕ)
      (out : List ℕ) → UnderWay held takes faults w from now old mid came → PaysAll step out now new
      → HasFailed held faults full mid sink (window (after w came) out) more
      → (bytes : List ℕ) (outcome : Outcome) → FileOwes from bytes outcome
      → HasFailed held faults full old sink (window w bytes) (through w came + more)
  write_failed step from now new old mid sink came more out u pays failed bytes outcome owes =
      let f = u.each bytes outcome owes in
      let p = paid_first step f.more out outcome now new (pays f.more outcome f.owes) in
      failed_on held takes faults full w old mid sink f.first out p.0 bytes came more f.count
      (record { appended = f.appended; unfailed = u.unfailed; onward = f.onward }) failed
      (f.parts ∙ ap (λ (m : List ℕ). f.first ++ m) p.1)

  -- a piece is no more than what was left room for
  pub piece_fits : (from now : FileDecoderSeen) (old mid : Sink) (came count : ℕ)
      → UnderWay held takes faults w from now old mid came → count ≤ piece_room
      → steps_left from < 2 ^ 33 → came + count ≤ piece_room * 2 ^ 33
  piece_fits from now old mid came count u room few =
      let some = u.some.owes.some in
      omega (arith, u.few, some, room, few)
