-- A segment of the emitter's own, piece by piece.
use Rattle.std.proofs.Common.{◌≡◌, ℕ, ◌+◌, ◌<◌, ◌≤◌, true, false, List, [], ◌++◌, length, take, drop, refl, sym, ap, subst, ◌∙◌, arith, append-nil, Option, Some, Ok, Err}
use Rattle.std.specs.Prelude.{slice_get}
use lib.Seq.{take-add, drop-drop, length-take-le}
use lib.ListN.{length-drop, take-append-drop}
use Rattle.outside_core.specs.Takes.{TakesNext}
use Rattle.byte_window.specs.declared.window.Window.{Window}
use Rattle.byte_window.specs.Windows.{window, after, through}
use Rattle.handover.specs.declared.pads.PadSum.{PadSum}
use Rattle.handover.specs.declared.outcome.Outcome.{Outcome}
use Rattle.handover.specs.declared.outcome.Outcome.TheVariants.{Good, Bad}
use Rattle.handover.specs.declared.outcome.StreamFault.{StreamFault}
use Rattle.board_core.specs.BoardInvariants.{bytes_at}
use Rattle.segment_code.specs.FileDecoding.{FileDecoderSeen, FileOwes, FilePays, steps_left}
use Rattle.segment_code.specs.declared.step.Step.{Step}
use Rattle.segment_code.specs.declared.step.Step.TheVariants.{More, Done, Fault}
use Rattle.output_board.specs.declared.view.EmitterView.{EmitterView}
use Rattle.output_board.specs.Seats.{SeatValue}
use Rattle.segment_worker.specs.Contents.{Stretch, segments_bytes, segments_outcomes}
use Rattle.outside_core.specs.Written.{HasWritten, HasFailed}
use Rattle.segment_worker.specs.OwnSegments.{OwesRest, IsSameSeat, IsPassing, own_rest, OwnEnds}
use Rattle.segment_worker.proofs.Tails.{rest_after, first_of_rest, rest_within, rest_ends}
use Rattle.segment_worker.proofs.ContentsTold.{output_of, bytes_of, outcome_of}
use Rattle.segment_worker.proofs.Writing.{written_nothing, written_on, failed_on, next_on}

-- whoever owes pays
abbrev pub PaysAll : Step → List ℕ → FileDecoderSeen → FileDecoderSeen → Type 0
PaysAll step out old new =
    (bytes : List ℕ) (outcome : Outcome) → FileOwes old bytes outcome
    → FilePays step bytes outcome out old new

-- a segment that was begun is owed whole
pub owes_all : (v : Stretch) (i from : ℕ) (d : FileDecoderSeen) → i < v.count → from ≡ 0
    → FileOwes d (output_of v i).0 (output_of v i).1
    → OwesRest v i from d
owes_all v i from d within zero_is owes =
    subst (λ (n : ℕ). OwesRest v i n d) (sym zero_is) (record {
      bytes = (output_of v i).0;
      outcome = (output_of v i).1;
      owes = owes;
      rest = bytes_of v i within;
      within = omega arith;
      end = outcome_of v i within;
    })

-- a step gives the first of the bytes that were owed
pub paid_first : (step : Step) (bytes out : List ℕ) (outcome : Outcome) (old new : FileDecoderSeen)
    → FilePays step bytes outcome out old new → (more : List ℕ) × (bytes ≡ out ++ more)
paid_first More bytes out outcome old new p = (p.0, p.1)
paid_first (Done pads) bytes out outcome old new p = ([], p.0 ∙ sym (append-nil out))
paid_first (Fault fault) bytes out outcome old new p = ([], p.0 ∙ sym (append-nil out))

-- the next bytes of a segment that is owed, and what follows them
pub owed_next : (v : Stretch) (i from : ℕ) (step : Step) (out : List ℕ) (old new : FileDecoderSeen)
    → OwesRest v i from old → PaysAll step out old new
    → (more : List ℕ) × (drop from (bytes_at (segments_bytes v) i) ≡ out ++ more)
owed_next v i from step out old new owes pays =
    let p = paid_first step owes.bytes out owes.outcome old new
    (pays owes.bytes owes.outcome owes.owes) in (p.0, owes.rest ∙ p.1)

-- after a piece that isn't the last
pub owed_later : (v : Stretch) (i from : ℕ) (out : List ℕ) (old new : FileDecoderSeen)
    → OwesRest v i from old → PaysAll More out old new
    → (steps_left new < steps_left old) × (new.running ≡ true) × OwesRest v i (from + length out) new
owed_later v i from out old new owes pays =
    let s = bytes_at (segments_bytes v) i in
    let p = pays owes.bytes owes.outcome owes.owes in
    let rest = owes.rest ∙ p.1 in (
      p.2,
      p.4,
      record {
        bytes = p.0;
        outcome = owes.outcome;
        owes = p.5;
        rest = rest_after s out p.0 from rest;
        within = rest_within s out p.0 from owes.within rest;
        end = owes.end;
      },
    )

-- at the last piece: all is given, and this is the outcome
pub owed_done : (v : Stretch) (i from : ℕ) (pads : PadSum) (out : List ℕ) (old new : FileDecoderSeen)
    → OwesRest v i from old → PaysAll (Done pads) out old new
    → (from + length out ≡ length (bytes_at (segments_bytes v) i))
    × (slice_get (segments_outcomes v) i ≡ Some (Good pads))
owed_done v i from pads out old new owes pays =
    let p = pays owes.bytes owes.outcome owes.owes in (
      rest_ends (bytes_at (segments_bytes v) i) out from owes.within (owes.rest ∙ p.0),
      owes.end ∙ ap (λ (o : Outcome). Some o) p.1,
    )

pub owed_fault : (v : Stretch) (i from : ℕ) (fault : StreamFault) (out : List ℕ)
    (old new : FileDecoderSeen) → OwesRest v i from old → PaysAll (Fault fault) out old new
    → (from + length out ≡ length (bytes_at (segments_bytes v) i))
    × (slice_get (segments_outcomes v) i ≡ Some (Bad fault))
owed_fault v i from fault out old new owes pays =
    let p = pays owes.bytes owes.outcome owes.owes in (
      rest_ends (bytes_at (segments_bytes v) i) out from owes.within (owes.rest ∙ p.0),
      owes.end ∙ ap (λ (o : Outcome). Some o) p.1,
    )

-- what is true at a segment's end is true of the seat that passed it
pub ends_there : (from now later : SeatValue Stretch EmitterView) (written count : ℕ) (o : Outcome)
    → IsSameSeat from now → now.view ≡ record from.view { taken = from.view.taken + written }
    → IsSameSeat now later → later.view ≡ record now.view { taken = now.view.taken + count }
    → ((from.view.taken + written) + count ≡ length (bytes_at (segments_bytes from.content) from.view.cur))
    × (slice_get (segments_outcomes from.content) from.view.cur ≡ Some o)
    → (later.view.taken ≡ length (bytes_at (segments_bytes later.content) later.view.cur))
    × (slice_get (segments_outcomes later.content) later.view.cur ≡ Some o)
ends_there from now later written count o same view again more f =
    let content = again.content ∙ same.content in
    let seen : later.view ≡ record from.view { taken = (from.view.taken + written) + count } =
    more ∙ ap (λ (w : EmitterView). record w { taken = w.taken + count }) view in
    subst (λ (z : Stretch × EmitterView).
    (z.1.taken ≡ length (bytes_at (segments_bytes z.0) z.1.cur))
    × (slice_get (segments_outcomes z.0) z.1.cur ≡ Some o))
    (λ i. (sym content i, sym seen i)) f

-- a claim takes nothing of it
pub claimed_rest : (from mid : SeatValue Stretch EmitterView) → mid.content ≡ from.content
    → mid.view ≡ record from.view { owns = true } → own_rest mid ≡ own_rest from
claimed_rest from mid content view =
    λ i. drop (view i).taken (bytes_at (segments_bytes (content i)) (view i).cur)

module _ {Sink : Type 0} (held : Sink → Option (List ℕ))
    (takes : Sink → List ℕ → Type 0) (faults : Sink → ℕ) (full : Sink → Type 0) (w : Window) where
  -- before the first piece
  pub starts_passing : (s : SeatValue Stretch EmitterView) (d : FileDecoderSeen) (sink : Sink)
      → d.running ≡ true → OwesRest s.content s.view.cur s.view.taken d
      → IsPassing held takes faults w s s d d sink sink 0
  starts_passing s d sink running owes =
      let e : s.view.taken ≡ s.view.taken + 0 = omega arith in record {
        same = record { table = refl; content = refl; claims = refl };
        view = ap (λ (n : ℕ). record s.view { taken = n }) e;
        running = running;
        owes = subst (λ (n : ℕ). OwesRest s.content s.view.cur n d) e owes;
        has = written_nothing held takes faults full w sink;
        begun_is = refl;
        plans = refl;
      }

  -- what follows the bytes that were written begins with the next piece
  piece_behind : (from now : SeatValue Stretch EmitterView) (begun d new : FileDecoderSeen)
      (old mid : Sink) (written : ℕ) (step : Step) (out : List ℕ)
      → IsPassing held takes faults w from now begun d old mid written → PaysAll step out d new
      → (more : List ℕ) × (own_rest from ≡ take written (own_rest from) ++ (out ++ more))
  piece_behind from now begun d new old mid written step out p pays =
      let s = bytes_at (segments_bytes from.content) from.view.cur in
      let next = owed_next from.content from.view.cur (from.view.taken + written) step out d new p.owes pays in (
        next.0,
        sym (take-append-drop written (own_rest from))
            ∙ ap (λ (l : List ℕ). take written (own_rest from) ++ l)
            (drop-drop written from.view.taken s ∙ next.1),
      )

  -- the segment's bytes so far, and how many
  came_long : (from now : SeatValue Stretch EmitterView) (begun d : FileDecoderSeen) (old mid : Sink)
      (written : ℕ) → IsPassing held takes faults w from now begun d old mid written
      → written ≡ length (take written (own_rest from))
  came_long from now begun d old mid written p =
      let long = length-drop from.view.taken (bytes_at (segments_bytes from.content) from.view.cur) in
      let within = p.owes.within in
      sym (length-take-le written (own_rest from) (omega (arith, long, within)))

  -- the sink takes what goes through of the next piece
  pub piece_taken : (from now : SeatValue Stretch EmitterView) (begun d new : FileDecoderSeen)
      (old mid : Sink) (written : ℕ) (step : Step) (out : List ℕ) → TakesNext takes old (window w (own_rest from))
      → IsPassing held takes faults w from now begun d old mid written → PaysAll step out d new
      → TakesNext takes mid (window (after w written) out)
  piece_taken from now begun d new old mid written step out next p pays =
      let b = piece_behind from now begun d new old mid written step out p pays in
      next_on takes w old mid (take written (own_rest from)) out b.0 (own_rest from) written
      (came_long from now begun d old mid written p) next p.has.onward b.1

  -- what goes through of a piece was written
  piece_written : (from now : SeatValue Stretch EmitterView) (begun d new : FileDecoderSeen)
      (old mid sink : Sink) (written : ℕ) (step : Step) (out : List ℕ)
      → IsPassing held takes faults w from now begun d old mid written → PaysAll step out d new
      → HasWritten held takes faults mid sink (window (after w written) out)
      → HasWritten held takes faults old sink (window w (take (written + length out) (own_rest from)))
  piece_written from now begun d new old mid sink written step out p pays has =
      let s = bytes_at (segments_bytes from.content) from.view.cur in
      let next = owed_next from.content from.view.cur (from.view.taken + written) step out d new p.owes pays in
      let rest : drop written (own_rest from) ≡ out ++ next.0 =
      drop-drop written from.view.taken s ∙ next.1 in
      subst (λ (l : List ℕ). HasWritten held takes faults old sink (window w l))
      (sym (take-add written (length out) (own_rest from)
      ∙ ap (λ (l : List ℕ). take written (own_rest from) ++ l)
      (first_of_rest (own_rest from) out next.0 written rest)))
      (written_on held takes faults full w old mid sink _ _ written (came_long from now begun d old mid written p)
      p.has has)

  -- a piece was written, and isn't the last
  pub piece_passed : (from now later : SeatValue Stretch EmitterView) (begun d new : FileDecoderSeen)
      (old mid sink : Sink) (written : ℕ) (out : List ℕ)
      → IsPassing held takes faults w from now begun d old mid written → PaysAll More out d new
      → HasWritten held takes faults mid sink (window (after w written) out) → IsSameSeat now later
      → later.view ≡ record now.view { taken = now.view.taken + length out }
      → new.begun ≡ d.begun → new.plans ≡ d.plans
      → (steps_left new < steps_left d) × IsPassing held takes faults w from later begun new old sink (written + length out)
  piece_passed from now later begun d new old mid sink written out p pays has same view count plans =
      let next = owed_later from.content from.view.cur (from.view.taken + written) out d new p.owes pays in
      let sum : (from.view.taken + written) + length out ≡ from.view.taken + (written + length out) =
      omega arith in (
        next.0,
        record {
          same = record {
            table = same.table ∙ p.same.table;
            content = same.content ∙ p.same.content;
            claims = same.claims ∙ p.same.claims;
          };
          view = view
              ∙ ap (λ (x : EmitterView). record x { taken = x.taken + length out }) p.view
              ∙ ap (λ (n : ℕ). record from.view { taken = n }) sum;
          running = next.1;
          owes = subst (λ (n : ℕ). OwesRest from.content from.view.cur n new) sum next.2;
          has = piece_written from now begun d new old mid sink written More out p pays has;
          begun_is = count ∙ p.begun_is;
          plans = plans ∙ p.plans;
        },
      )

  -- a piece doesn't pass the segment's end
  pub piece_within : (from now : SeatValue Stretch EmitterView) (begun d new : FileDecoderSeen)
      (old mid : Sink) (written : ℕ) (step : Step) (out : List ℕ)
      → IsPassing held takes faults w from now begun d old mid written → PaysAll step out d new
      → now.view.taken + length out ≤ length (bytes_at (segments_bytes now.content) now.view.cur)
  piece_within from now begun d new old mid written step out p pays =
      let next = owed_next from.content from.view.cur (from.view.taken + written) step out d new p.owes pays in
      let within = rest_within (bytes_at (segments_bytes from.content) from.view.cur) out next.0
      (from.view.taken + written) p.owes.within next.1 in
      subst (λ (z : Stretch × EmitterView). z.1.taken + length out ≤ length (bytes_at (segments_bytes z.0) z.1.cur))
      (λ i. (sym p.same.content i, sym p.view i)) within

  -- the last piece was written
  pub all_passed : (from now later last : SeatValue Stretch EmitterView) (begun d new : FileDecoderSeen)
      (old mid sink : Sink) (written : ℕ) (step : Step) (out : List ℕ)
      → IsPassing held takes faults w from now begun d old mid written → PaysAll step out d new
      → HasWritten held takes faults mid sink (window (after w written) out)
      → later.view ≡ record now.view { taken = now.view.taken + length out }
      → last.view ≡ record later.view { owns = false }
      → OwnEnds held takes faults full w from last old sink (Ok (written + length out))
  all_passed from now later last begun d new old mid sink written step out p pays has view end =
      let next = owed_next from.content from.view.cur (from.view.taken + written) step out d new p.owes pays in
      let within = rest_within (bytes_at (segments_bytes from.content) from.view.cur) out next.0
      (from.view.taken + written) p.owes.within next.1 in
      let sum : (from.view.taken + written) + length out ≡ from.view.taken + (written + length out) =
      omega arith in (
        piece_written from now begun d new old mid sink written step out p pays has,
        omega (arith, within),
        end ∙ ap (λ (x : EmitterView). record x { owns = false }) view
            ∙ ap (λ (x : EmitterView). record x { taken = x.taken + length out; owns = false }) p.view
            ∙ ap (λ (n : ℕ). record from.view { taken = n; owns = false }) sum,
      )

  -- a write of a piece failed
  pub piece_failed : (from now : SeatValue Stretch EmitterView) (begun d new : FileDecoderSeen)
      (old mid sink : Sink) (written more : ℕ) (step : Step) (out : List ℕ)
      → IsPassing held takes faults w from now begun d old mid written → PaysAll step out d new
      → HasFailed held faults full mid sink (window (after w written) out) more
      → OwnEnds held takes faults full w from now old sink (Err (through w written + more))
  piece_failed from now begun d new old mid sink written more step out p pays failed =
      let next = piece_behind from now begun d new old mid written step out p pays in (
        failed_on held takes faults full w old mid sink (take written (own_rest from)) out next.0 (own_rest from)
            written more (came_long from now begun d old mid written p) p.has failed next.1,
        ap (λ (x : EmitterView). x.stopped) p.view,
      )

  -- where somebody else has it
  pub own_none : (from now : SeatValue Stretch EmitterView) (sink : Sink) → now.view ≡ from.view
      → from.view.owns ≡ false
      → from.view.taken ≤ length (bytes_at (segments_bytes from.content) from.view.cur)
      → OwnEnds held takes faults full w from now sink sink (Ok 0)
  own_none from now sink view free within =
      let e : from.view.taken ≡ from.view.taken + 0 = omega arith in (
        written_nothing held takes faults full w sink,
        omega (arith, within),
        view ∙ (λ i. record from.view { taken = e i; owns = free i }),
      )
