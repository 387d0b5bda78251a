-- A step of a decoder gives the next piece of its segment.
use Rattle.std.proofs.Common.{◌≡◌, ℕ, ◌+◌, ◌<◌, Bool, true, false, if◌then◌else◌, List, [], length, Err, refl, sym, ap, ap₂, subst, ◌∙◌, arith, append-nil}
use Rattle.std.specs.Prelude.{⊤}
use Rattle.handover.specs.declared.outcome.Outcome.TheVariants.{Good, Bad}
use Rattle.handover.specs.declared.outcome.StreamCause.{StreamCause}
use Rattle.container_spec.specs.ScanStream.{starts}
use Rattle.container_spec.specs.Segments.{SegmentFields, Progress, Output, stopped, with_prefix, with_place, ending}
use Rattle.container_spec.proofs.PlacesKept.{place_after_prefix}
use Rattle.segment_code.specs.Pieces.{Made, SomeOf, AllOf, piece, next_piece}
use Rattle.segment_code.specs.Decoding.{DecoderSeen, StandsAt, IsStep}
use Rattle.segment_code.specs.DecodedPieces.{IsWithin, IsBegunPiece, IsFilled, IsEnd, goes_on}
use Rattle.segment_code.specs.declared.step.Step.{Step}
use Rattle.segment_code.specs.declared.step.Step.TheVariants.{More, Done, Fault}
use Rattle.segment_code.proofs.PiecesFilled.{some_made, all_made}

-- ---- where it stands

-- a stream with a start
pub within_it : (d : DecoderSeen) (s : SegmentFields) (left : ℕ) (at : Progress)
    → StandsAt d s left at → d.started ≡ true → IsWithin d s left at
within_it d s left at stands started = record {
  holds = stands.holds;
  started = started;
  starts_is = sym stands.started ∙ started;
  decoded = stands.decoded started;
}

still_stands : (d : DecoderSeen) (s : SegmentFields) (left : ℕ) (at : Progress)
    → IsWithin d s left at → 0 < left → StandsAt d s left at
still_stands d s left at is some = record {
  holds = is.holds;
  some = some;
  started = is.started ∙ sym is.starts_is;
  decoded = λ started. is.decoded;
}

-- more bytes were given, and that is all
still_begun : (d : DecoderSeen) (s : SegmentFields) (most : ℕ) (at : Progress) (out : List ℕ)
    (given : ℕ) → IsBegunPiece s most at out d
    → IsBegunPiece s most at out (record d { given = given })
still_begun d s most at out given begun =
    let stands = begun.stands in
    let holds = stands.holds in
    let decoded = stands.decoded in
    record {
      left = begun.left;
      now = begun.now;
      bytes = begun.bytes;
      stands = record {
        started = stands.started;
        starts_is = stands.starts_is;
        decoded = record {
          given = decoded.given;
          got = decoded.got;
          grid = decoded.grid;
          held = decoded.held;
        };
        holds = record {
          running = holds.running;
          within = holds.within;
          suits = holds.suits;
          number = holds.number;
          still = holds.still;
          next = holds.next;
          kept = holds.kept;
          shape = holds.shape;
          pads = holds.pads;
          spot = holds.spot;
          padded = holds.padded;
          unstopped = holds.unstopped;
        };
      };
    }

by_start : (t : Bool) (a b : Made) → t ≡ true → (if t then a else b) ≡ a
by_start true a b e = refl
by_start false a b e = cc

-- ---- what a step came to

module _ (old : DecoderSeen) (s : SegmentFields) (left : ℕ) (at : Progress) (out : List ℕ)
    (is : IsWithin old s left at) where
  next_is : (made : Made) → piece left s at 0 ≡ made → made ≡ next_piece left s at
  next_is made e = sym (by_start (starts s.stream) (piece left s at 0) _ is.starts_is ∙ e)

  -- its bytes were counted
  pub counted_piece : (new counted : DecoderSeen) (bytes : ℕ) → IsBegunPiece s left at out new
      → new.given ≡ old.given → bytes ≡ length out
      → counted ≡ record new { given = new.given + bytes }
      → IsBegunPiece s left at out counted × (counted.given ≡ old.given + length out)
  counted_piece new counted bytes begun same many e = (
    subst (λ (d : DecoderSeen). IsBegunPiece s left at out d) (sym e)
        (still_begun new s left at out (new.given + bytes) begun),
    ap (λ (d : DecoderSeen). d.given) e ∙ ap₂ (λ m n. m + n) same many,
  )

  -- MCUs are left
  pub more_step : (new : DecoderSeen) → IsBegunPiece s left at out new
      → goes_on new.left out ≡ false → 0 < new.left → new.given ≡ old.given + length out
      → IsStep More s old.given (next_piece left s at) out new
  more_step new begun off some counted =
      let stands = begun.stands in
      let still = stands.holds.still in
      subst (λ (made : Made). IsStep More s old.given made out new)
      (next_is (SomeOf out begun.left begun.now) (some_made s left at out new begun off some)) (
        refl,
        counted,
        still_stands new s begun.left begun.now stands (omega (arith, still, some)),
      )

  -- the piece before an end that was looked at by its places
  placed : (given : ℕ) (output end : Output) → given ≡ old.given + length out
      → with_place s given output ≡ end
      → with_place s old.given (with_prefix out output) ≡ with_prefix out end
  placed given output end counted e =
      place_after_prefix s old.given out output
      ∙ ap (λ (n : ℕ). with_prefix out (with_place s n output)) (sym counted)
      ∙ ap (with_prefix out) e

  ended : (step : Step) (given : ℕ) (output : Output) (last : DecoderSeen)
      → given ≡ old.given + length out → IsEnd step (with_place s given output)
      → last.running ≡ false → IsStep step s old.given (AllOf (with_prefix out output)) out last
  ended More given output last counted end over = absurd end
  ended (Done pads) given output last counted end over = (
    placed given output ([], Good pads) counted end
        ∙ ap (λ (l : List ℕ). let p : Output = (l, Good pads) in p) (append-nil out),
    over,
  )
  ended (Fault fault) given output last counted end over = (
    placed given output ([], Bad fault) counted end
        ∙ ap (λ (l : List ℕ). let p : Output = (l, Bad fault) in p) (append-nil out),
    over,
  )

  -- where the last MCU was made
  pub within_end : (new : DecoderSeen) (begun : IsBegunPiece s left at out new) → new.left ≡ 0
      → IsWithin new s 0 begun.now
  within_end new begun none =
      let stands = begun.stands in
      subst (λ (n : ℕ). IsWithin new s n begun.now) (sym stands.holds.still ∙ none) stands

  -- none are left
  pub last_step : (step : Step) (new last : DecoderSeen) (begun : IsBegunPiece s left at out new)
      → new.left ≡ 0 → new.given ≡ old.given + length out
      → IsEnd step (with_place s new.given (ending s begun.now)) → last.running ≡ false
      → IsStep step s old.given (next_piece left s at) out last
  last_step step new last begun none counted end over =
      subst (λ (made : Made). IsStep step s old.given made out last)
      (next_is (AllOf (with_prefix out (ending s begun.now)))
      (all_made s left at out new begun none))
      (ended step new.given (ending s begun.now) last counted end over)

  -- bytes, and this cause
  abbrev bad_output : List ℕ → ℕ → StreamCause → Output
  bad_output bytes number cause = (bytes, Bad (record { segment = number; cause = cause }))

  -- there is a cause why there are no more bytes
  pub bad_step : (step : Step) (number : ℕ) (cause : StreamCause) (new : DecoderSeen)
      → IsFilled {A = ⊤} (Err cause) s left at out new
      → step ≡ Fault (record { segment = number; cause = cause }) → number ≡ old.number
      → (last : DecoderSeen) → last.running ≡ false
      → IsStep step s old.given (next_piece left s at) out last
  bad_step step number cause new filled e same last over =
      let named = same ∙ is.holds.number in
      subst (λ (made : Made). IsStep step s old.given made out last)
      (next_is (AllOf (with_prefix out (stopped s cause))) filled)
      (subst (λ (t : Step). IsStep t s old.given (AllOf (with_prefix out (stopped s cause))) out last)
      (sym e) (
        ap (λ (l : List ℕ). bad_output l s.number cause) (append-nil out)
            ∙ ap (λ (n : ℕ). bad_output out n cause) (sym named),
        over,
      ))
