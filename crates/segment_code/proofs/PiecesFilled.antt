-- A piece of a segment's bytes, MCU by MCU.
use Rattle.std.proofs.Common.{◌≡◌, ℕ, zero, suc, ◌+◌, ◌-◌, ◌<◌, Bool, true, false, if◌then◌else◌, List, [], ◌++◌, length, Result, Ok, Err, refl, sym, ap, ap₂, subst, ◌∙◌, arith, append_assoc, append-nil, length-append}
use Rattle.std.specs.Prelude.{⊤, nat_lt, not, ◌&&◌}
use Rattle.std.proofs.lemmas.Bool.Decides.{nat_tests}
use Rattle.bit_list.specs.Pieces.{piece_room}
use Rattle.scan_spec.specs.TextBounds.{mcu_room}
use Rattle.handover.specs.declared.outcome.StreamCause.{StreamCause}
use Rattle.container_spec.specs.Segments.{SegmentFields, Progress, stopped, with_prefix, ending, mcu_step}
use Rattle.segment_code.specs.Pieces.{Made, SomeOf, AllOf, made_with_prefix, made_after, piece}
use Rattle.container_spec.proofs.McusPut.{prefix_twice}
use Rattle.segment_code.specs.Decoding.{DecoderSeen}
use Rattle.segment_code.specs.DecodedPieces.{IsWithin, McuIsMade, IsBegunPiece, IsFilled, goes_on}

-- ---- a piece goes on

made_twice : (a b : List ℕ) (made : Made)
    → made_with_prefix a (made_with_prefix b made) ≡ made_with_prefix (a ++ b) made
made_twice a b (SomeOf bytes left at) =
    ap (λ (l : List ℕ). SomeOf l left at) (sym (append_assoc a b bytes))
made_twice a b (AllOf output) = ap AllOf (prefix_twice a b output)

with_room : (t : Bool) (a b : Made) → t ≡ false → (if t then a else b) ≡ b
with_room false a b e = refl
with_room true a b e = cc

without_room : (t : Bool) (a b : Made) → t ≡ true → (if t then a else b) ≡ a
without_room true a b e = refl
without_room false a b e = cc

-- whether an MCU is left and has room
room_for : (t u : Bool) → (t && not u) ≡ true → u ≡ false
room_for true true e = cc
room_for true false e = refl
room_for false u e = cc

-- the piece by its next MCU
piece_next : (left used : ℕ) (s : SegmentFields) (at : Progress)
    → nat_lt piece_room (used + mcu_room) ≡ false → 0 < left
    → piece left s at used
    ≡ made_after s (mcu_step s at) (λ made. piece (left - 1) s made.1 (used + length made.0))
unfolding piece
piece_next zero used s at room some = absurd (omega (arith, some))
piece_next (suc left) used s at room some =
    let less : left ≡ suc left - 1 = omega arith in
    with_room (nat_lt piece_room (used + mcu_room)) (SomeOf [] (suc left) at) _ room
    ∙ ap (λ (n : ℕ). made_after s (mcu_step s at) (λ made. piece n s made.1 (used + length made.0)))
    less

-- ---- what was made of it

module _ (s : SegmentFields) (most : ℕ) (at : Progress) (out : List ℕ) (old : DecoderSeen)
    (begun : IsBegunPiece s most at out old) (on : goes_on old.left out ≡ true)
    (some : 0 < old.left) where
  step_here : piece most s at 0
      ≡ made_with_prefix out (made_after s (mcu_step s begun.now)
      (λ made. piece (begun.left - 1) s made.1 (length out + length made.0)))
  step_here =
      let stands = begun.stands in
      let still = stands.holds.still in
      begun.bytes
      ∙ ap (made_with_prefix out)
      (piece_next begun.left (length out) s begun.now (room_for _ _ on)
      (omega (arith, still, some)))

  -- one more MCU
  piece_more : (bytes out_new : List ℕ) (next : Progress) (new : DecoderSeen)
      → mcu_step s begun.now ≡ Ok (bytes, next) → out_new ≡ out ++ bytes
      → IsWithin new s (begun.left - 1) next → IsBegunPiece s most at out_new new
  piece_more bytes out_new next new step same stands = record {
    left = begun.left - 1;
    now = next;
    stands = stands;
    bytes =
        step_here
        ∙ ap (λ (r : Result (List ℕ × Progress) StreamCause). made_with_prefix out (made_after s r
        (λ made. piece (begun.left - 1) s made.1 (length out + length made.0)))) step
        ∙ made_twice out bytes (piece (begun.left - 1) s next (length out + length bytes))
        ∙ ap₂ (λ (l : List ℕ) (n : ℕ). made_with_prefix l (piece (begun.left - 1) s next n))
        (sym same) (sym (length-append out bytes) ∙ ap length (sym same));
  }

  -- no more
  piece_stopped : (cause : StreamCause) (out_new : List ℕ) → mcu_step s begun.now ≡ Err cause
      → out_new ≡ out → piece most s at 0 ≡ AllOf (with_prefix out_new (stopped s cause))
  piece_stopped cause out_new step same =
      step_here
      ∙ ap (λ (r : Result (List ℕ × Progress) StreamCause). made_with_prefix out (made_after s r
      (λ made. piece (begun.left - 1) s made.1 (length out + length made.0)))) step
      ∙ ap (λ (l : List ℕ). AllOf (with_prefix l (stopped s cause))) (sym same)

-- ---- by what a decoder's MCU came to

-- it stands there by its own count
pub stands_here : (s : SegmentFields) (most : ℕ) (at : Progress) (out : List ℕ) (d : DecoderSeen)
    (begun : IsBegunPiece s most at out d) → IsWithin d s d.left begun.now
stands_here s most at out d begun =
    let stands = begun.stands in
    subst (λ (n : ℕ). IsWithin d s n begun.now) (sym stands.holds.still) stands

module _ (s : SegmentFields) (most : ℕ) (at : Progress) (out out_new : List ℕ)
    (old new : DecoderSeen) (begun : IsBegunPiece s most at out old)
    (on : goes_on old.left out ≡ true) (some : 0 < old.left) where
  pub filled_on : McuIsMade {A = ⊤} s old.left begun.now out (Ok tt) new out_new
      → IsBegunPiece s most at out_new new
  filled_on made =
      let stands = begun.stands in
      piece_more s most at out old begun on some made.0 out_new made.1 new made.2 made.3
      (subst (λ (n : ℕ). IsWithin new s (n - 1) made.1) stands.holds.still made.4)

  pub filled_badly : (cause : StreamCause)
      → McuIsMade {A = ⊤} s old.left begun.now out (Err cause) new out_new
      → IsFilled {A = ⊤} (Err cause) s most at out_new new
  filled_badly cause made =
      piece_stopped s most at out old begun on some cause out_new made.0 made.1

-- ---- its end

no_room : (some t : Bool) → some ≡ true → (some && not t) ≡ false → t ≡ true
no_room some true is e = refl
no_room true false is e = cc
no_room false false is e = cc

no_more : (left : ℕ) (t : Bool) → (nat_lt 0 left && not t) ≡ false → 0 < left → t ≡ true
no_more left t e some =
    let is : nat_lt 0 left ≡ true = grind (arith, nat_tests) in no_room (nat_lt 0 left) t is e

piece_full : (left used : ℕ) (s : SegmentFields) (at : Progress)
    → nat_lt piece_room (used + mcu_room) ≡ true → 0 < left
    → piece left s at used ≡ SomeOf [] left at
unfolding piece
piece_full zero used s at room some = absurd (omega (arith, some))
piece_full (suc left) used s at room some =
    without_room (nat_lt piece_room (used + mcu_room)) (SomeOf [] (suc left) at) _ room

piece_over : (left used : ℕ) (s : SegmentFields) (at : Progress) → left ≡ 0
    → piece left s at used ≡ AllOf (ending s at)
unfolding piece
piece_over zero used s at none = refl
piece_over (suc left) used s at none = absurd (omega (arith, none))

-- MCUs are left
pub some_made : (s : SegmentFields) (most : ℕ) (at : Progress) (out : List ℕ) (d : DecoderSeen)
    (begun : IsBegunPiece s most at out d) → goes_on d.left out ≡ false → 0 < d.left
    → piece most s at 0 ≡ SomeOf out begun.left begun.now
some_made s most at out d begun off some =
    let stands = begun.stands in
    let still = stands.holds.still in
    begun.bytes
    ∙ ap (made_with_prefix out)
    (piece_full begun.left (length out) s begun.now
    (no_more d.left (nat_lt piece_room (length out + mcu_room)) off some)
    (omega (arith, still, some)))
    ∙ ap (λ (l : List ℕ). SomeOf l begun.left begun.now) (append-nil out)

-- none are left
pub all_made : (s : SegmentFields) (most : ℕ) (at : Progress) (out : List ℕ) (d : DecoderSeen)
    (begun : IsBegunPiece s most at out d) → d.left ≡ 0
    → piece most s at 0 ≡ AllOf (with_prefix out (ending s begun.now))
all_made s most at out d begun none =
    let stands = begun.stands in
    let still = stands.holds.still in
    begun.bytes
    ∙ ap (made_with_prefix out)
    (piece_over begun.left (length out) s begun.now (sym still ∙ none))
