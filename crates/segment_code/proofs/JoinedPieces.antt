-- A segment piece by piece.
use Rattle.std.proofs.Common.{◌≡◌, ℕ, zero, suc, ◌+◌, ◌<◌, ◌≤◌, Bool, true, false, if◌then◌else◌, List, [], length, Result, Ok, Err, refl, ap, subst, ◌∙◌, arith}
use Rattle.std.specs.Prelude.{nat_lt}
use Rattle.bit_list.specs.Pieces.{piece_room}
use Rattle.scan_spec.specs.TextBounds.{mcu_room}
use Rattle.handover.specs.declared.outcome.StreamCause.{StreamCause}
use Rattle.handover.specs.declared.outcome.StreamCause.TheVariants.{StreamBad}
use Rattle.container_spec.specs.ScanStream.{starts}
use Rattle.container_spec.specs.Segments.{SegmentFields, Progress, Output, stopped, with_prefix, after_step, mcu_step, mcus_output}
use Rattle.segment_code.specs.Pieces.{Made, SomeOf, AllOf, made_with_prefix, made_after, piece, output_after}
use Rattle.container_spec.proofs.McusPut.{prefix_twice}
use Rattle.segment_code.specs.PieceLaws.{PieceIsPrefix, NextPieceIsPrefix, PieceHasAnMcu}

prefix_made : (s : SegmentFields) (prefix : List ℕ) (made : Made)
    → with_prefix prefix (output_after s made) ≡ output_after s (made_with_prefix prefix made)
prefix_made s prefix (SomeOf bytes left at) = prefix_twice prefix bytes (mcus_output left s at)
prefix_made s prefix (AllOf output) = refl

by_step : (s : SegmentFields) (made : Result (List ℕ × Progress) StreamCause)
    (rest : Progress → Output) (more : List ℕ × Progress → Made)
    → ((m : List ℕ × Progress) → rest m.1 ≡ output_after s (more m))
    → after_step s made rest ≡ output_after s (made_after s made more)
by_step s (Ok m) rest more h = ap (with_prefix m.0) (h m) ∙ prefix_made s m.0 (more m)
by_step s (Err cause) rest more h = refl

by_room : (t : Bool) (s : SegmentFields) (a b : Made) (output : Output)
    → output ≡ output_after s a → output ≡ output_after s b
    → output ≡ output_after s (if t then a else b)
by_room true s a b output h k = h
by_room false s a b output h k = k

pub piece_is_prefix : PieceIsPrefix
unfolding mcus_output piece
piece_is_prefix zero used s at = refl
piece_is_prefix (suc left) used s at =
    by_room (nat_lt piece_room (used + mcu_room)) s (SomeOf [] (suc left) at) _
    (mcus_output (suc left) s at) refl
    (by_step s (mcu_step s at) (λ next. mcus_output left s next)
    (λ made. piece left s made.1 (used + length made.0))
    (λ m. piece_is_prefix left (used + length m.0) s m.1))

by_start : (t : Bool) (s : SegmentFields) (whole stop : Output) (made : Made)
    → whole ≡ output_after s made
    → (if t then whole else stop) ≡ output_after s (if t then made else AllOf stop)
by_start true s whole stop made h = h
by_start false s whole stop made h = refl

pub next_piece_is_prefix : NextPieceIsPrefix
next_piece_is_prefix left s at =
    by_start (starts s.stream) s (mcus_output left s at) (stopped s StreamBad) (piece left s at 0)
    (piece_is_prefix left 0 s at)

-- ---- how many MCUs are left after a piece

-- where some are left, they are at most so many
abbrev AtMost : ℕ → Made → Type 0
AtMost most (SomeOf bytes left at) = left ≤ most
AtMost most (AllOf output) = Unit {0}

most_with_prefix : (most : ℕ) (prefix : List ℕ) (made : Made) → AtMost most made
    → AtMost most (made_with_prefix prefix made)
most_with_prefix most prefix (SomeOf bytes left at) few = few
most_with_prefix most prefix (AllOf output) few = tt

most_after : (most : ℕ) (s : SegmentFields) (made : Result (List ℕ × Progress) StreamCause)
    (more : List ℕ × Progress → Made) → ((m : List ℕ × Progress) → AtMost most (more m))
    → AtMost most (made_after s made more)
most_after most s (Ok m) more few = most_with_prefix most m.0 (more m) (few m)
most_after most s (Err cause) more few = tt

most_by : (t : Bool) (most : ℕ) (a b : Made) → AtMost most a → AtMost most b
    → AtMost most (if t then a else b)
most_by true most a b h k = h
most_by false most a b h k = k

more_at_most : (most : ℕ) (made : Made) → AtMost most made → AtMost (suc most) made
more_at_most most (SomeOf bytes left at) few = omega (arith, few)
more_at_most most (AllOf output) few = tt

pieces_few : (left used : ℕ) (s : SegmentFields) (at : Progress)
    → AtMost left (piece left s at used)
unfolding piece
pieces_few zero used s at = tt
pieces_few (suc left) used s at =
    most_by (nat_lt piece_room (used + mcu_room)) (suc left) (SomeOf [] (suc left) at) _
    (omega arith)
    (most_after (suc left) s (mcu_step s at) (λ made. piece left s made.1 (used + length made.0))
    (λ m. more_at_most left _ (pieces_few left (used + length m.0) s m.1)))

-- where some are left, they are fewer
abbrev AreFewer : ℕ → Made → Type 0
AreFewer left (SomeOf bytes more at) = more < left
AreFewer left (AllOf output) = Unit {0}

fewer_after : (left : ℕ) (made : Made) → AtMost left made → AreFewer (suc left) made
fewer_after left (SomeOf bytes more at) few = omega (arith, few)
fewer_after left (AllOf output) few = tt

first_piece : (left : ℕ) (s : SegmentFields) (at : Progress) → AreFewer left (piece left s at 0)
unfolding piece
first_piece zero s at = tt
first_piece (suc left) s at =
    fewer_after left _
    (most_after left s (mcu_step s at) (λ made. piece left s made.1 (0 + length made.0))
    (λ m. pieces_few left (0 + length m.0) s m.1))

fewer_by : (t : Bool) (left : ℕ) (made : Made) (output : Output) → AreFewer left made
    → AreFewer left (if t then made else AllOf output)
fewer_by true left made output h = h
fewer_by false left made output h = tt

pub piece_has_an_mcu : PieceHasAnMcu
piece_has_an_mcu left more s at next bytes e =
    subst (AreFewer left) e
    (fewer_by (starts s.stream) left (piece left s at 0) (stopped s StreamBad)
    (first_piece left s at))
