-- Steps: a segment that its owner decodes (own).
use Rattle.std.specs.Prelude.{ℕ, ◌≡◌, ◌+◌, ◌≤◌, true, false, List, length, take, drop, Option, Some, Result, Ok, Err, slice_get}
use Rattle.byte_window.specs.declared.window.Window.{Window}
use Rattle.byte_window.specs.Windows.{window}
use Rattle.handover.specs.declared.outcome.Outcome.{Outcome}
use Rattle.board_core.specs.BoardInvariants.{bytes_at}
use Rattle.segment_code.specs.FileDecoding.{FileDecoderSeen, FileOwes}
use Rattle.output_board.specs.declared.view.EmitterView.{EmitterView}
use Rattle.output_board.specs.Seats.{SeatValue}
use Rattle.segment_worker.specs.Contents.{Stretch, segments_bytes, segments_outcomes}
use Rattle.outside_core.specs.Written.{HasWritten, HasFailed}

-- a decoder owes the bytes of segment i of a stretch from one on, and its outcome
pub record OwesRest (v : Stretch) (i from : ℕ) (d : FileDecoderSeen) : Type 0 where
  pub bytes : List ℕ
  pub outcome : Outcome
  pub owes : FileOwes d bytes outcome
  pub rest : drop from (bytes_at (segments_bytes v) i) ≡ bytes
  pub within : from ≤ length (bytes_at (segments_bytes v) i)
  pub end : slice_get (segments_outcomes v) i ≡ Some outcome

-- two states of one seat
pub record IsSameSeat {C V : Type 0} (old new : SeatValue C V) : Type 0 where
  pub table : new.table ≡ old.table
  pub content : new.content ≡ old.content
  pub claims : new.claims ≡ old.claims

-- a segment's bytes that its emitter hasn't taken
abbrev pub own_rest : SeatValue Stretch EmitterView → List ℕ
own_rest seat = drop seat.view.taken (bytes_at (segments_bytes seat.content) seat.view.cur)

-- between two pieces of the emitter's own segment
pub record IsPassing {Sink : Type 0} (held : Sink → Option (List ℕ))
    (takes : Sink → List ℕ → Type 0) (faults : Sink → ℕ)
    (w : Window) (from now : SeatValue Stretch EmitterView) (begun d : FileDecoderSeen)
    (old new : Sink) (came : ℕ) : Type 0 where
  pub same : IsSameSeat from now
  pub view : now.view ≡ record from.view { taken = from.view.taken + came }
  pub running : d.running ≡ true
  pub owes : OwesRest from.content from.view.cur (from.view.taken + came) d
  pub has : HasWritten held takes faults old new (window w (take came (own_rest from)))
  pub begun_is : d.begun ≡ begun.begun
  pub plans : d.plans ≡ begun.plans

-- what a window lets through of bytes of the segment that is emitted was written, and the emitter owns none; or a write
-- failed in it, after this number of bytes
abbrev pub OwnEnds : {Sink : Type 0} → (Sink → Option (List ℕ)) → (Sink → List ℕ → Type 0)
    → (Sink → ℕ) → (Sink → Type 0) → Window → SeatValue Stretch EmitterView
    → SeatValue Stretch EmitterView → Sink → Sink → Result ℕ ℕ → Type 0
OwnEnds held takes faults full w from now old new (Ok came) =
    HasWritten held takes faults old new (window w (take came (own_rest from)))
    × (from.view.taken + came ≤ length (bytes_at (segments_bytes from.content) from.view.cur))
    × (now.view ≡ record from.view { taken = from.view.taken + came; owns = false })
OwnEnds held takes faults full w from now old new (Err written) =
    HasFailed held faults full old new (window w (own_rest from)) written
    × (now.view.stopped ≡ from.view.stopped)
