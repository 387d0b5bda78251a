-- Steps: an emitter at work, and how it ends (own).
use Rattle.std.specs.Prelude.{ℕ, ◌≡◌, ◌+◌, ◌*◌, ◌<◌, ◌≤◌, false, List, ◌++◌, length, take, Option, Some, None, Result, Ok, Err}
use Rattle.byte_window.specs.declared.window.Window.{Window}
use Rattle.byte_window.specs.Windows.{window}
use Rattle.atomic_table.specs.Seated.{TableId}
use Rattle.board_core.specs.BoardInvariants.{bytes_at}
use Rattle.handover.specs.ScanSums.{ScanPads}
use Rattle.box_format.specs.Containers.{all_plans}
use Rattle.container_spec.specs.ScansJoined.{ScansJoined, scanned_from, scans_joined}
use Rattle.segment_code.specs.FileDecoding.{FileDecoderSeen}
use Rattle.output_board.specs.declared.view.EmitterView.{EmitterView}
use Rattle.output_board.specs.Seats.{SeatValue}
use Rattle.segment_worker.specs.declared.emitted.Emitted.{Emitted}
use Rattle.segment_worker.specs.declared.emitted.EmitStop.{EmitStop}
use Rattle.segment_worker.specs.declared.emitted.EmitStop.TheVariants.{WriteFault, Fault}
use Rattle.segment_worker.specs.Contents.{Stretch, segments_bytes, segment_room}
use Rattle.segment_worker.specs.Joining.{joined_from, joined_onto}
use Rattle.outside_core.specs.Written.{HasWritten, HasFailed}

-- the segments of a stretch, joined
abbrev pub joined_in : Stretch → ScansJoined
joined_in v = scans_joined (scanned_from v.container v.first v.count)

-- what a window lets through of segments
abbrev pub seen_through : Window → ScansJoined → ScansJoined
seen_through w all = record all { bytes = window w all.bytes }

-- the emitter's seat on the board of a stretch, and its decoder, before the first call
pub record IsNewEmitter (table : TableId) (v : Stretch) (seat : SeatValue Stretch EmitterView)
    (decoder : FileDecoderSeen) : Type 0 where
  pub own : seat.table ≡ table
  pub content : seat.content ≡ v
  pub cur : seat.view.cur ≡ 0
  pub taken : seat.view.taken ≡ 0
  pub free : seat.view.owns ≡ false
  pub going : seat.view.stopped ≡ false
  pub claims : seat.claims ≡ 0
  pub plans : decoder.plans ≡ all_plans v.container
  pub begun : decoder.begun ≡ 0

-- and after the last one: it is still the same board's, and the decoder began as many segments as the seat claimed
pub record IsUsedEmitter (table : TableId) (v : Stretch) (seat : SeatValue Stretch EmitterView)
    (decoder : FileDecoderSeen) : Type 0 where
  pub own : seat.table ≡ table
  pub content : seat.content ≡ v
  pub plans : decoder.plans ≡ all_plans v.container
  pub begun : decoder.begun ≡ seat.claims

-- its view says that all N segments are emitted, and the board isn't stopped
pub record IsThrough (count : ℕ) (e : EmitterView) : Type 0 where
  pub cur : e.cur ≡ count
  pub going : e.stopped ≡ false

-- how many bytes of joined segments were written, by how an emitter ends
abbrev pub Counts : ScansJoined → Result Emitted EmitStop → Type 0
Counts all (Ok emitted) = emitted.bytes ≡ length all.bytes
Counts all (Err (Fault fault)) = Unit {0}
Counts all (Err (WriteFault written)) = written < length all.bytes

module _ {Sink : Type 0} (held : Sink → Option (List ℕ))
    (takes : Sink → List ℕ → Type 0) (faults : Sink → ℕ) (full : Sink → Type 0) where
  -- how it ends: all segments, or all through the first bad one, or their first bytes
  abbrev pub Emits : Sink → Sink → ScansJoined → Result Emitted EmitStop → Type 0
  Emits old new all (Ok emitted) =
      (all.fault ≡ None) × (emitted.bytes ≡ length all.bytes) × (emitted.pads ≡ all.padded)
      × HasWritten held takes faults old new all.bytes
  Emits old new all (Err (Fault fault)) =
      (all.fault ≡ Some fault) × HasWritten held takes faults old new all.bytes
  Emits old new all (Err (WriteFault written)) = HasFailed held faults full old new all.bytes written

-- the segments before one ended well, and what a window lets through of them and of the first `taken` bytes of that one
-- is written
pub record IsWrittenTo {Sink : Type 0} (held : Sink → Option (List ℕ))
    (takes : Sink → List ℕ → Type 0) (faults : Sink → ℕ) (v : Stretch) (w : Window)
    (cur taken : ℕ) (old new : Sink) (came : ℕ) (padded : ScanPads) : Type 0 where
  pub bytes : List ℕ
  pub all : joined_in v ≡ joined_onto bytes padded (joined_from v cur)
  pub four : length padded ≡ 4
  pub has : HasWritten held takes faults old new
      (window w (bytes ++ take taken (bytes_at (segments_bytes v) cur)))
  pub count : came ≡ length bytes + taken
  pub within : taken ≤ length (bytes_at (segments_bytes v) cur)
  pub few : length bytes ≤ segment_room * cur
  pub low : cur ≤ v.count

-- between two calls
pub record IsEmitting {Sink : Type 0} (held : Sink → Option (List ℕ))
    (takes : Sink → List ℕ → Type 0) (faults : Sink → ℕ)
    (table : TableId) (v : Stretch) (w : Window) (seat : SeatValue Stretch EmitterView)
    (decoder : FileDecoderSeen) (old new : Sink) (came : ℕ) (padded : ScanPads) : Type 0 where
  pub used : IsUsedEmitter table v seat decoder
  pub free : seat.view.owns ≡ false
  pub going : seat.view.stopped ≡ false
  pub so_far : IsWrittenTo held takes faults v w seat.view.cur seat.view.taken old new came padded
