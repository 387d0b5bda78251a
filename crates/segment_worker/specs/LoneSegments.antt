-- Steps: segments that one thread decodes into a sink (own).
use Rattle.std.specs.Prelude.{ℕ, ◌≡◌, ◌+◌, ◌*◌, ◌^◌, ◌≤◌, true, List, ◌++◌, length, Option, Result, Ok, Err}
use Rattle.std.specs.Io.KnownBytes.{Appends}
use Rattle.outside_core.specs.Takes.{MovesOn}
use Rattle.byte_window.specs.declared.window.Window.{Window}
use Rattle.byte_window.specs.Windows.{window}
use Rattle.bit_list.specs.Pieces.{piece_room}
use Rattle.handover.specs.declared.outcome.Outcome.{Outcome}
use Rattle.handover.specs.ScanSums.{ScanPads}
use Rattle.box_format.specs.Containers.{all_plans}
use Rattle.segment_code.specs.FileDecoding.{FileDecoderSeen, FileOwes, steps_left}
use Rattle.segment_worker.specs.Contents.{Stretch}
use Rattle.segment_worker.specs.Emitting.{joined_in}
use Rattle.segment_worker.specs.Joining.{joined_from, joined_onto}
use Rattle.outside_core.specs.Written.{HasWritten, HasFailed}

-- more bytes than the pieces of a segment hold
abbrev pub pieces_room : ℕ
pieces_room = piece_room * 2 ^ 33

-- what a decoder still owes
pub record OwesSome (d : FileDecoderSeen) : Type 0 where
  pub bytes : List ℕ
  pub outcome : Outcome
  pub owes : FileOwes d bytes outcome

-- what a window lets through of the first bytes that a decoder owed was written, and it owes the others
pub record FirstWritten {Sink : Type 0} (held : Sink → Option (List ℕ))
    (takes : Sink → List ℕ → Type 0) (w : Window) (now : FileDecoderSeen) (old new : Sink) (came : ℕ)
    (bytes : List ℕ) (outcome : Outcome) : Type 0 where
  pub first : List ℕ
  pub more : List ℕ
  pub parts : bytes ≡ first ++ more
  pub owes : FileOwes now more outcome
  pub appended : Appends (held old) (held new) (window w first)
  pub onward : MovesOn takes old new (window w first)
  pub count : came ≡ length first

-- between two pieces of a segment
pub record UnderWay {Sink : Type 0} (held : Sink → Option (List ℕ))
    (takes : Sink → List ℕ → Type 0) (faults : Sink → ℕ) (w : Window)
    (from now : FileDecoderSeen) (old new : Sink) (came : ℕ) : Type 0 where
  pub running : now.running ≡ true
  pub some : OwesSome now
  pub each : (bytes : List ℕ) (outcome : Outcome) → FileOwes from bytes outcome
      → FirstWritten held takes w now old new came bytes outcome
  pub unfailed : faults new ≡ faults old
  pub few : came + piece_room * steps_left now ≤ piece_room * steps_left from
  pub begun : now.begun ≡ from.begun
  pub plans : now.plans ≡ from.plans

-- how a segment with these bytes and this outcome ends, through a window
abbrev pub SegmentEnds : {Sink : Type 0} → (Sink → Option (List ℕ))
    → (Sink → List ℕ → Type 0) → (Sink → ℕ) → (Sink → Type 0) → Window → Sink → Sink → List ℕ
    → Outcome → Result (ℕ × Outcome) ℕ → Type 0
SegmentEnds held takes faults full w old new bytes outcome (Ok ended) =
    (ended.0 ≡ length bytes) × (ended.1 ≡ outcome)
    × HasWritten held takes faults old new (window w bytes)
SegmentEnds held takes faults full w old new bytes outcome (Err written) =
    HasFailed held faults full old new (window w bytes) written

-- before the segment with an index in a stretch, if the segments before it ended well
pub record SegmentsWritten {Sink : Type 0} (held : Sink → Option (List ℕ))
    (takes : Sink → List ℕ → Type 0) (faults : Sink → ℕ) (w : Window)
    (v : Stretch) (i : ℕ) (now : FileDecoderSeen) (old new : Sink)
    (came : ℕ) (padded : ScanPads) : Type 0 where
  pub bytes : List ℕ
  pub all : joined_in v ≡ joined_onto bytes padded (joined_from v i)
  pub four : length padded ≡ 4
  pub has : HasWritten held takes faults old new (window w bytes)
  pub count : came ≡ length bytes
  pub few : came ≤ pieces_room * i
  pub plans : now.plans ≡ all_plans v.container
  pub begun : now.begun ≡ i
