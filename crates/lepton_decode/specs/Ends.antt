-- Steps: what a decode returns, and what it leaves in a sink (own).
use Rattle.std.specs.Prelude.{All, ℕ, ◌≡◌, Bool, true, List, [], length, Option, Some, None, Result, Ok, Err}
use Rattle.box_format.specs.Parts.{BoxSeen}
use Rattle.container_spec.specs.Meanings.{Meaning, Restored, PadSpelled, ChunkShort as ShortChunk, Faulty}
use Rattle.container_spec.specs.Portions.{scans_meaning}
use Rattle.output_board.specs.declared.view.EmitterView.{EmitterView}
use Rattle.output_board.specs.declared.view.WorkerView.{WorkerView}
use Rattle.outside_core.specs.Written.{HasWritten, HasFailed}
use Rattle.segment_worker.specs.Emitting.{IsThrough}
use Rattle.segment_crew.specs.Crews.{CrewSeen, Member}
use Rattle.lepton_decode.specs.declared.error.DecodeError.{DecodeError}
use Rattle.lepton_decode.specs.declared.error.DecodeError.TheVariants.{WriteFault, Fault, PadSpelling, ChunkShort}

-- what is seen of each worker; nothing if there is no crew
abbrev pub team_in : Option CrewSeen → List (Member WorkerView)
team_in None = []
team_in (Some crew) = crew.team

-- a container that is ready: its scans, what is seen of its crew if it has one, and whether it was decoded
pub record ReadySeen : Type 0 where
  pub scans : List BoxSeen
  pub crew : Option CrewSeen
  pub used : Bool

-- what it stands for
abbrev pub meaning_in : ReadySeen → Meaning
meaning_in ready = scans_meaning ready.scans

-- a container that is ready for one thread: its scans, and whether it was decoded
pub record AloneSeen : Type 0 where
  pub scans : List BoxSeen
  pub used : Bool

-- what it stands for
abbrev pub lone_meaning_in : AloneSeen → Meaning
lone_meaning_in ready = scans_meaning ready.scans

module _ {Sink : Type 0} (held : Sink → Option (List ℕ))
    (takes : Sink → List ℕ → Type 0) (faults : Sink → ℕ) (full : Sink → Type 0) where
  -- a decode of this meaning
  abbrev pub Ends : Sink → Sink → Meaning → Result ℕ DecodeError → Type 0
  Ends old new m (Ok written) =
      (m.verdict ≡ Restored) × (written ≡ length m.bytes) × HasWritten held takes faults old new m.bytes
  Ends old new m (Err PadSpelling) =
      (m.verdict ≡ PadSpelled) × HasWritten held takes faults old new m.bytes
  Ends old new m (Err ChunkShort) =
      (m.verdict ≡ ShortChunk) × HasWritten held takes faults old new m.bytes
  Ends old new m (Err (Fault fault)) =
      (m.verdict ≡ Faulty fault) × HasWritten held takes faults old new m.bytes
  Ends old new m (Err (WriteFault written)) =
      HasFailed held faults full old new m.bytes written

-- what the emitter's view says then: all N segments are emitted and the board isn't stopped, or it is stopped
abbrev pub HasEmitted : ℕ → EmitterView → Result ℕ DecodeError → Type 0
HasEmitted count e (Ok written) = IsThrough count e
HasEmitted count e (Err PadSpelling) = IsThrough count e
HasEmitted count e (Err ChunkShort) = IsThrough count e
HasEmitted count e (Err (Fault fault)) = e.stopped ≡ true
HasEmitted count e (Err (WriteFault written)) = Unit {0}

-- each worker has left, unless a write failed
abbrev pub HaveLeft : List (Member WorkerView) → Result ℕ DecodeError → Type 0
HaveLeft team (Ok written) = All (λ member. member.view.left ≡ true) team
HaveLeft team (Err PadSpelling) = All (λ member. member.view.left ≡ true) team
HaveLeft team (Err ChunkShort) = All (λ member. member.view.left ≡ true) team
HaveLeft team (Err (Fault fault)) = All (λ member. member.view.left ≡ true) team
HaveLeft team (Err (WriteFault written)) = Unit {0}
