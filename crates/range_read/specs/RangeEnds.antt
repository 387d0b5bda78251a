-- Statement: a range that is read, and what it leaves in a sink (own).
use Rattle.std.specs.Prelude.{ℕ, ◌≡◌, Bool, List, [], ◌∷◌, length, Option, Some, None, Result, Ok, Err}
use Rattle.jpeg_marker.specs.Plans.{PlanFields}
use Rattle.box_format.specs.Parts.{BoxParts, BoxSeen}
use Rattle.byte_window.specs.PartedFiles.{begun_within, parts_within}
use Rattle.container_spec.specs.RangeMeanings.{RangeMeaning, placed_file, range_meaning}
use Rattle.segment_crew.specs.Crews.{CrewSeen}
use Rattle.segment_crew.specs.Worth.{workers_of}
use Rattle.segment_crew.specs.declared.worth.Workers.{Workers}
use Rattle.segment_worker.specs.Contents.{Stretch, stretch}
use Rattle.outside_core.specs.Written.{HasWritten, HasFailed}
use Rattle.segment_worker.specs.declared.emitted.EmitStop.{EmitStop}
use Rattle.segment_worker.specs.declared.emitted.EmitStop.TheVariants.{Fault, WriteFault}
use Rattle.lepton_decode.specs.declared.error.DecodeError.{DecodeError}
use Rattle.lepton_decode.specs.declared.error.DecodeError.TheVariants as errors
use Rattle.range_read.specs.declared.reading.Ranged.{Ranged}

-- a range that is ready: its container's plan and parts, from where to before where it is, what is seen of the crew of
-- its segments, if it has any, and whether it was read
pub record RangeSeen : Type 0 where
  pub plan : PlanFields
  pub parts : BoxParts
  pub from : ℕ
  pub to : ℕ
  pub crew : Option CrewSeen
  pub used : Bool

-- what it is
abbrev pub range_in : RangeSeen → RangeMeaning
range_in ready = range_meaning ready.plan ready.parts ready.from ready.to

-- a range that is ready for one thread: its container's plan and parts, from where to before where it is, how many
-- segments its decoder began, if it has one, and whether it was read
pub record LoneRangeSeen : Type 0 where
  pub plan : PlanFields
  pub parts : BoxParts
  pub from : ℕ
  pub to : ℕ
  pub begun : Option ℕ
  pub used : Bool

-- what it is
abbrev pub lone_range_in : LoneRangeSeen → RangeMeaning
lone_range_in ready = range_meaning ready.plan ready.parts ready.from ready.to

-- the segments of a container from the first to the last with a place in a range
abbrev pub stretch_between : BoxSeen → ℕ → ℕ → Stretch
stretch_between v from to =
    let f = placed_file v.plan v.parts in
    stretch (v ∷ []) (parts_within f from to).from (begun_within f from to)

-- and in this one
abbrev pub stretch_in : RangeSeen → Stretch
stretch_in ready =
    stretch_between (record { plan = ready.plan; parts = ready.parts }) ready.from ready.to

-- and in one for one thread
abbrev pub lone_stretch_in : LoneRangeSeen → Stretch
lone_stretch_in ready =
    stretch_between (record { plan = ready.plan; parts = ready.parts }) ready.from ready.to

-- how many workers are asked for
abbrev pub workers_in : RangeSeen → Workers → ℕ
workers_in ready workers =
    let scans = record { plan = ready.plan; parts = ready.parts } ∷ [] in
    workers_of scans (stretch_in ready).count workers

-- how a portion that is a range may end: nothing is asked of its pad bits or of its length
abbrev pub CanEndRange : Result ℕ DecodeError → Type 0
CanEndRange (Ok written) = Unit {0}
CanEndRange (Err (errors.WriteFault written)) = Unit {0}
CanEndRange (Err (errors.Fault fault)) = Unit {0}
CanEndRange (Err errors.PadSpelling) = ⊥
CanEndRange (Err errors.ChunkShort) = ⊥

-- the same of the range, with so many segments
abbrev pub IsRanged : ℕ → Result ℕ DecodeError → Result Ranged EmitStop → Type 0
IsRanged begun (Ok written) result = result ≡ Ok (record { written = written; begun = begun })
IsRanged begun (Err (errors.WriteFault written)) result = result ≡ Err (WriteFault written)
IsRanged begun (Err (errors.Fault fault)) result = result ≡ Err (Fault fault)
IsRanged begun (Err errors.PadSpelling) result = ⊥
IsRanged begun (Err errors.ChunkShort) result = ⊥

module _ {Sink : Type 0} (held : Sink → Option (List ℕ))
    (takes : Sink → List ℕ → Type 0) (faults : Sink → ℕ) (full : Sink → Type 0) where
  -- a reading of this range
  abbrev pub RangeEnds : Sink → Sink → RangeMeaning → Result Ranged EmitStop → Type 0
  RangeEnds old new m (Ok ranged) =
      (m.fault ≡ None) × (ranged.written ≡ length m.bytes) × (ranged.begun ≡ m.begun)
      × HasWritten held takes faults old new m.bytes
  RangeEnds old new m (Err (Fault fault)) =
      (m.fault ≡ Some fault) × HasWritten held takes faults old new m.bytes
  RangeEnds old new m (Err (WriteFault written)) =
      HasFailed held faults full old new m.bytes written
