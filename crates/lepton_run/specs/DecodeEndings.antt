-- Steps: the ending of the top call by what a decode or a range answers, and which ending says out of memory (own).
use Rattle.std.specs.Prelude.{ℕ, Result, Ok, Err}
use Rattle.lepton_decode.specs.declared.error.DecodeError.{DecodeError}
use Rattle.lepton_decode.specs.declared.error.DecodeError.TheVariants.{WriteFault, Fault, PadSpelling, ChunkShort}
use Rattle.segment_worker.specs.declared.emitted.EmitStop.{EmitStop}
use Rattle.segment_worker.specs.declared.emitted.EmitStop.TheVariants as stops
use Rattle.range_read.specs.declared.reading.Ranged.{Ranged}
use Rattle.lepton_run.specs.declared.ending.Ending.{Ending}
use Rattle.lepton_run.specs.declared.ending.Ending.TheVariants.{Done, Refused, WriteFailed, NoMemory}
use Rattle.lepton_run.specs.declared.refusal.Refusal.TheVariants as Refusal

-- the ending of a decode's answer
abbrev pub decode_ending : Result ℕ DecodeError → Ending
decode_ending (Ok written) = Done
decode_ending (Err PadSpelling) = Refused Refusal.PadSpelling
decode_ending (Err ChunkShort) = Refused Refusal.ChunkShort
decode_ending (Err (Fault fault)) = Refused (Refusal.Fault fault)
decode_ending (Err (WriteFault written)) = WriteFailed

-- the ending of a range's answer
abbrev pub range_ending : Result Ranged EmitStop → Ending
range_ending (Ok ranged) = Done
range_ending (Err (stops.Fault fault)) = Refused (Refusal.Fault fault)
range_ending (Err (stops.WriteFault written)) = WriteFailed

-- out of memory
abbrev pub IsNoMemory : Ending → Type 0
IsNoMemory (NoMemory short) = Unit {0}
IsNoMemory other = ⊥
