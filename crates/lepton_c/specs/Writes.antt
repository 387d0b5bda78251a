-- Steps: what a decode, or the reading of a range, wrote into a sink in memory (own).
use Rattle.std.specs.Prelude.{ℕ, ◌≡◌, ◌<◌, List, length, take, Some, None, Result, Ok, Err}
use Rattle.container_spec.specs.Meanings.{Meaning, Restored, PadSpelled, ChunkShort as ShortChunk, Faulty}
use Rattle.container_spec.specs.RangeMeanings.{RangeMeaning}
use Rattle.lepton_decode.specs.declared.error.DecodeError.{DecodeError}
use Rattle.lepton_decode.specs.declared.error.DecodeError.TheVariants as errors
use Rattle.range_read.specs.declared.reading.Ranged.{Ranged}
use Rattle.segment_worker.specs.declared.emitted.EmitStop.{EmitStop}
use Rattle.segment_worker.specs.declared.emitted.EmitStop.TheVariants as stops

-- the first ones of bytes, but not all
abbrev pub IsPart : List ℕ → List ℕ → ℕ → Type 0
IsPart held bytes written = (written < length bytes) × (held ≡ take written bytes)

-- by how a decode of this meaning ended
abbrev pub Decodes : List ℕ → Meaning → Result ℕ DecodeError → Type 0
Decodes held m (Ok n) = (m.verdict ≡ Restored) × (held ≡ m.bytes)
Decodes held m (Err errors.PadSpelling) = (m.verdict ≡ PadSpelled) × (held ≡ m.bytes)
Decodes held m (Err errors.ChunkShort) = (m.verdict ≡ ShortChunk) × (held ≡ m.bytes)
Decodes held m (Err (errors.Fault fault)) = (m.verdict ≡ Faulty fault) × (held ≡ m.bytes)
Decodes held m (Err (errors.WriteFault written)) = IsPart held m.bytes written

-- by how the reading of this range ended
abbrev pub Reads : List ℕ → RangeMeaning → Result Ranged EmitStop → Type 0
Reads held m (Ok ranged) = (m.fault ≡ None) × (held ≡ m.bytes)
Reads held m (Err (stops.Fault fault)) = (m.fault ≡ Some fault) × (held ≡ m.bytes)
Reads held m (Err (stops.WriteFault written)) = IsPart held m.bytes written
