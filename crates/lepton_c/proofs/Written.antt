-- What a decode, or the reading of a range, wrote into an empty sink in memory.
use Rattle.std.proofs.Common.{◌≡◌, ℕ, ◌++◌, List, [], Some, Result, Ok, Err, ap, ◌∙◌}
use Rattle.container_spec.specs.Meanings.{Meaning}
use Rattle.container_spec.specs.RangeMeanings.{RangeMeaning}
use Rattle.outside_core.specs.Memory.{Store, StoreFull, store_faults}
use Rattle.outside_core.specs.Takes.{Anything}
use Rattle.lepton_decode.specs.Ends.{Ends}
use Rattle.lepton_decode.specs.declared.error.DecodeError.{DecodeError}
use Rattle.lepton_decode.specs.declared.error.DecodeError.TheVariants as errors
use Rattle.range_read.specs.RangeEnds.{RangeEnds}
use Rattle.range_read.specs.declared.reading.Ranged.{Ranged}
use Rattle.segment_worker.specs.declared.emitted.EmitStop.{EmitStop}
use Rattle.segment_worker.specs.declared.emitted.EmitStop.TheVariants as stops
use Rattle.lepton_c.specs.Writes.{Decodes, Reads}

-- what was appended to nothing
alone : (start held bytes : List ℕ) → start ≡ [] → held ≡ start ++ bytes → held ≡ bytes
alone start held bytes none is = is ∙ ap (λ (l : List ℕ). l ++ bytes) none

pub decodes : (start store : Store) (m : Meaning) (ended : Result ℕ DecodeError) → start.held ≡ []
    → Ends (λ (s : Store). Some s.held) Anything store_faults StoreFull start store m ended
    → Decodes store.held m ended
decodes start store m (Ok n) none e = (e.0, alone start.held store.held m.bytes none e.2.appended)
decodes start store m (Err errors.PadSpelling) none e =
    (e.0, alone start.held store.held m.bytes none e.1.appended)
decodes start store m (Err errors.ChunkShort) none e =
    (e.0, alone start.held store.held m.bytes none e.1.appended)
decodes start store m (Err (errors.Fault fault)) none e =
    (e.0, alone start.held store.held m.bytes none e.1.appended)
decodes start store m (Err (errors.WriteFault written)) none e =
    (e.short, alone start.held store.held _ none e.appended)

pub reads : (start store : Store) (m : RangeMeaning) (ended : Result Ranged EmitStop) → start.held ≡ []
    → RangeEnds (λ (s : Store). Some s.held) Anything store_faults StoreFull start store m ended
    → Reads store.held m ended
reads start store m (Ok ranged) none e = (e.0, alone start.held store.held m.bytes none e.3.appended)
reads start store m (Err (stops.Fault fault)) none e =
    (e.0, alone start.held store.held m.bytes none e.1.appended)
reads start store m (Err (stops.WriteFault written)) none e =
    (e.short, alone start.held store.held _ none e.appended)
