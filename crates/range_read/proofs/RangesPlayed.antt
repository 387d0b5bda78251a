-- A range, by what is written of its portion.
use Rattle.std.proofs.Common.{◌≡◌, ℕ, ◌+◌, ◌≤◌, List, [], ◌∷◌, length, refl, sym, ap, subst, arith, Option, Result, Ok, Err}
use Rattle.outside_core.specs.Takes.{TakesNext}
use Rattle.byte_window.proofs.PartedFacts.{parts_are_in_file}
use Rattle.box_format.specs.Parts.{BoxSeen}
use Rattle.box_format.specs.Containers.{segment_count}
use Rattle.box_format.proofs.Lists.{sum_first}
use Rattle.container_spec.specs.declared.kind.Kind.TheVariants.{Range}
use Rattle.container_spec.specs.Meanings.{Meaning}
use Rattle.container_spec.specs.Portions.{Portion, portion_meaning}
use Rattle.container_spec.specs.RangeMeanings.{RangeMeaning, fault_in, placed_file, range_meaning, range_portion}
use Rattle.segment_worker.specs.declared.emitted.EmitStop.{EmitStop}
use Rattle.lepton_decode.specs.declared.error.DecodeError.{DecodeError}
use Rattle.lepton_decode.specs.declared.error.DecodeError.TheVariants as errors
use Rattle.lepton_decode.specs.Ends.{Ends}
use Rattle.range_read.specs.RangeEnds.{IsRanged, RangeEnds}
use Rattle.range_read.specs.declared.reading.Ranged.{Ranged}

module _ (v : BoxSeen) (from to : ℕ) (scans : List BoxSeen) (p : Portion) (alone : scans ≡ v ∷ [])
    (its : p ≡ range_portion (placed_file v.plan v.parts) from to) where
  -- what the range is, and what its portion stands for
  abbrev r : RangeMeaning
  r = range_meaning v.plan v.parts from to

  abbrev m : Meaning
  m = portion_meaning Range scans p

  r_is : r ≡ record { bytes = m.bytes; fault = fault_in m.verdict; begun = p.count }
  unfolding range_meaning
  r_is = rw (alone, its) refl

  -- its segments are the container's
  pub range_within : p.first + p.count ≤ segment_count scans
  range_within =
      let within = parts_are_in_file (placed_file v.plan v.parts) from to in
      let order = within.0 in
      let fits = within.1 in
      let all = sum_first (length v.parts.handovers) [] in
      subst (λ (l : List BoxSeen). p.first + p.count ≤ segment_count l) (sym alone)
      (subst (λ (q : Portion). q.first + q.count ≤ segment_count (v ∷ [])) (sym its)
      (omega (arith, order, fits, all)))

  module _ {Sink : Type 0} (held : Sink → Option (List ℕ))
      (takes : Sink → List ℕ → Type 0) (faults : Sink → ℕ) (full : Sink → Type 0) where
    pub range_taken : (sink : Sink) → TakesNext takes sink r.bytes → TakesNext takes sink m.bytes
    range_taken sink next = subst (λ (x : RangeMeaning). TakesNext takes sink x.bytes) r_is next

    -- how the range ends
    by_end : (old new : Sink) (ended : Result ℕ DecodeError) (result : Result Ranged EmitStop)
        → Ends held takes faults full old new m ended → IsRanged p.count ended result
        → RangeEnds held takes faults full old new
        (record { bytes = m.bytes; fault = fault_in m.verdict; begun = p.count }) result
    by_end old new (Ok written) result e is =
        subst (RangeEnds held takes faults full old new (record { bytes = m.bytes; fault = fault_in m.verdict; begun = p.count }))
        (sym is) (ap fault_in e.0, e.1, refl, e.2)
    by_end old new (Err (errors.WriteFault written)) result e is =
        subst (RangeEnds held takes faults full old new (record { bytes = m.bytes; fault = fault_in m.verdict; begun = p.count }))
        (sym is) e
    by_end old new (Err (errors.Fault fault)) result e is =
        subst (RangeEnds held takes faults full old new (record { bytes = m.bytes; fault = fault_in m.verdict; begun = p.count }))
        (sym is) (ap fault_in e.0, e.1)
    by_end old new (Err errors.PadSpelling) result e is = absurd is
    by_end old new (Err errors.ChunkShort) result e is = absurd is

    pub range_ends : (old new : Sink) (ended : Result ℕ DecodeError) (result : Result Ranged EmitStop)
        → Ends held takes faults full old new m ended → IsRanged p.count ended result
        → RangeEnds held takes faults full old new r result
    range_ends old new ended result e is =
        subst (λ (x : RangeMeaning). RangeEnds held takes faults full old new x result) (sym r_is)
        (by_end old new ended result e is)
