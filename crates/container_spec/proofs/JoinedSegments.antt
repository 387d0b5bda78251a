-- Segments one after another, as those of one scan, and such that end well.
use Rattle.std.proofs.Common.{◌≡◌, ℕ, zero, suc, ◌+◌, ◌<◌, ◌≤◌, List, [], ◌∷◌, ◌++◌, map, Option, Some, refl, ap₂, arith, None}
use Rattle.std.specs.Prelude.{flat_map}
use Rattle.std.specs.List.{range_with_len}
use Rattle.handover.specs.PadSums.{no_pads, pads_with}
use Rattle.handover.specs.declared.pads.PadSum.{PadSum}
use Rattle.handover.specs.declared.outcome.StreamFault.{StreamFault}
use Rattle.handover.specs.declared.outcome.Outcome.{Outcome}
use Rattle.handover.specs.declared.outcome.Outcome.TheVariants.{Good, Bad}
use Rattle.cut_spec.specs.Seams.{slices}
use Rattle.container_spec.specs.Segments.{Output}
use Rattle.handover.specs.ScanSums.{sums_of}
use Rattle.container_spec.specs.ScansJoined.{ScansJoined}

-- bytes through the first segment that is bad, its fault, and what was padded where there is none
pub record Joined : Type 0 where
  pub bytes : List ℕ
  pub fault : Option StreamFault
  pub padded : PadSum

-- a segment before others
abbrev pub joined_with : List ℕ → Outcome → Joined → Joined
joined_with bytes (Good padded) more = record {
  bytes = bytes ++ more.bytes;
  fault = more.fault;
  padded = pads_with padded more.padded;
}
joined_with bytes (Bad fault) more =
    record { bytes = bytes; fault = Some fault; padded = no_pads }

-- segments, one after another
abbrev pub joined : List Output → Joined
joined [] = record { bytes = []; fault = None; padded = no_pads }
joined (output ∷ outputs) = joined_with output.0 output.1 (joined outputs)

-- all of them as those of a container's only scan
abbrev pub joined_alone : Joined → ScansJoined
joined_alone j =
    record { bytes = j.bytes; fault = j.fault; padded = sums_of 0 j.padded }

-- what some segments padded
abbrev pub all_sum : (ℕ → PadSum) → ℕ → ℕ → PadSum
all_sum padded i zero = no_pads
all_sum padded i (suc count) = pads_with (padded i) (all_sum padded (i + 1) count)

abbrev pub good_join : List ℕ → PadSum → Joined
good_join bytes padded = record { bytes = bytes; fault = None; padded = padded }

pub joined_good : (output : ℕ → Output) (slice : ℕ → ℕ → List ℕ) (cut : ℕ → ℕ)
    (padded : ℕ → PadSum) (count i : ℕ)
    → ((j : ℕ) → i ≤ j → j < i + count → output j ≡ (slice (cut j) (cut (j + 1)), Good (padded j)))
    → joined (map output (range_with_len i count))
    ≡ good_join (flat_map (λ bytes. bytes) (slices slice cut i count)) (all_sum padded i count)
joined_good output slice cut padded zero i each = refl
joined_good output slice cut padded (suc count) i each =
    let first = each i (omega arith) (omega arith) in
    let rest = joined_good output slice cut padded count (i + 1)
    (λ j after within. each j (omega (arith, after)) (omega (arith, within))) in
    ap₂ (λ (o : Output) (more : Joined). joined_with o.0 o.1 more) first rest
