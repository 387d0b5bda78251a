-- A range as a portion, by its segments one after another.
use Rattle.std.proofs.Common.{◌≡◌, ℕ, ◌-◌, List, [], ◌∷◌, ◌++◌, map, Option, Some, None, refl, ap, ◌∙◌, arith, append_assoc}
use Rattle.std.specs.List.{range_with_len}
use Rattle.byte_window.specs.Slices.{Cover}
use Rattle.byte_window.specs.Windows.{window}
use Rattle.jpeg_marker.specs.Plans.{PlanFields}
use Rattle.handover.specs.declared.outcome.StreamFault.{StreamFault}
use Rattle.box_format.specs.Parts.{BoxParts, BoxSeen}
use Rattle.container_spec.specs.Segments.{segment_output}
use Rattle.container_spec.proofs.JoinedSegments.{Joined, joined, joined_alone}
use Rattle.container_spec.specs.Meanings.{Meaning, segment_in}
use Rattle.container_spec.specs.declared.kind.Kind.TheVariants.{Range}
use Rattle.container_spec.specs.Portions.{ending_by}
use Rattle.container_spec.specs.ScansJoined.{ScansJoined}
use Rattle.container_spec.specs.RangeMeanings.{RangeMeaning, fault_in, placed_file, range_meaning, range_portion}
use Rattle.container_spec.proofs.OneScans.{one_is_joined}
use Rattle.byte_window.specs.PartedFiles.{PartedFile, parts_within, begun_within, window_within, header_within, trailer_within}
use Rattle.byte_window.proofs.PartedFacts.{parts_are_in_file}

-- segments from one to before another, one after another
abbrev pub joined_between : PlanFields → BoxParts → Cover → Joined
joined_between plan b c =
    joined (map (λ i. segment_output (segment_in plan b i)) (range_with_len c.from (c.to - c.from)))

-- by the first fault of the segments: the trailer's part comes only if there is none
abbrev pub range_by : PartedFile → ℕ → ℕ → List ℕ → Option StreamFault → RangeMeaning
range_by f from to read (Some fault) = record {
  bytes = header_within f from to ++ read;
  fault = Some fault;
  begun = begun_within f from to;
}
range_by f from to read None = record {
  bytes = header_within f from to ++ (read ++ trailer_within f from to);
  fault = None;
  begun = begun_within f from to;
}

abbrev as_range : ℕ → Meaning → RangeMeaning
as_range begun m = record { bytes = m.bytes; fault = fault_in m.verdict; begun = begun }

range_end : (scans : List BoxSeen) (f : PartedFile) (from to : ℕ) (j : Joined)
    (fault : Option StreamFault)
    → as_range (begun_within f from to)
    (ending_by Range scans (range_portion f from to) (joined_alone j) fault)
    ≡ range_by f from to (window (window_within f from to) j.bytes) fault
range_end scans f from to j (Some fault) = refl
range_end scans f from to j None =
    ap (λ (l : List ℕ). record { bytes = l; fault = None; begun = begun_within f from to })
    (append_assoc (header_within f from to) (window (window_within f from to) j.bytes)
    (trailer_within f from to))

pub as_read : (plan : PlanFields) (b : BoxParts) (from to : ℕ)
    → range_meaning plan b from to
    ≡ (let f = placed_file plan b in
    let all = joined_between plan b (parts_within f from to) in
    range_by f from to (window (window_within f from to) all.bytes) all.fault)
unfolding range_meaning
as_read plan b from to =
    let s : BoxSeen = record { plan = plan; parts = b } in
    let f = placed_file plan b in
    let j = joined_between plan b (parts_within f from to) in
    let within = parts_are_in_file f from to in
    let order = within.0 in
    let fits = within.1 in
    ap (λ (k : ScansJoined). as_range (begun_within f from to)
    (ending_by Range (s ∷ []) (range_portion f from to) k k.fault))
    (one_is_joined s (parts_within f from to).from (begun_within f from to)
    (omega (arith, order, fits)))
    ∙ range_end (s ∷ []) f from to j j.fault
