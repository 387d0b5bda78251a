-- The segments of a container's only scan, one after another.
use Rattle.std.proofs.Common.{◌≡◌, ℕ, ◌+◌, ◌<◌, ◌≤◌, Bool, if◌then◌else◌, [], ◌∷◌, length, map, Option, Some, None, refl, ap, ◌∙◌, arith}
use Rattle.std.specs.Prelude.{option_map}
use Rattle.std.proofs.lemmas.Bool.{lt-ltb}
use Rattle.std.specs.List.{range_with_len}
use Rattle.handover.specs.declared.outcome.StreamFault.{StreamFault}
use Rattle.box_format.specs.Parts.{BoxSeen}
use Rattle.container_spec.specs.Segments.{Output, segment_output}
use Rattle.container_spec.specs.Meanings.{segment_in}
use Rattle.container_spec.proofs.JoinedSegments.{joined, joined_alone}
use Rattle.container_spec.specs.ScansMeanings.{fault_after, output_at, scan_of}
use Rattle.container_spec.specs.ScansJoined.{Scanned, scanned_from, scans_joined}
use Rattle.container_spec.proofs.Numbered.{mapped_same}
use Rattle.container_spec.proofs.JoinedLists.{led, others}

same_fault : (fault : StreamFault) → fault_after 0 fault ≡ fault
same_fault fault =
    let z : 0 + fault.segment ≡ fault.segment = omega arith in
    ap (λ (n : ℕ). record { segment = n; cause = fault.cause }) z

-- its segments have number 0 for their scan
here : (s : BoxSeen) (i : ℕ) → i < length s.parts.handovers
    → (let segment : Scanned = (scan_of 0 (s ∷ []) i, output_at (s ∷ []) i) in segment)
    ≡ led 0 0 [] (segment_output (segment_in s.plan s.parts i))
here s i below =
    let f : Output = segment_output (segment_in s.plan s.parts i) in
    let by : Bool → Scanned =
    λ t. (if t then 0 else 1, if t then (led 0 0 [] f).1 else output_at [] i) in
    ap by (lt-ltb i (length s.parts.handovers) below)

fault_same : (fault : Option StreamFault) → option_map (fault_after 0) fault ≡ fault
fault_same None = refl
fault_same (Some fault) = ap (λ (f : StreamFault). Some f) (same_fault fault)

pub one_is_joined : (s : BoxSeen) (first count : ℕ) → first + count ≤ length s.parts.handovers
    → scans_joined (scanned_from (s ∷ []) first count)
    ≡ joined_alone
    (joined (map (λ i. segment_output (segment_in s.plan s.parts i)) (range_with_len first count)))
one_is_joined s first count within =
    let f : ℕ → Output = λ i. segment_output (segment_in s.plan s.parts i) in
    let j = joined (map f (range_with_len first count)) in
    ap scans_joined (mapped_same (λ i. (scan_of 0 (s ∷ []) i, output_at (s ∷ []) i))
    (λ i. led 0 0 [] (f i)) first count
    (λ i low below. here s i (omega (arith, below, within))))
    ∙ others 0 0 f (range_with_len first count)
    ∙ ap (λ (o : Option StreamFault). joined_alone (record j { fault = o }))
    (fault_same j.fault)
