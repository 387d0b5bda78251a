-- What scans without a chunk stand for, and one scan, by the segments.
use Rattle.std.proofs.Common.{◌≡◌, ◌≤◌, ◌+◌, ℕ, List, [], ◌∷◌, length, refl, ap, ◌∙◌, arith}
use Rattle.std.specs.Prelude.{◌++◌, Option, Some, None, true}
use Rattle.std.proofs.lemmas.Bool.{and_parts}
use Rattle.std.proofs.lemmas.List.{append-nil}
use Rattle.std.specs.List.{AllByRecursion}
use Rattle.jpeg_marker.specs.Plans.{PlanFields}
use Rattle.scan_spec.specs.Pads.{is_spelled}
use Rattle.box_format.specs.Parts.{BoxParts, BoxSeen}
use Rattle.box_format.specs.declared.chunk.Chunk.{Chunk}
use Rattle.box_format.specs.Containers.{segment_count}
use Rattle.box_format.proofs.Lists.{sum_first}
use Rattle.container_spec.proofs.JoinedSegments.{joined, joined_alone}
use Rattle.container_spec.specs.Indexed.{outputs_of}
use Rattle.container_spec.specs.ScansJoined.{ScansJoined, scanned_from, scans_joined}
use Rattle.container_spec.specs.declared.kind.Kind.TheVariants.{File, Chunk as OfChunk}
use Rattle.container_spec.specs.Portions.{chunk_portion, ending_by, meaning_with, meaning_of, only_chunk, played, portion_meaning, scans_meaning, whole}
use Rattle.container_spec.proofs.JoinedScans.{means_file}
use Rattle.container_spec.proofs.OneScans.{one_is_joined}
use Rattle.container_spec.proofs.RestoredMeanings.{IsRestored, restored}

-- ---- the whole

of_file : (scans : List BoxSeen) → AllByRecursion (λ (s : BoxSeen). s.parts.chunk ≡ None) scans
    → only_chunk scans ≡ None
of_file [] none = refl
of_file (s ∷ []) none = none.0
of_file (s ∷ t ∷ scans) none = refl

pub whole_meaning : (scans : List BoxSeen)
    → AllByRecursion (λ (s : BoxSeen). s.parts.chunk ≡ None) scans
    → scans_meaning scans ≡ portion_meaning File scans (whole scans)
unfolding scans_meaning
whole_meaning scans none = ap (λ (c : Option Chunk). meaning_with c scans) (of_file scans none)

-- ---- one scan

one_count : (s : BoxSeen) → segment_count (s ∷ []) ≡ length s.parts.handovers
one_count s = let e = sum_first (length s.parts.handovers) [] in omega (arith, e)

all_alone : (s : BoxSeen) → played (s ∷ []) (whole (s ∷ [])) ≡ joined_alone (joined (outputs_of s.plan s.parts))
all_alone s =
    let n = length s.parts.handovers in
    let z : 0 + n ≤ n = omega arith in
    ap (λ (k : ℕ). scans_joined (scanned_from (s ∷ []) 0 k)) (one_count s) ∙ one_is_joined s 0 n z

-- without a chunk
pub file_alone : (s : BoxSeen) → s.parts.chunk ≡ None
    → scans_meaning (s ∷ [])
    ≡ (let j = joined (outputs_of s.plan s.parts) in
    ending_by File (s ∷ []) (whole (s ∷ [])) (joined_alone j) j.fault)
file_alone s none =
    whole_meaning (s ∷ []) (none, tt)
    ∙ ap (λ (all : ScansJoined). ending_by File (s ∷ []) (whole (s ∷ [])) all all.fault)
    (all_alone s)

pub is_restored : (plan : PlanFields) (b : BoxParts) (file : List ℕ) → b.chunk ≡ None
    → restored file ≡ meaning_of plan b → IsRestored b (joined (outputs_of plan b)) file
is_restored plan b file none e =
    let s : BoxSeen = record { plan = plan; parts = b } in
    let j = joined (outputs_of plan b) in
    let are = means_file (s ∷ []) (joined_alone j) j.fault file refl (e ∙ file_alone s none) in
    record {
      none = are.none;
      text = are.text ∙ ap (λ (l : List ℕ). (b.header ++ j.bytes) ++ l) (append-nil b.trailer);
      told = (and_parts (is_spelled b.pads j.padded) true are.spelled).0;
    }

-- with one
pub chunk_alone : (s : BoxSeen) (c : Chunk) → s.parts.chunk ≡ Some c
    → scans_meaning (s ∷ [])
    ≡ (let j = joined (outputs_of s.plan s.parts) in
    ending_by (OfChunk c) (s ∷ []) (chunk_portion c (s ∷ [])) (joined_alone j) j.fault)
unfolding scans_meaning
chunk_alone s c some =
    ap (λ (chunk : Option Chunk). meaning_with chunk (s ∷ [])) some
    ∙ ap (λ (all : ScansJoined). ending_by (OfChunk c) (s ∷ []) (chunk_portion c (s ∷ [])) all
    all.fault) (all_alone s)
