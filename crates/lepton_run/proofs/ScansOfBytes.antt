-- A container's bytes are bytes.
use Rattle.std.proofs.Common.{ℕ, ◌<◌, ◌≤◌, Bool, true, false, if◌then◌else◌, not, List, [], ◌∷◌, ◌++◌, length, flat_map, sym, subst, arith}
use Rattle.std.specs.List.{AllByRecursion}
use Rattle.std.proofs.lemmas.List.{length-map}
use Rattle.byteorder.specs.Endian.{big_bytes}
use Rattle.bit_list.specs.Bits.{IsByte}
use Rattle.jpeg_marker.specs.Plans.{PlanFields}
use Rattle.jpeg_marker.specs.Walks.{Walk, next_walk}
use Rattle.jpeg_marker.specs.FirstWalks.{opening_walk}
use Rattle.box_format.specs.Parts.{BoxParts, IsBoxIn, list_bytes, length_said, chunk_bytes, place_bytes, pad_byte, records, BoxSeen}
use Rattle.box_format.proofs.Layouts.{most_few}
use Rattle.box_format.specs.Containers.{AreBoxes, AreScans, all_parts, scan_fields, scan_header, scan_streams, container_bytes, scans_said, trailer_of}
use Rattle.lepton_run.proofs.BoxesOfBytes.{both_are, chunk_are, named_are, number_are, pad_is, place_are, records_are, streams_are}
use Rattle.box_format.specs.declared.version.Version.{Version}
use Rattle.box_format.specs.declared.version.Version.TheVariants.{First, Second, Third, Fourth, Fifth}
use Rattle.box_format.specs.Versions.{layout_of}
use Rattle.box_format.specs.Single.{IsBoxOf}
use Rattle.box_format.proofs.Singles.{one_is_container}

-- the parts of each scan
fields_are : (w : Walk) (plan : PlanFields) (b : BoxParts) → IsBoxIn w plan b
    → AllByRecursion IsByte (scan_fields b)
fields_are w plan b is =
    let few = is.few in
    let most = most_few b.version in
    let count : IsByte (length b.handovers) = omega (arith, few, most) in
    let first : List ℕ = pad_byte b.pads ∷ length b.handovers ∷ [] in
    let header = big_bytes 4 (length b.header) in
    let trailer = length_said (not (layout_of b.version).several) b.trailer in
    let list = length_said (layout_of b.version).listed (list_bytes b.pads) in
    let chunk = chunk_bytes b.chunk in
    let end = place_bytes b.places (length b.handovers) in
    let long = both_are first header (pad_is b.pads, (count, tt)) (number_are 4 (length b.header)) in
    let both = both_are (first ++ header) trailer long
    (named_are (not (layout_of b.version).several) b.trailer) in
    let named = both_are ((first ++ header) ++ trailer) list both
    (named_are (layout_of b.version).listed (list_bytes b.pads)) in
    let chunked = both_are (((first ++ header) ++ trailer) ++ list) chunk named (chunk_are b.chunk) in
    let placed = both_are ((((first ++ header) ++ trailer) ++ list) ++ chunk) end chunked
    (place_are b.places (length b.handovers)) in
    both_are (((((first ++ header) ++ trailer) ++ list) ++ chunk) ++ end)
    (records b.places 0 b.handovers b.streams) placed
    (records_are b.places 0 b.handovers b.streams is.each)

header_are : (w : Walk) (plan : PlanFields) (b : BoxParts) → IsBoxIn w plan b
    → AllByRecursion IsByte (scan_header b)
header_are w plan b is = both_are (list_bytes b.pads) b.header is.list_bytes_are is.header_bytes

scan_streams_are : (w : Walk) (plan : PlanFields) (b : BoxParts) → IsBoxIn w plan b
    → AllByRecursion IsByte (scan_streams b)
scan_streams_are w plan b is = streams_are b.streams is.stream_bytes

trailer_are : (w : Walk) (plan : PlanFields) (b : BoxParts) → IsBoxIn w plan b
    → AllByRecursion IsByte b.trailer
trailer_are w plan b is = is.trailer_bytes

-- and of all scans
all_are : (f : BoxParts → List ℕ)
    → ((w : Walk) (plan : PlanFields) (b : BoxParts) → IsBoxIn w plan b → AllByRecursion IsByte (f b))
    → (w : Walk) (scans : List BoxSeen) → AreBoxes w scans
    → AllByRecursion IsByte (flat_map f (all_parts scans))
all_are f each w [] are = absurd are
all_are f each w (s ∷ []) are = both_are (f s.parts) [] (each w s.plan s.parts are.0) tt
all_are f each w (s ∷ t ∷ scans) are =
    both_are (f s.parts) (flat_map f (all_parts (t ∷ scans))) (each w s.plan s.parts are.0)
    (all_are f each (next_walk s.plan.known 0) (t ∷ scans) are.3)

version_is : (v : Version) → (layout_of v).byte < 128
version_is First = omega arith
version_is Second = omega arith
version_is Third = omega arith
version_is Fourth = omega arith
version_is Fifth = omega arith

said_are : (several : Bool) (n : ℕ) (trailer : List ℕ) → n ≤ 4
    → AllByRecursion IsByte (scans_said several n trailer)
said_are true n trailer few =
    let count : IsByte n = omega (arith, few) in (count, number_are 4 (length trailer))
said_are false n trailer few = tt

few_scans : (b : Bool) (n : ℕ) → n ≤ (if b then 4 else 1) → n ≤ 4
few_scans true n few = few
few_scans false n few = omega (arith, few)

pub scans_are : (v : Version) (scans : List BoxSeen) → AreScans v scans
    → AllByRecursion IsByte (container_bytes v (all_parts scans))
unfolding container_bytes
scans_are v scans is =
    let parts = all_parts scans in
    let most = few_scans (layout_of v).several (length scans) is.most in
    let long = length-map scans (λ (s : BoxSeen). s.parts) in
    let letter : (n : ℕ) → n < 128 → IsByte n = λ n small. omega (arith, small) in
    let first : List ℕ = 0x4c ∷ 0x50 ∷ 0x53 ∷ 0x47 ∷ (layout_of v).byte ∷ [] in
    let first_are : AllByRecursion IsByte first = (
      letter 0x4c (omega arith),
      (
        letter 0x50 (omega arith),
        (
          letter 0x53 (omega arith),
          (letter 0x47 (omega arith), (letter (layout_of v).byte (version_is v), tt)),
        ),
      ),
    ) in
    let said = scans_said (layout_of v).several (length parts) (trailer_of parts) in
    let front = both_are first said first_are
    (said_are (layout_of v).several (length parts) (trailer_of parts) (omega (arith, most, long))) in
    let fields = flat_map scan_fields parts in
    let headers = flat_map scan_header parts in
    let a = both_are (first ++ said) fields front (all_are scan_fields fields_are opening_walk scans is.each) in
    let b = both_are ((first ++ said) ++ fields) headers a
    (all_are scan_header header_are opening_walk scans is.each) in
    let c = both_are (((first ++ said) ++ fields) ++ headers) (trailer_of parts) b
    (all_are (λ (x : BoxParts). x.trailer) trailer_are opening_walk scans is.each) in
    both_are ((((first ++ said) ++ fields) ++ headers) ++ trailer_of parts)
    (flat_map scan_streams parts) c
    (all_are scan_streams scan_streams_are opening_walk scans is.each)

-- so are those of a container of one scan
pub box_are : (plan : PlanFields) (b : BoxParts) (bytes : List ℕ) → IsBoxOf plan b bytes
    → AllByRecursion IsByte bytes
box_are plan b bytes of =
    let s : BoxSeen = record { plan = plan; parts = b } in
    let is = one_is_container s bytes of in
    subst (AllByRecursion IsByte) (sym is.text) (scans_are b.version (s ∷ []) is.are)
