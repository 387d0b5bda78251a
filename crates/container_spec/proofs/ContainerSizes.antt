-- How long the container of a file can be.
use Rattle.std.proofs.Common.{ℕ, ◌+◌, ◌*◌, ◌≤◌, Bool, true, false, List, [], ◌∷◌, ◌++◌, length, arith, length-append}
use Rattle.std.specs.Prelude.{flat_map, not, Option, Some, None}
use Rattle.std.specs.List.{AllByRecursion}
use Rattle.byteorder.specs.Endian.{big_bytes}
use Rattle.handover.specs.Handovers.{HandoverFields, IsHandover}
use Rattle.handover.specs.HandoverBytes.{handover_bytes}
use Rattle.handover.proofs.FieldBytes.{fields_again}
use Rattle.box_format.specs.declared.chunk.Chunk.{Chunk}
use Rattle.box_format.specs.Parts.{BoxParts, chunk_bytes, place_bytes, records, length_said, list_bytes}
use Rattle.box_format.specs.Single.{box_bytes}
use Rattle.box_format.specs.Containers.{container_bytes, scan_fields, scan_header, scan_streams, scans_said, trailer_of}
use Rattle.box_format.specs.declared.version.Version.{Version}
use Rattle.box_format.specs.Versions.{layout_of}

-- a place has eight bytes
place_long : (places : Option (List ℕ)) (i : ℕ) → length (place_bytes places i) ≤ 8
place_long None i = omega arith
place_long (Some places) i = omega arith

pub records_long : (places : Option (List ℕ)) (i : ℕ) (hs : List HandoverFields)
    (ss : List (List ℕ)) → AllByRecursion IsHandover hs
    → length (records places i hs ss) ≤ 30 * length hs
records_long places i [] ss each = omega arith
records_long places i (h ∷ hs) [] each = omega arith
records_long places i (h ∷ hs) (s ∷ ss) each =
    let fourteen = (fields_again h each.0).0 in
    let rest = records_long places (i + 1) hs ss each.1 in
    let place = place_long places i in
    let tail = records places (i + 1) hs ss in
    let numbers = length-append (big_bytes 8 (length s)) (place_bytes places i) in
    let fields =
    length-append (handover_bytes h) (big_bytes 8 (length s) ++ place_bytes places i) in
    let all =
    length-append (handover_bytes h ++ (big_bytes 8 (length s) ++ place_bytes places i)) tail in
    omega (arith, fourteen, rest, place, numbers, fields, all)

named_long : (said : Bool) (bytes : List ℕ) → length (length_said said bytes) ≤ 4
named_long true bytes = omega arith
named_long false bytes = omega arith

chunk_long : (c : Option Chunk) → length (chunk_bytes c) ≤ 32
chunk_long None = omega arith
chunk_long (Some c) = omega arith

-- a scan's fields
pub fields_long : (b : BoxParts) → AllByRecursion IsHandover b.handovers
    → length (scan_fields b) ≤ 54 + 30 * length b.handovers
fields_long b each =
    let few = records_long b.places 0 b.handovers b.streams each in
    let end = place_long b.places (length b.handovers) in
    let named = named_long (layout_of b.version).listed (list_bytes b.pads) in
    let trailer = named_long (not (layout_of b.version).several) b.trailer in
    let chunk = chunk_long b.chunk in
    simp length-append (omega (arith, few, end, named, trailer, chunk))

said_long : (several : Bool) (n : ℕ) (trailer : List ℕ) → length (scans_said several n trailer) ≤ 5
said_long true n trailer = omega arith
said_long false n trailer = omega arith

-- a container
pub scans_long : (v : Version) (scans : List BoxParts)
    → length (container_bytes v scans)
    ≤ 10 + length (flat_map scan_fields scans) + length (flat_map scan_header scans)
    + length (trailer_of scans) + length (flat_map scan_streams scans)
unfolding container_bytes
scans_long v scans =
    let said = said_long (layout_of v).several (length scans) (trailer_of scans) in
    simp length-append (omega (arith, said))

pub box_long : (b : BoxParts) → AllByRecursion IsHandover b.handovers
    → length (box_bytes b)
    ≤ 64 + length (list_bytes b.pads) + 30 * length b.handovers + length b.header
    + length b.trailer + length (flat_map (λ stream. stream) b.streams)
box_long b each =
    let fields = fields_long b each in
    let all = scans_long b.version (b ∷ []) in
    let a = length-append (scan_fields b) [] in
    let h = length-append (scan_header b) [] in
    let l = length-append (list_bytes b.pads) b.header in
    let t = length-append b.trailer [] in
    let s = length-append (scan_streams b) [] in
    omega (arith, fields, all, a, h, l, t, s)
