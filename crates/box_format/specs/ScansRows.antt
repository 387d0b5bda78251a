-- Rows: worked containers of several scans (own).
use Rattle.std.specs.Prelude.{ℕ, ◌+◌, ◌==◌, if◌then◌else◌, ◌≡◌, Bool, true, false, List, [], ◌∷◌, ◌++◌, length, replicate, map, take, drop, slice_set, Some, None}
use Rattle.std.specs.List.{range_with_len}
use Rattle.jpeg_marker.specs.HeldTables.{eight_tables}
use Rattle.jpeg_marker.specs.Plans.{PlanFields}
use Rattle.jpeg_marker.specs.declared.refusal.HeaderRefusal.TheVariants.{MultiScan}
use Rattle.jpeg_marker.specs.declared.parameters.FrameComponent.{FrameComponent}
use Rattle.scan_spec.specs.BlockRows.{level_table}
use Rattle.scan_spec.specs.FileParts.{is_last}
use Rattle.scan_spec.specs.Pads.{Same}
use Rattle.handover.specs.Handovers.{start}
use Rattle.box_format.specs.Parts.{BoxParts, BoxSeen}
use Rattle.box_format.specs.Versions.{layout_of}
use Rattle.box_format.specs.declared.version.Layout.{Layout}
use Rattle.box_format.specs.declared.version.Version.TheVariants.{Fourth}
use Rattle.box_format.specs.declared.refusal.BoxRefusal.TheVariants.{BoxMagic, BoxVersion, BoxCut, BoxHeader, HeaderLong, BoxSegments, BoxPad, HandoverBad, BoxLong}
use Rattle.box_format.specs.Containers.{IsContainer, all_parts, container_bytes}
use Rattle.box_format.specs.Fields.{raws_of}
use Rattle.box_format.specs.Checks.{IsRefused, early_fault, late_fault, boxes_of}

-- a header of two components, 8 by 8 samples, with one code word in each table, and a scan of the first component
abbrev pub header_one : List ℕ
header_one =
    0xff ∷ 0xd8 ∷ 0xff ∷ 0xc0 ∷ 0x00 ∷ 0x0e ∷ 0x08 ∷ 0x00 ∷ 0x08 ∷ 0x00 ∷ 0x08 ∷ 0x02
    ∷ 0x01 ∷ 0x11 ∷ 0x00 ∷ 0x02 ∷ 0x11 ∷ 0x00 ∷ []
    ++ 0xff ∷ 0xc4 ∷ 0x00 ∷ 0x14 ∷ 0x00 ∷ 0x01 ∷ replicate 15 0 ++ 0x00 ∷ []
    ++ 0xff ∷ 0xc4 ∷ 0x00 ∷ 0x14 ∷ 0x10 ∷ 0x01 ∷ replicate 15 0 ++ 0x00 ∷ []
    ++ 0xff ∷ 0xda ∷ 0x00 ∷ 0x08 ∷ 0x01 ∷ 0x01 ∷ 0x00 ∷ 0x00 ∷ 0x3f ∷ 0x00 ∷ []

-- that of a scan of the second one
abbrev pub header_two : List ℕ
header_two = 0xff ∷ 0xda ∷ 0x00 ∷ 0x08 ∷ 0x01 ∷ 0x02 ∷ 0x00 ∷ 0x00 ∷ 0x3f ∷ 0x00 ∷ []

-- a component as the frame has it
abbrev pub part : ℕ → FrameComponent
part id = record { id = id; h = 1; v = 1 }

-- the plan of the scan of a component, after which this number of blocks was coded, of these components
abbrev pub plan_of : ℕ → ℕ → ℕ → List Bool → PlanFields
plan_of index header_length blocks coded = record {
  components = record {
    index = index;
    id = index + 1;
    h = 1;
    v = 1;
    dc = level_table;
    ac = level_table;
  } ∷ [];
  across = 1;
  down = 1;
  interval = 0;
  header_length = header_length;
  blocks = 1;
  known = record {
    frame = Some (record { height = 8; width = 8; parts = part 1 ∷ part 2 ∷ [] });
    tables = eight_tables (λ class number. if number == 0 then Some level_table else None);
    interval = 0;
    coded = coded;
    blocks = blocks;
  };
}

-- those of both headers
abbrev pub plan_one : PlanFields
plan_one = plan_of 0 72 1 (true ∷ replicate 3 false)

abbrev pub plan_two : PlanFields
plan_two = plan_of 1 10 2 (true ∷ true ∷ replicate 2 false)

abbrev pub plans : List PlanFields
plans = plan_one ∷ plan_two ∷ []

-- a scan of one segment, whose stream is that of a block of zeros
abbrev pub plain_parts : List ℕ → List ℕ → BoxParts
plain_parts header trailer = record {
  version = Fourth;
  chunk = None;
  places = None;
  pads = Same true;
  header = header;
  trailer = trailer;
  handovers = start ∷ [];
  streams = (0 ∷ 0 ∷ 0 ∷ []) ∷ [];
}

-- the scans of a file of 86 bytes
abbrev pub two : List BoxSeen
two =
    record { plan = plan_one; parts = plain_parts header_one [] }
    ∷ record { plan = plan_two; parts = plain_parts header_two (0xff ∷ 0xd9 ∷ []) } ∷ []

-- their container, byte for byte
abbrev pub two_box : List ℕ
two_box =
    0x4c ∷ 0x50 ∷ 0x53 ∷ 0x47 ∷ 4 ∷ 2 ∷ 0 ∷ 0 ∷ 0 ∷ 2 ∷ []
    ++ 1 ∷ 1 ∷ 0 ∷ 0 ∷ 0 ∷ 0x48 ∷ 0 ∷ 0 ∷ 0 ∷ 0 ∷ replicate 14 0 ++ replicate 7 0 ++ 3 ∷ []
    ++ 1 ∷ 1 ∷ 0 ∷ 0 ∷ 0 ∷ 0x0a ∷ 0 ∷ 0 ∷ 0 ∷ 0 ∷ replicate 14 0 ++ replicate 7 0 ++ 3 ∷ []
    ++ header_one ++ header_two ++ 0xff ∷ 0xd9 ∷ 0 ∷ 0 ∷ 0 ∷ 0 ∷ 0 ∷ 0 ∷ []

abbrev pub four : Layout
four = layout_of Fourth

-- bytes and scans, both ways
abbrev pub laid_out : Type 0
laid_out =
    (length header_one ≡ 72)
    × (length two_box ≡ 164)
    × (container_bytes Fourth (all_parts two) ≡ two_box)
    × (map is_last plans ≡ false ∷ true ∷ [])
    × (boxes_of plans (raws_of two_box) ≡ two)
    × (early_fault (Fourth ∷ []) four two_box ≡ None)
    × (late_fault Fourth plans two_box ≡ None)

-- they are a container's scans, each header being one of a file's
abbrev pub scans : Type 0
scans = IsContainer two two_box

-- containers that are refused before a header is looked for
abbrev pub early : Type 0
early =
    (early_fault (Fourth ∷ []) four [] ≡ Some BoxMagic)
    × (early_fault (Fourth ∷ []) four (slice_set two_box 0 0x4d) ≡ Some BoxMagic)
    × (early_fault (Fourth ∷ []) four (slice_set two_box 4 2) ≡ Some BoxVersion)
    × (early_fault (Fourth ∷ []) four (slice_set two_box 4 5) ≡ Some BoxVersion)
    × (early_fault (Fourth ∷ []) four (take 4 two_box) ≡ Some BoxCut)
    × (early_fault (Fourth ∷ []) four (take 163 two_box) ≡ Some BoxCut)
    × (early_fault (Fourth ∷ []) four (slice_set two_box 5 3) ≡ Some BoxCut)
    × (early_fault (Fourth ∷ []) four (slice_set two_box 5 0) ≡ None)

-- for a header: the second scan has the component of the first one, or its header ends before its length
abbrev pub headers : Type 0
headers =
    IsRefused (slice_set two_box 151 1) (BoxHeader MultiScan)
    × IsRefused (slice_set (slice_set two_box 47 11) 9 1) (HeaderLong 10)

-- and after the headers: too few scans, scans that aren't a file's, segments without rows, pad bytes, handovers,
-- counted over all scans, and the end
abbrev pub late : Type 0
late =
    let fault = late_fault Fourth plans in
    (late_fault Fourth [] (slice_set two_box 5 0) ≡ Some BoxSegments)
    × (late_fault Fourth (plan_two ∷ []) (slice_set two_box 5 1) ≡ Some BoxSegments)
    × (late_fault Fourth (plan_one ∷ []) two_box ≡ Some BoxSegments)
    × (late_fault Fourth (plan_one ∷ plan_one ∷ []) two_box ≡ Some BoxSegments)
    × (late_fault Fourth (plan_two ∷ plan_two ∷ []) two_box ≡ Some BoxSegments)
    × (fault (slice_set (take 42 two_box ++ replicate 22 0 ++ drop 42 two_box) 11 2)
    ≡ Some BoxSegments)
    × (fault (slice_set two_box 10 2) ≡ Some BoxPad)
    × (fault (slice_set two_box 42 3) ≡ Some BoxPad)
    × (fault (slice_set two_box 42 0) ≡ None)
    × (fault (slice_set two_box 33 1) ≡ Some (HandoverBad 0))
    × (fault (slice_set two_box 65 1) ≡ Some (HandoverBad 1))
    × (fault (slice_set (slice_set two_box 33 1) 42 3) ≡ Some (HandoverBad 0))
    × (fault (two_box ++ 0 ∷ []) ≡ Some BoxLong)
    × (fault (slice_set two_box 42 3 ++ 0 ∷ []) ≡ Some BoxPad)

-- every proper prefix of the container is refused for its first bytes, or as cut
abbrev pub prefixes : Type 0
prefixes =
    map (λ n. early_fault (Fourth ∷ []) four (take n two_box)) (range_with_len 0 164)
    ≡ replicate 4 (Some BoxMagic) ++ replicate 160 (Some BoxCut)
