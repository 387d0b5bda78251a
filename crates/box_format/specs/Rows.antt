-- Rows: worked containers of one scan (own).
use Rattle.std.specs.Prelude.{Option, ℕ, ◌*◌, ◌==◌, if◌then◌else◌, ◌≡◌, true, false, List, [], ◌∷◌, ◌++◌, length, replicate, map, take, drop, slice_set, slice_index, Some, None}
use Rattle.std.specs.List.{range_with_len}
use Rattle.jpeg_marker.specs.HeldTables.{eight_tables}
use Rattle.jpeg_marker.specs.Plans.{PlanFields}
use Rattle.scan_spec.specs.BlockRows.{level_table}
use Rattle.scan_spec.specs.ScanRows.{ones}
use Rattle.handover.specs.Handovers.{start}
use Rattle.scan_spec.specs.Pads.{Same, Listed}
use Rattle.box_format.specs.Parts.{BoxParts, migrated}
use Rattle.box_format.specs.Versions.{layout_of, version_in, migratable, decoded, one_scan}
use Rattle.box_format.specs.Raws.{parts_of}
use Rattle.box_format.specs.Single.{box_bytes}
use Rattle.box_format.specs.Fields.{raws_of}
use Rattle.box_format.specs.Checks.{IsRefused, IsRefusedBy, early_fault, late_fault}
use Rattle.box_format.specs.declared.version.Version.{Version}
use Rattle.box_format.specs.declared.refusal.BoxRefusal.{BoxRefusal}
use Rattle.box_format.specs.declared.version.Version.TheVariants.{First, Second, Third, Fifth}
use Rattle.box_format.specs.declared.refusal.BoxRefusal.TheVariants.{BoxMagic, BoxVersion, BoxCut, BoxSegments, BoxChunk, BoxPad, HandoverBad, BoxPlaces, BoxLong, HeaderLong}

-- the parts of a container, and the checks on it
abbrev pub read_parts : List ℕ → List BoxParts
read_parts bytes = map parts_of (raws_of bytes)

abbrev pub early_of : List Version → List ℕ → Option BoxRefusal
early_of versions bytes = early_fault versions (layout_of (version_in bytes)) bytes

abbrev pub late_of : PlanFields → List ℕ → Option BoxRefusal
late_of plan bytes = late_fault (version_in bytes) (plan ∷ []) bytes

-- a header of one component with one code word in each table, eight columns wide
abbrev pub grey_header : ℕ → List ℕ
grey_header height =
    0xff ∷ 0xd8 ∷ 0xff ∷ 0xc0 ∷ 0x00 ∷ 0x0b ∷ 0x08 ∷ 0x00 ∷ height ∷ 0x00 ∷ 0x08
    ∷ 0x01 ∷ 0x01 ∷ 0x11 ∷ 0x00 ∷ []
    ++ 0xff ∷ 0xc4 ∷ 0x00 ∷ 0x14 ∷ 0x00 ∷ 0x01 ∷ replicate 15 0 ++ 0x00 ∷ []
    ++ 0xff ∷ 0xc4 ∷ 0x00 ∷ 0x14 ∷ 0x10 ∷ 0x01 ∷ replicate 15 0 ++ 0x00 ∷ []
    ++ 0xff ∷ 0xda ∷ 0x00 ∷ 0x08 ∷ 0x01 ∷ 0x01 ∷ 0x00 ∷ 0x00 ∷ 0x3f ∷ 0x00 ∷ []

-- its plan, with this many MCU rows
abbrev pub grey_plan : ℕ → PlanFields
grey_plan down = record {
  components = record {
    index = 0;
    id = 1;
    h = 1;
    v = 1;
    dc = level_table;
    ac = level_table;
  } ∷ [];
  across = 1;
  down = down;
  interval = 0;
  header_length = 69;
  blocks = down;
  known = record {
    frame = Some (record {
      height = 8 * down;
      width = 8;
      parts = record { id = 1; h = 1; v = 1 } ∷ [];
    });
    tables = eight_tables (λ class number. if number == 0 then Some level_table else None);
    interval = 0;
    coded = true ∷ replicate 3 false;
    blocks = down;
  };
}

-- the stream of a block of zeros
abbrev pub zeros : List ℕ
zeros = 0 ∷ 0 ∷ 0 ∷ []

-- EOI
abbrev pub image_end : List ℕ
image_end = 0xff ∷ 0xd9 ∷ []

-- the parts of the smallest file
abbrev pub least_parts : BoxParts
least_parts = record {
  version = First;
  chunk = None;
  places = None;
  pads = Same true;
  header = grey_header 8;
  trailer = image_end;
  handovers = start ∷ [];
  streams = zeros ∷ [];
}

-- two segments, of which the first has no byte
abbrev pub byteless_parts : BoxParts
byteless_parts = record {
  version = First;
  chunk = None;
  places = None;
  pads = Same true;
  header = grey_header 16;
  trailer = image_end;
  handovers = start ∷ record start { bits = 2 } ∷ [];
  streams = zeros ∷ zeros ∷ [];
}

-- the container of the smallest file, byte for byte
abbrev pub least_box : List ℕ
least_box =
    0x4c ∷ 0x50 ∷ 0x53 ∷ 0x47 ∷ 1 ∷ 1 ∷ 1 ∷ 0 ∷ 0 ∷ 0 ∷ 0x45 ∷ 0 ∷ 0 ∷ 0 ∷ 2 ∷ replicate 14 0
    ++ 0 ∷ 0 ∷ 0 ∷ 0 ∷ 0 ∷ 0 ∷ 0 ∷ 3 ∷ grey_header 8 ++ 0xff ∷ 0xd9 ∷ 0 ∷ 0 ∷ 0 ∷ []

-- that of the second version
abbrev pub second_box : List ℕ
second_box =
    0x4c ∷ 0x50 ∷ 0x53 ∷ 0x47 ∷ 2 ∷ 1 ∷ 1 ∷ 0 ∷ 0 ∷ 0 ∷ 0x45 ∷ 0 ∷ 0 ∷ 0 ∷ 2 ∷ 0 ∷ 0 ∷ 0 ∷ 0
    ∷ replicate 14 0 ++ 0 ∷ 0 ∷ 0 ∷ 0 ∷ 0 ∷ 0 ∷ 0 ∷ 3 ∷ grey_header 8
    ++ 0xff ∷ 0xd9 ∷ 0 ∷ 0 ∷ 0 ∷ []

-- two intervals of one MCU that pad different bits
abbrev pub mixed_parts : BoxParts
mixed_parts = record byteless_parts {
  version = Second;
  pads = Listed (0x80 ∷ []);
  handovers = start ∷ record start { restarts = 1 } ∷ [];
}

-- the plan of their header
abbrev pub mixed_plan : PlanFields
mixed_plan = record (grey_plan 2) { interval = 1 }

-- their container
abbrev pub mixed_box : List ℕ
mixed_box = box_bytes mixed_parts

-- that of two segments
abbrev pub byteless_box : List ℕ
byteless_box = box_bytes byteless_parts

-- the plan of a header of 32 rows whose code words are one bit of value 1
abbrev pub ones_plan : PlanFields
ones_plan = record (grey_plan 4) {
  components = record { index = 0; id = 1; h = 1; v = 1; dc = ones.dc; ac = ones.ac } ∷ [];
  header_length = 71;
  known = record (grey_plan 4).known {
    tables = eight_tables (λ class number. if number == 0
        then Some (if class == 0 then ones.dc else ones.ac) else None);
  };
}

-- its header
abbrev pub ones_header : List ℕ
ones_header =
    0xff ∷ 0xd8 ∷ 0xff ∷ 0xc0 ∷ 0x00 ∷ 0x0b ∷ 0x08 ∷ 0x00 ∷ 0x20 ∷ 0x00 ∷ 0x08
    ∷ 0x01 ∷ 0x01 ∷ 0x11 ∷ 0x00 ∷ []
    ++ 0xff ∷ 0xc4 ∷ 0x00 ∷ 0x15 ∷ 0x00 ∷ 0x02 ∷ replicate 15 0 ++ 0x01 ∷ 0x00 ∷ []
    ++ 0xff ∷ 0xc4 ∷ 0x00 ∷ 0x15 ∷ 0x10 ∷ 0x02 ∷ replicate 15 0 ++ 0x01 ∷ 0x00 ∷ []
    ++ 0xff ∷ 0xda ∷ 0x00 ∷ 0x08 ∷ 0x01 ∷ 0x01 ∷ 0x00 ∷ 0x00 ∷ 0x3f ∷ 0x00 ∷ []

-- bytes 72 to 74 of a file of 75, whose scan is a byte and its stuffed zero, to which four rows come
abbrev pub chunk_parts : BoxParts
chunk_parts = record {
  version = Third;
  chunk = Some (record { place = 72; length = 3; skip = 1; from = 3; to = 4 });
  places = None;
  pads = Same true;
  header = ones_header;
  trailer = image_end;
  handovers = record start { partial = 0xfc; bits = 6 } ∷ [];
  streams = zeros ∷ [];
}

-- that chunk's container, byte for byte
abbrev pub chunk_box : List ℕ
chunk_box =
    0x4c ∷ 0x50 ∷ 0x53 ∷ 0x47 ∷ 3 ∷ 1 ∷ 1 ∷ 0 ∷ 0 ∷ 0 ∷ 0x47 ∷ 0 ∷ 0 ∷ 0 ∷ 2 ∷ 0 ∷ 0 ∷ 0 ∷ 0 ∷ []
    ++ replicate 7 0 ++ 0x48 ∷ replicate 7 0 ++ 3 ∷ replicate 7 0 ++ 1 ∷ []
    ++ 0 ∷ 0 ∷ 0 ∷ 3 ∷ 0 ∷ 0 ∷ 0 ∷ 4 ∷ []
    ++ 0xfc ∷ 6 ∷ replicate 12 0 ++ replicate 7 0 ++ 3 ∷ ones_header ++ 0xff ∷ 0xd9 ∷ zeros

-- the two segments with their places: the first one has none
abbrev pub placed_parts : BoxParts
placed_parts = record byteless_parts { version = Fifth; places = Some (69 ∷ 69 ∷ 70 ∷ []) }

-- their container, byte for byte
abbrev pub placed_box : List ℕ
placed_box =
    0x4c ∷ 0x50 ∷ 0x53 ∷ 0x47 ∷ 5 ∷ 1 ∷ 2 ∷ 0 ∷ 0 ∷ 0 ∷ 0x45 ∷ 0 ∷ 0 ∷ 0 ∷ 2 ∷ 0 ∷ 0 ∷ 0 ∷ 0 ∷ []
    ++ replicate 7 0 ++ 0x46 ∷ replicate 14 0 ++ replicate 7 0 ++ 3 ∷ replicate 7 0 ++ 0x45 ∷ []
    ++ 0 ∷ 2 ∷ replicate 12 0 ++ replicate 7 0 ++ 3 ∷ replicate 7 0 ++ 0x45 ∷ grey_header 16
    ++ 0xff ∷ 0xd9 ∷ zeros ++ zeros

-- a header of two components with one code word in each table, and a scan of the first component: the first header of
-- a file of several scans
abbrev pub partial_header : List ℕ
partial_header =
    0xff ∷ 0xd8 ∷ 0xff ∷ 0xc0 ∷ 0x00 ∷ 0x0e ∷ 0x08 ∷ 0x00 ∷ 0x08 ∷ 0x00 ∷ 0x08 ∷ 0x02
    ∷ 0x01 ∷ 0x11 ∷ 0x00 ∷ 0x02 ∷ 0x11 ∷ 0x00 ∷ []
    ++ 0xff ∷ 0xc4 ∷ 0x00 ∷ 0x14 ∷ 0x00 ∷ 0x01 ∷ replicate 15 0 ++ 0x00 ∷ []
    ++ 0xff ∷ 0xc4 ∷ 0x00 ∷ 0x14 ∷ 0x10 ∷ 0x01 ∷ replicate 15 0 ++ 0x00 ∷ []
    ++ 0xff ∷ 0xda ∷ 0x00 ∷ 0x08 ∷ 0x01 ∷ 0x01 ∷ 0x00 ∷ 0x00 ∷ 0x3f ∷ 0x00 ∷ []

-- its plan
abbrev pub partial_plan : PlanFields
partial_plan = record (grey_plan 1) {
  header_length = 72;
  known = record (grey_plan 1).known {
    frame = Some (record {
      height = 8;
      width = 8;
      parts = record { id = 1; h = 1; v = 1 } ∷ record { id = 2; h = 1; v = 1 } ∷ [];
    });
  };
}

-- the bytes of a container with it, in the first version
abbrev pub partial_box : List ℕ
partial_box = box_bytes (record least_parts { header = partial_header })

-- and in the second
abbrev pub partial_second : List ℕ
partial_second = box_bytes (record least_parts { version = Second; header = partial_header })

-- bytes and parts, both ways
abbrev pub laid_out : Type 0
laid_out =
    (length least_box ≡ 111)
    × (box_bytes least_parts ≡ least_box)
    × (read_parts least_box ≡ least_parts ∷ [])
    × (early_of decoded least_box ≡ None)
    × (late_of (grey_plan 1) least_box ≡ None)
    × (length byteless_box ≡ 136)
    × (read_parts byteless_box ≡ byteless_parts ∷ [])
    × (late_of (grey_plan 2) byteless_box ≡ None)
    × (length second_box ≡ 115)
    × (box_bytes (migrated least_parts) ≡ second_box)
    × (read_parts second_box ≡ migrated least_parts ∷ [])
    × (early_of decoded second_box ≡ None)
    × (late_of (grey_plan 1) second_box ≡ None)
    × (slice_index mixed_box 5 ≡ 2)
    × (slice_index mixed_box 63 ≡ 0x80)
    × (read_parts mixed_box ≡ mixed_parts ∷ [])
    × (late_of mixed_plan mixed_box ≡ None)

-- containers that are refused before a header is looked for
abbrev pub early : Type 0
early =
    (early_of decoded [] ≡ Some BoxMagic)
    × (early_of decoded (slice_set least_box 0 0x4d) ≡ Some BoxMagic)
    × (early_of decoded (take 3 least_box) ≡ Some BoxMagic)
    × (early_of decoded (take 4 least_box) ≡ Some BoxCut)
    × (early_of decoded (slice_set least_box 4 0x07) ≡ Some BoxVersion)
    × (early_of one_scan (slice_set least_box 4 0x04) ≡ Some BoxVersion)
    × (early_of decoded (slice_set least_box 4 0x00) ≡ Some BoxVersion)
    × (early_of decoded (take 110 least_box) ≡ Some BoxCut)
    × (early_of decoded (slice_set least_box 4 2) ≡ Some BoxCut)
    × (early_of migratable (slice_set second_box 4 3) ≡ Some BoxVersion)

-- and after one that is accepted
abbrev pub late : Type 0
late =
    (late_of (grey_plan 1) ((least_box ++ 0 ∷ [])) ≡ Some BoxLong)
    × (late_of (grey_plan 1) ((slice_set least_box 5 2)) ≡ Some BoxPad)
    × (late_of (grey_plan 1)
    ((slice_set (take 37 least_box ++ replicate 22 0 ++ drop 37 least_box) 6 2))
    ≡ Some BoxSegments)
    × (late_of (grey_plan 2) ((slice_set byteless_box 37 1)) ≡ Some (HandoverBad 1))
    × (late_of (grey_plan 2) ((slice_set byteless_box 38 3)) ≡ None)
    × (late_of mixed_plan ((slice_set mixed_box 63 0xa0)) ≡ Some BoxPad)
    × (late_of mixed_plan ((slice_set mixed_box 63 0xc0)) ≡ None)
    × (late_of mixed_plan ((slice_set mixed_box 5 1)) ≡ Some BoxPad)
    × (late_of mixed_plan ((slice_set mixed_box 5 3)) ≡ Some BoxPad)
    × (late_of (grey_plan 1) ((slice_set second_box 5 2)) ≡ Some BoxPad)

-- a chunk's container, and the first byte of the file's, for which no row is needed
abbrev pub chunks : Type 0
chunks =
    let fault = λ (bytes : List ℕ). late_of ones_plan bytes in
    (length chunk_box ≡ 149)
    × (box_bytes chunk_parts ≡ chunk_box)
    × (read_parts chunk_box ≡ chunk_parts ∷ [])
    × (early_of decoded chunk_box ≡ None)
    × (early_of migratable chunk_box ≡ Some BoxVersion)
    × (early_of decoded (take 148 chunk_box) ≡ Some BoxCut)
    × (fault chunk_box ≡ None)
    × (fault (slice_set chunk_box 46 5) ≡ Some BoxChunk)
    × (fault (slice_set chunk_box 50 5) ≡ Some BoxChunk)
    × (fault (slice_set chunk_box 50 3) ≡ Some BoxSegments)
    × (fault (slice_set chunk_box 34 1) ≡ Some BoxChunk)
    × (fault (slice_set chunk_box 26 0) ≡ Some BoxChunk)
    × (fault (slice_set chunk_box 26 70) ≡ None)
    × (fault (slice_set chunk_box 46 0) ≡ Some (HandoverBad 0))
    × (fault (slice_set chunk_box 46 2) ≡ None)
    × (fault (slice_set chunk_box 5 2) ≡ Some BoxPad)
    × (fault (chunk_box ++ 0 ∷ []) ≡ Some BoxLong)

-- a container with places: they begin where the header ends, and none is below the one before. How many bytes a segment
-- has isn't looked at here
abbrev pub places : Type 0
places =
    let fault = λ (bytes : List ℕ). late_of (grey_plan 2) bytes in
    (length placed_box ≡ 164)
    × (box_bytes placed_parts ≡ placed_box)
    × (read_parts placed_box ≡ placed_parts ∷ [])
    × (early_of decoded placed_box ≡ None)
    × (early_of migratable placed_box ≡ Some BoxVersion)
    × (early_of decoded (take 163 placed_box) ≡ Some BoxCut)
    × (fault placed_box ≡ None)
    × (fault (slice_set placed_box 56 0x44) ≡ Some BoxPlaces)
    × (fault (slice_set placed_box 56 0x46) ≡ Some BoxPlaces)
    × (fault (slice_set placed_box 86 0x44) ≡ Some BoxPlaces)
    × (fault (slice_set placed_box 86 0x47) ≡ Some BoxPlaces)
    × (fault (slice_set placed_box 26 0x44) ≡ Some BoxPlaces)
    × (fault (slice_set placed_box 86 0x46) ≡ None)
    × (fault (slice_set placed_box 26 0x50) ≡ None)
    × (fault (slice_set (slice_set placed_box 56 0x44) 57 1) ≡ Some (HandoverBad 1))
    × (fault (slice_set placed_box 56 0x44 ++ 0 ∷ []) ≡ Some BoxPlaces)
    × (fault (placed_box ++ 0 ∷ []) ≡ Some BoxLong)

-- every proper prefix of a container is refused for its first bytes, or as cut
abbrev pub prefixes : Type 0
prefixes =
    map (λ n. early_of decoded (take n least_box)) (range_with_len 0 111)
    ≡ replicate 4 (Some BoxMagic) ++ replicate 107 (Some BoxCut)

-- a container with that header is refused for its segments, whatever its version, before its pad byte is looked at; and
-- if the header ends before its length, for that. If its scan were the last, no check would fail
abbrev pub several : Type 0
several =
    (length partial_header ≡ 72)
    × IsRefused partial_box BoxSegments
    × IsRefusedBy migratable partial_second BoxSegments
    × IsRefused (slice_set (slice_set partial_box 10 0x49) 14 1) (HeaderLong 72)
    × (late_of partial_plan ((slice_set partial_second 5 3)) ≡ Some BoxSegments)
    × (late_of (record partial_plan {
      known = record partial_plan.known {
        coded = true ∷ true ∷ replicate 2 false;
      };
    }) partial_box ≡ None)
