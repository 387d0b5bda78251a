-- Statement: why bytes are no container: the first check that fails (docs/FORMAT.md, The container).
use Rattle.std.specs.Prelude.{ℕ, ◌+◌, ◌-◌, ◌≡◌, ◌⊎◌, Bool, true, false, ◌&&◌, ◌||◌, not, ◌==◌, nat_lt, if◌then◌else◌, List, [], ◌∷◌, length, take, drop, map, sum, slice_index, bytes_eq, Option, Some, None, option_map}
use Rattle.std.specs.Bool.{then_some}
use Rattle.std.specs.Option.{option_or}
use Rattle.jpeg_marker.specs.Plans.{PlanFields}
use Rattle.jpeg_marker.specs.Walks.{Walk, next_walk}
use Rattle.jpeg_marker.specs.FirstWalks.{opening_walk}
use Rattle.jpeg_marker.specs.HeaderPlan.{Begins, BeginsNot}
use Rattle.jpeg_marker.specs.declared.refusal.HeaderRefusal.{HeaderRefusal}
use Rattle.scan_spec.specs.FileParts.{is_last}
use Rattle.scan_spec.specs.Slots.{Shape, shape_of}
use Rattle.cut_spec.specs.Cuts.{Cut}
use Rattle.box_format.specs.Versions.{layout_of, version_in, is_version, fewest_scans, most_scans, decoded}
use Rattle.box_format.specs.Parts.{BoxSeen, magic, is_list, are_rising, bad_start, box_cut, header_part, rows_most}
use Rattle.box_format.specs.Raws.{Raw, parts_of}
use Rattle.box_format.specs.Fields.{scans_in, fields_place, named_end, raws_as}
use Rattle.box_format.specs.declared.chunk.Chunk.{Chunk}
use Rattle.box_format.specs.declared.version.Layout.{Layout}
use Rattle.box_format.specs.declared.version.Version.{Version}
use Rattle.box_format.specs.declared.refusal.BoxRefusal.{BoxRefusal}
use Rattle.box_format.specs.declared.refusal.BoxRefusal.TheVariants.{BoxMagic, BoxVersion, BoxCut, BoxHeader, HeaderLong, BoxSegments, BoxChunk, BoxPad, HandoverBad, BoxPlaces, BoxLong}

-- the bytes end within the fields of a scan, or before the end that the fields name
abbrev pub is_cut : Layout → List ℕ → Bool
is_cut l bytes =
    nat_lt (length bytes) (fields_place l bytes (scans_in l bytes))
    || nat_lt (length bytes) (named_end l bytes)

-- the checks before the headers, in their order, of who reads these versions, on bytes that are laid out as in one
unfoldable pub early_fault : List Version → Layout → List ℕ → Option BoxRefusal
early_fault versions l bytes =
    if not (bytes_eq (take 4 bytes) magic) then Some BoxMagic
    else if nat_lt 4 (length bytes) && not (is_version versions (slice_index bytes 4))
    then Some BoxVersion
    else if is_cut l bytes then Some BoxCut
    else None

-- each header is one of a file's, after those before it, and as long as its field says: these are their plans
abbrev pub HeadersPass : Walk → List Raw → List PlanFields → Type 0
HeadersPass w [] [] = Unit {0}
HeadersPass w [] (plan ∷ plans) = ⊥
HeadersPass w (raw ∷ raws) [] = ⊥
HeadersPass w (raw ∷ raws) (plan ∷ plans) =
    Begins w raw.header plan × (plan.header_length ≡ length raw.header)
    × HeadersPass (next_walk plan.known 0) raws plans

-- the first header that isn't is refused, or it ends before its length; places are those in that header
abbrev pub HeadersFail : Walk → List Raw → BoxRefusal → Type 0
HeadersFail w [] refusal = ⊥
HeadersFail w (raw ∷ raws) refusal =
    ((inner : HeaderRefusal) × BeginsNot w raw.header inner × (refusal ≡ BoxHeader inner))
    ⊎ ((plan : PlanFields) × Begins w raw.header plan
    × (((nat_lt plan.header_length (length raw.header) ≡ true)
    × (refusal ≡ HeaderLong plan.header_length))
    ⊎ ((plan.header_length ≡ length raw.header)
    × HeadersFail (next_walk plan.known 0) raws refusal)))

-- whether the last of these scans is the last one of a file, and no other is
abbrev pub are_complete : List PlanFields → Bool
are_complete [] = false
are_complete (plan ∷ []) = is_last plan
are_complete (plan ∷ next ∷ plans) = not (is_last plan) && are_complete (next ∷ plans)

-- whether these can't be a scan's segments: they are more than the version can have or than rows, or there is none
-- though there are rows
abbrev pub are_wrong : ℕ → Cut → Bool
are_wrong most cut =
    nat_lt most cut.segments
    || ((not (nat_lt cut.to cut.from) && nat_lt (cut.to - cut.from) cut.segments)
    || (nat_lt cut.from cut.to && cut.segments == 0))

-- whether a scan can't have its number of segments
abbrev pub some_are_wrong : ℕ → List PlanFields → List Raw → Bool
some_are_wrong most [] raws = false
some_are_wrong most (plan ∷ plans) [] = false
some_are_wrong most (plan ∷ plans) (raw ∷ raws) =
    are_wrong most (box_cut plan raw.chunk (length raw.handovers)) || some_are_wrong most plans raws

-- how many segments there are
abbrev pub segments_of : List Raw → ℕ
segments_of raws = sum (map (λ (raw : Raw). length raw.handovers) raws)

-- whether these can't be a container's scans and segments: the version has no such number of scans, or they aren't all
-- of a file, or one can't have its number of segments, or there are too many in all
abbrev pub are_wrong_scans : Layout → List PlanFields → List Raw → Bool
are_wrong_scans l plans raws =
    nat_lt (length raws) (fewest_scans l) || (nat_lt (most_scans l) (length raws)
    || (not (are_complete plans)
    || (some_are_wrong l.most plans raws || nat_lt l.most (segments_of raws))))

-- whether a chunk can't be one of a grid with this number of rows: its rows are in the wrong order or none of the grid,
-- it has no room for its parts of header and trailer, or without a row it has other bytes
abbrev pub is_bad_chunk : ℕ → List ℕ → List ℕ → Option Chunk → Bool
is_bad_chunk down header trailer None = false
is_bad_chunk down header trailer (Some c) =
    nat_lt c.to c.from || (nat_lt down c.to
    || (nat_lt c.length (length (header_part c header) + length trailer)
    || (c.from == c.to && (not (rows_most c header trailer == 0) || not (c.skip == 0)))))

-- whether a version can't say a pad byte with a list: without a list the byte says one bit, and with one it is 2
abbrev pub is_bad_pad : Bool → Shape → ℕ → List ℕ → Bool
is_bad_pad listed shape pad list =
    if listed && pad == 2 then not (is_list shape list)
    else nat_lt 1 pad || nat_lt 0 (length list)

-- whether places can't be those of a header of this length: the first one isn't its end, or one is below the one
-- before
abbrev pub are_bad_places : ℕ → Option (List ℕ) → Bool
are_bad_places header None = false
are_bad_places header (Some places) =
    not (slice_index places 0 == header) || not (are_rising places)

-- what fails of a scan, the number of its first segment being `first`: its chunk, its pad bits, what one of its
-- segments starts from, or its places
abbrev pub scan_fault : ℕ → PlanFields → Raw → Option BoxRefusal
scan_fault first plan raw =
    option_or (then_some (is_bad_chunk plan.down raw.header raw.trailer raw.chunk) BoxChunk)
    (option_or (then_some (is_bad_pad (layout_of raw.version).listed (shape_of plan) raw.pad
    raw.list) BoxPad)
    (option_or (option_map (λ i. HandoverBad (first + i))
    (bad_start (shape_of plan) (box_cut plan raw.chunk (length raw.handovers)) 0 raw.handovers))
    (then_some (are_bad_places (length raw.header) raw.places) BoxPlaces)))

-- scan by scan
abbrev pub scans_fault : ℕ → List PlanFields → List Raw → Option BoxRefusal
scans_fault first [] raws = None
scans_fault first (plan ∷ plans) [] = None
scans_fault first (plan ∷ plans) (raw ∷ raws) =
    option_or (scan_fault first plan raw) (scans_fault (first + length raw.handovers) plans raws)

-- the checks after the headers, in their order
unfoldable pub late_fault : Version → List PlanFields → List ℕ → Option BoxRefusal
late_fault version plans bytes =
    let l = layout_of version in
    let raws = raws_as version bytes in
    option_or (then_some (are_wrong_scans l plans raws) BoxSegments)
    (option_or (scans_fault 0 plans raws)
    (then_some (nat_lt 0 (length (drop (named_end l bytes) bytes))) BoxLong))

-- no check fails, of who reads these versions, on bytes laid out as in one
pub record PassesAs (version : Version) (versions : List Version) (plans : List PlanFields)
    (bytes : List ℕ) : Type 0 where
  pub early : early_fault versions (layout_of version) bytes ≡ None
  pub headers : HeadersPass opening_walk (raws_as version bytes) plans
  pub late : late_fault version plans bytes ≡ None

-- as in the one that the bytes say
abbrev pub PassesChecks : List Version → List PlanFields → List ℕ → Type 0
PassesChecks versions plans bytes = PassesAs (version_in bytes) versions plans bytes

-- the first check that fails
abbrev pub IsRefusedAs : Version → List Version → List ℕ → BoxRefusal → Type 0
IsRefusedAs version versions bytes refusal =
    (early_fault versions (layout_of version) bytes ≡ Some refusal)
    ⊎ ((early_fault versions (layout_of version) bytes ≡ None)
    × (HeadersFail opening_walk (raws_as version bytes) refusal
    ⊎ ((plans : List PlanFields) × HeadersPass opening_walk (raws_as version bytes) plans
    × (late_fault version plans bytes ≡ Some refusal))))

abbrev pub IsRefusedBy : List Version → List ℕ → BoxRefusal → Type 0
IsRefusedBy versions bytes refusal = IsRefusedAs (version_in bytes) versions bytes refusal

-- and of who decodes
abbrev pub IsRefused : List ℕ → BoxRefusal → Type 0
IsRefused = IsRefusedBy decoded

-- scans by their plans and their fields
abbrev pub boxes_of : List PlanFields → List Raw → List BoxSeen
boxes_of [] raws = []
boxes_of (plan ∷ plans) [] = []
boxes_of (plan ∷ plans) (raw ∷ raws) =
    record { plan = plan; parts = parts_of raw } ∷ boxes_of plans raws
