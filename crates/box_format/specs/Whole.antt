-- Steps: the parts of bytes that have every part that their fields name, and headers read one by one (own).
use Rattle.std.specs.Prelude.{Option, option_map, ℕ, ◌+◌, ◌*◌, ◌≤◌, ◌≡◌, ◌⊎◌, ◌||◌, Bool, true, not, nat_lt, List, [], ◌∷◌, ◌++◌, length, take, drop, map}
use Rattle.std.specs.Bool.{then_some}
use Rattle.jpeg_marker.specs.KnownBefore.{AreKnown}
use Rattle.jpeg_marker.specs.Plans.{PlanFields}
use Rattle.jpeg_marker.specs.Walks.{Walk}
use Rattle.jpeg_marker.specs.FirstWalks.{opening_walk}
use Rattle.jpeg_marker.specs.HeaderPlan.{Begins, BeginsNot}
use Rattle.jpeg_marker.specs.declared.refusal.HeaderRefusal.{HeaderRefusal}
use Rattle.std.specs.List.{list_all, range_with_len}
use Rattle.std.specs.Option.{option_or}
use Rattle.handover.specs.Handovers.{HandoverFields}
use Rattle.scan_spec.specs.Slots.{Shape, shape_of}
use Rattle.byteorder.specs.Endian.{big_number}
use Rattle.box_format.specs.Parts.{is_unused_zero, bad_start, box_cut}
use Rattle.box_format.specs.Raws.{Raw, place_from}
use Rattle.box_format.specs.Versions.{layout_of}
use Rattle.box_format.specs.declared.version.Layout.{Layout}
use Rattle.box_format.specs.declared.version.Version.{Version}
use Rattle.box_format.specs.declared.refusal.BoxRefusal.{BoxRefusal}
use Rattle.box_format.specs.declared.refusal.BoxRefusal.TheVariants.{BoxHeader, HeaderLong, HandoverBad, BoxPlaces}
use Rattle.box_format.specs.Fields.{scans_in, segments_at, header_length, list_length, fields_place, list_place, header_place, streams_place, named_end, raws_as, in_record}
use Rattle.box_format.specs.Checks.{HeadersPass, are_bad_places, are_complete, some_are_wrong, segments_of}

-- no part ends after the bytes
pub record IsUncut (l : Layout) (bytes : List ℕ) : Type 0 where
  pub fields : fields_place l bytes (scans_in l bytes) ≤ length bytes
  pub ends : named_end l bytes ≤ length bytes

-- the pad list of a scan
abbrev pub list_at : Layout → List ℕ → ℕ → List ℕ
list_at l bytes j = take (list_length l bytes (fields_place l bytes j)) (drop (list_place l bytes j) bytes)

-- its header
abbrev pub header_at : Layout → List ℕ → ℕ → List ℕ
header_at l bytes j =
    take (header_length bytes (fields_place l bytes j)) (drop (header_place l bytes j) bytes)

-- its records
abbrev pub records_at : Layout → List ℕ → ℕ → List ℕ
records_at l bytes j =
    let place = fields_place l bytes j in
    take (l.room * segments_at bytes place) (drop (place + l.fields) bytes)

-- its streams, and those after them
abbrev pub streams_at : Layout → List ℕ → ℕ → List ℕ
streams_at l bytes j = drop (streams_place l bytes j) bytes

-- a header is read by a walk, ends where its bytes end, and has this plan
pub record IsWholeHeader (w : Walk) (header : List ℕ) (plan : PlanFields) : Type 0 where
  pub begins : Begins w header plan
  pub whole : plan.header_length ≡ length header
  pub known : AreKnown plan.known

-- it is none, or ends before its bytes end
abbrev pub IsNoHeader : Walk → List ℕ → BoxRefusal → Type 0
IsNoHeader w header refusal =
    ((inner : HeaderRefusal) × BeginsNot w header inner × (refusal ≡ BoxHeader inner))
    ⊎ ((plan : PlanFields) × Begins w header plan
    × (nat_lt plan.header_length (length header) ≡ true)
    × (refusal ≡ HeaderLong plan.header_length))

-- all headers pass, and these are the plans of the first four
pub record HavePlans (v : Version) (bytes : List ℕ) (plans : List PlanFields) : Type 0 where
  pub more : List PlanFields
  pub none : scans_in (layout_of v) bytes ≤ 4 → more ≡ []
  pub pass : HeadersPass opening_walk (raws_as v bytes)
      (take (scans_in (layout_of v) bytes) plans ++ more)

-- whether scans of this number aren't those of a file, or can't have their numbers of segments
abbrev pub are_not_all : ℕ → List PlanFields → List Raw → Bool
are_not_all most plans raws =
    not (are_complete plans)
    || (some_are_wrong most plans raws || nat_lt most (segments_of raws))

-- whether the last DC of each component without blocks is 0
abbrev pub are_unused_zeros : Shape → HandoverFields → Bool
are_unused_zeros shape h = list_all (is_unused_zero shape h) (0 ∷ 1 ∷ 2 ∷ 3 ∷ [])

-- the checks on what is in the records of a scan
abbrev pub record_fault : ℕ → PlanFields → Raw → Option BoxRefusal
record_fault first plan raw =
    option_or (option_map (λ i. HandoverBad (first + i))
    (bad_start (shape_of plan) (box_cut plan raw.chunk (length raw.handovers)) 0 raw.handovers))
    (then_some (are_bad_places (length raw.header) raw.places) BoxPlaces)

-- the places of a scan's segments and of its end, whether the version keeps them or not
abbrev pub listed_at : Layout → List ℕ → ℕ → List ℕ
listed_at l bytes place =
    map (in_record place_from l bytes place) (range_with_len 0 (segments_at bytes place)) ++ big_number 8 (drop (place + 14) bytes) ∷ []
