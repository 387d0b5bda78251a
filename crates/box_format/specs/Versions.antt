-- Statement: the versions of a container, and how each of them is laid out (docs/FORMAT.md, The container).
use Rattle.std.specs.Prelude.{ℕ, ◌≡◌, Bool, true, false, ◌==◌, if◌then◌else◌, List, [], ◌∷◌, slice_index, not}
use Rattle.std.specs.List.{list_any, list_all}
use Rattle.box_format.specs.declared.version.Layout.{Layout}
use Rattle.box_format.specs.declared.version.Version.{Version}
use Rattle.box_format.specs.declared.version.Version.TheVariants.{First, Second, Third, Fourth, Fifth}

-- the layout of version 2. Places are from the start of the container (first, trailer) or of a scan's fields (list)
abbrev pub second : Layout
second = record {
  byte = 2;
  several = false;
  first = 5;
  trailer = 11;
  listed = true;
  list = 10;
  chunked = false;
  placed = false;
  fields = 14;
  room = 22;
  most = 64;
}

-- the layouts of all versions, by how they differ from it
abbrev pub layout_of : Version → Layout
layout_of First = record second { byte = 1; listed = false; list = 0; fields = 10; most = 16 }
layout_of Second = second
layout_of Third = record second { byte = 3; chunked = true; fields = 46 }
layout_of Fourth =
    record second { byte = 4; several = true; first = 10; trailer = 6; list = 6; fields = 10 }
layout_of Fifth = record second { byte = 5; placed = true; fields = 22; room = 30 }

-- how many scans there are, at least and at most
abbrev pub fewest_scans : Layout → ℕ
fewest_scans l = if l.several then 2 else 1

abbrev pub most_scans : Layout → ℕ
most_scans l = if l.several then 4 else 1

-- the most segments of any version
abbrev pub most_segments : ℕ
most_segments = 64

-- whether a byte says one of these
abbrev pub is_version : List Version → ℕ → Bool
is_version versions byte = list_any (λ version. (layout_of version).byte == byte) versions

-- a version is one of these
abbrev pub IsRead : List Version → Version → Type 0
IsRead versions version = is_version versions (layout_of version).byte ≡ true

-- whether all of these have one scan
abbrev pub are_single : List Version → Bool
are_single versions = list_all (λ version. not (layout_of version).several) versions

-- the versions that are decoded, those of them that have one scan, and those that are migrated
abbrev pub decoded : List Version
decoded = First ∷ Second ∷ Third ∷ Fourth ∷ Fifth ∷ []

abbrev pub one_scan : List Version
one_scan = First ∷ Second ∷ Third ∷ Fifth ∷ []

abbrev pub migratable : List Version
migratable = First ∷ Second ∷ []

-- and those that are indexed, and those whose ranges are read
abbrev pub indexable : List Version
indexable = First ∷ Second ∷ Fifth ∷ []

abbrev pub ranged : List Version
ranged = Fifth ∷ []

-- the version of a byte, whatever it is
abbrev pub version_of : ℕ → Version
version_of byte =
    if byte == 2 then Second else if byte == 3 then Third else if byte == 4 then Fourth
    else if byte == 5 then Fifth else First

-- and of bytes
abbrev pub version_in : List ℕ → Version
version_in bytes = version_of (slice_index bytes 4)
