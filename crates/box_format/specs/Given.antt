-- View: what contracts see of the parts that a container is written from (own).
use Rattle.std.specs.Prelude.{ℕ, ◌+◌, ◌<◌, ◌≡◌, ◌^◌, List, length, map, sum, option_map, IfSome}
use Rattle.scan_spec.specs.Pads.{pads_given}
use Rattle.box_format.specs.Versions.{layout_of}
use Rattle.box_format.specs.Parts.{BoxParts, BoxSeen, list_bytes}
use Rattle.box_format.specs.Containers.{AreScans, all_parts}
use Rattle.box_format.specs.declared.parts.Parts.{Parts}
use Rattle.box_format.specs.declared.version.Version.{Version}

-- the parts of a scan
abbrev pub parts_given : Parts → BoxParts
parts_given p = record {
  version = p.version;
  chunk = p.chunk;
  places = option_map (λ places. places.now) p.places;
  pads = pads_given p.pad;
  header = p.header.now;
  trailer = p.trailer.now;
  handovers = p.handovers.now;
  streams = map (λ v. v.items) p.streams.now;
}

-- those of all scans
abbrev pub all_given : List Parts → List BoxParts
all_given scans = map parts_given scans

-- they are the scans of a container of a version
abbrev pub AreGiven : Version → List Parts → Type 0
AreGiven version ps =
    (boxes : List BoxSeen) × AreScans version boxes × (all_parts boxes ≡ all_given ps)

-- the counts and lengths of a scan go into their fields
pub record CanGive (b : BoxParts) : Type 0 where
  pub few : length b.handovers < 2 ^ 8
  pub header : length b.header < 2 ^ 32
  pub trailer : length b.trailer < 2 ^ 32
  pub list : length (list_bytes b.pads) < 2 ^ 32
  pub streams : length b.streams ≡ length b.handovers
  pub places : IfSome b.places (λ places. length b.handovers < length places)

-- how many bytes a scan of these parts has in its container
abbrev pub scan_room : BoxParts → ℕ
scan_room b =
    (layout_of b.version).fields + length (list_bytes b.pads) + length b.header + length b.trailer
    + sum (map (λ stream. (layout_of b.version).room + length stream) b.streams)

-- and how many a container has
abbrev pub scans_room : Version → List BoxParts → ℕ
scans_room version scans = (layout_of version).first + sum (map scan_room scans)
