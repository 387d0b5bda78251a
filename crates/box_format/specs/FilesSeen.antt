-- View: what contracts see of a container that was read (own).
use Rattle.std.specs.Prelude.{◌≡◌, ◌≤◌, List, length, take}
use Rattle.jpeg_marker.specs.FirstWalks.{opening_walk}
use Rattle.box_format.specs.Versions.{layout_of}
use Rattle.box_format.specs.Parts.{BoxSeen}
use Rattle.box_format.specs.Containers.{IsContainerIn}
use Rattle.box_format.specs.Fields.{raws_as, scans_in}
use Rattle.box_format.specs.Checks.{HeadersPass, boxes_of}
use Rattle.box_format.specs.Whole.{IsUncut}
use Rattle.box_format.specs.declared.files.FileView.TheInside.{Inside}

-- the scans, by their plans and by the bytes
abbrev pub scans_seen : Inside → List BoxSeen
scans_seen v = boxes_of (take v.count v.plans.items) (raws_as v.version v.bytes.now)

-- the bytes are the container of the scans
pub record IsFileView (v : Inside) : Type 0 where
  pub is : IsContainerIn v.version (scans_seen v) v.bytes.now
  pub passed : HeadersPass opening_walk (raws_as v.version v.bytes.now) (take v.count v.plans.items)
  pub whole : IsUncut (layout_of v.version) v.bytes.now
  pub scans : v.count ≡ scans_in (layout_of v.version) v.bytes.now
  pub room : length v.plans.items ≡ 4
  pub some : 1 ≤ v.count
  pub few : v.count ≤ 4
