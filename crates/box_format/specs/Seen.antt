-- View: what contracts see of a scan of a container that was read (own).
use Rattle.box_format.specs.Parts.{BoxSeen, IsScanBox}
use Rattle.box_format.specs.Slices.{HasSegments, scan_parts}
use Rattle.box_format.specs.declared.view.BoxView.TheInside.{Inside}

-- those of the slices
abbrev pub seen_of : Inside → BoxSeen
seen_of v = record {
  plan = v.plan;
  parts = scan_parts v.version v.chunk v.pad v.list.now v.header.now v.trailer.now v.segments
      v.records.now v.end v.streams.now;
}

-- they are the parts of a scan with this plan
pub record IsView (v : Inside) : Type 0 where
  pub scan : IsScanBox v.plan (seen_of v).parts
  pub whole : HasSegments v.version v.segments v.records.now v.streams.now
