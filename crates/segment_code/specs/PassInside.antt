-- View: the values of a pass and of a segment apart from it, and what always holds of a pass (own).
use Rattle.std.specs.List.{All}
use Rattle.scan_spec.specs.Slots.{shape_of}
use Rattle.scan_decode.specs.Excerpts.{IsExcerpt}
use Rattle.segment_code.specs.ScanPasses.{PartFields, PassFields}
use Rattle.segment_code.specs.declared.part.SegmentPart.TheInside.{Inside as PartInside}
use Rattle.segment_code.specs.declared.pass.ScanPass.TheInside.{Inside as PassInside}

abbrev pub part_in : PartInside → PartFields
part_in p = record {
  plan = p.plan.now;
  codes = p.codes.now;
  bytes = p.bytes.now;
  row = p.row;
  place = p.place;
  handover = p.handover;
  mcus = p.mcus;
}

abbrev pub pass_in : PassInside → PassFields
pass_in p = record {
  plan = p.plan.now;
  codes = p.codes.now;
  bytes = p.bytes.now;
  most = p.most;
  reader = p.reader;
  starts = p.starts;
  pads = p.pads;
}

-- the excerpts that a pass was given are some of its scan
abbrev pub HasExcerpts : PassInside → Type 0
HasExcerpts p = All (IsExcerpt (shape_of p.plan.now) p.bytes.now) p.excerpts.items
