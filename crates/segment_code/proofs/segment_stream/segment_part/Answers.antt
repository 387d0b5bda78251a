use Rattle.std.proofs.Common.{rules, ◌≡◌, ℕ, ◌+◌, ◌-◌, ◌*◌, ◌<◌, ◌≤◌, Bool, List, ap, ◌∙◌, arith}
use Rattle.std.specs.Prelude.{Option}
use Rattle.std.specs.List.{AllByRecursion}
use Rattle.bit_list.specs.Bits.{IsByte}
use Rattle.jpeg_marker.specs.Plans.{PlanFields}
use Rattle.scan_spec.specs.Scans.{Mcu}
use Rattle.handover.specs.Handovers.{HandoverFields}
use Rattle.cut_spec.specs.Cuts.{row_of}
use Rattle.cut_spec.specs.RowHandovers.{mcus_between}
use Rattle.box_format.specs.Parts.{box_cut, box_rows}
use Rattle.box_format.specs.declared.chunk.Chunk.{Chunk}
use Rattle.container_spec.specs.ScanStream.{stream_of}
use Rattle.segment_code.specs.FileStarts.{StartsFields, starts_of}
use Rattle.segment_code.proofs.ScansCoded.{bytes_all}
use Rattle.segment_code.proofs.SegmentsCoded.{SaidOf, has_rows, markers_are, part_said, said_of}
use Rattle.segment_code.proofs.segment_stream.segment_part.Goals as goal

-- what holds of a segment's rows, and what the starts say of the first one
record AreRows (plan : PlanFields) (mcus : List Mcu) (pads : List Bool) (starts : StartsFields)
    (row to : ℕ) : Type 0 where
  some : row < to
  within : to ≤ plan.down
  under : row < plan.down
  said : SaidOf plan mcus pads starts row

are_rows : (plan : PlanFields) (mcus : List Mcu) (pads : List Bool) (starts : StartsFields)
    (chunk : Option Chunk) (count segment row : ℕ) → (box_rows plan chunk).to ≤ plan.down
    → count ≤ (box_rows plan chunk).to - (box_rows plan chunk).from → segment < count
    → row ≡ row_of (box_cut plan chunk count) segment
    → starts ≡ starts_of plan mcus pads starts.trailer plan.down
    → AreRows plan mcus pads starts row (row_of (box_cut plan chunk count) (segment + 1))
are_rows plan mcus pads starts chunk count segment row grid few there is are =
    let rows = has_rows (box_cut plan chunk count) segment few there in
    let more = rows.some in
    let last = rows.within in
    let under : row < plan.down = omega (arith, is, more, last, grid) in
    record {
      some = omega (arith, is, more);
      within = omega (arith, last, grid);
      under = under;
      said = said_of plan mcus pads starts.trailer starts row are under;
    }

pub place-requires : goal.place-requires
place-requires c =
    let have = c.requires.starts in
    let rows = are_rows c.args.plan.now have.mcus have.pads c.args.starts.now c.args.chunk
    c.args.count c.args.segment c.row_of-row.result c.requires.grid c.requires.rows
    c.requires.segment c.row_of-row.ensures.value have.are in
    let under = rows.said.under in
    omega (arith, under)

pub handover-requires : goal.handover-requires
handover-requires c =
    let have = c.requires.starts in
    let rows = are_rows c.args.plan.now have.mcus have.pads c.args.starts.now c.args.chunk
    c.args.count c.args.segment c.row_of-row.result c.requires.grid c.requires.rows
    c.requires.segment c.row_of-row.ensures.value have.are in
    let under = rows.said.under in
    omega (arith, under)

pub returns-clause-part : goal.returns-clause-part
returns-clause-part c =
    let plan = c.args.plan.now in
    let starts = c.args.starts.now in
    let row = c.row_of-row.result in
    let are : AllByRecursion IsByte c.args.bytes.now =
    bytes_all c.args.bytes.now (λ i. let h = c.type_inv.bytes i in search rules) in
    let have = c.requires.starts in
    let rows = are_rows plan have.mcus have.pads starts c.args.chunk c.args.count c.args.segment row
    c.requires.grid c.requires.rows c.requires.segment c.row_of-row.ensures.value have.are in
    let under = rows.under in
    let markers = markers_are c.args.bytes.now plan have.mcus have.pads starts.trailer starts row are
    have.file (omega (arith, under)) rows.said in
    record {
      bytes = are;
      codes = c.requires.codes;
      row = under;
      restarts = ap (λ (h : HandoverFields). h.restarts) c.handover.ensures ∙ markers;
      count = rw (c.row_of-row.ensures.value) c.mcus_in.ensures.within;
    }

pub returns-clause-refused : goal.returns-clause-refused
returns-clause-refused c = λ none.
    let plan = c.args.plan.now in
    let starts = c.args.starts.now in
    let to = row_of (box_cut plan c.args.chunk c.args.count) (c.args.segment + 1) in
    let have = c.requires.starts in
    let rows = are_rows c.args.plan.now have.mcus have.pads c.args.starts.now c.args.chunk
    c.args.count c.args.segment c.row_of-row.result c.requires.grid c.requires.rows
    c.requires.segment c.row_of-row.ensures.value have.are in
    let ends : plan.across * c.row_of-row.result + c.mcus_in.result ≡ plan.across * to =
    rw (c.row_of-row.ensures.value) c.mcus_in.ensures.value in
    none have.mcus have.pads starts.trailer to
    have.file (part_said _ have.mcus have.pads starts to rows.said rows.some rows.within
    c.place.ensures c.handover.ensures ends)

pub returns-clause-stream : goal.returns-clause-stream
returns-clause-stream c = λ mcus pads stream file are its.
    let plan = c.args.plan.now in
    let starts = c.args.starts.now in
    let to = row_of (box_cut plan c.args.chunk c.args.count) (c.args.segment + 1) in
    let rows = are_rows plan mcus pads starts c.args.chunk c.args.count c.args.segment
    c.row_of-row.result c.requires.grid c.requires.rows c.requires.segment
    c.row_of-row.ensures.value are in
    let ends : plan.across * c.row_of-row.result + c.mcus_in.result ≡ plan.across * to =
    rw (c.row_of-row.ensures.value) c.mcus_in.ensures.value in
    its mcus pads starts.trailer to file
    (part_said _ mcus pads starts to rows.said rows.some rows.within c.place.ensures
    c.handover.ensures ends)
    ∙ ap (λ (r : ℕ). stream_of plan (mcus_between mcus (plan.across * r) (plan.across * to)))
    c.row_of-row.ensures.value
