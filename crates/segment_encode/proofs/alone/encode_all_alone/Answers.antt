use Rattle.std.proofs.Common.{◌≡◌, ◌+◌, ◌∙◌, ℕ, List, length, map, ap, arith}
use Rattle.std.specs.Prelude.{Err}
use Rattle.std.specs.List.{range_with_len}
use Rattle.box_format.specs.Parts.{box_cut}
use Rattle.container_spec.specs.ScanStream.{stream_of}
use Rattle.cut_spec.specs.Cuts.{first_mcu}
use Rattle.cut_spec.specs.RowHandovers.{mcus_between}
use Rattle.segment_code.specs.declared.error.ScanError.{ScanError}
use Rattle.segment_encode.specs.Lanes.{parts_in}
use Rattle.segment_encode.proofs.StreamsMade.{given}
use Rattle.segment_encode.proofs.alone.encode_all_alone.Goals as goal

pub unreachable-requires : goal.unreachable-requires
unreachable-requires c =
    c.in-Err-Scan.ensures.refused c.in_ok-lane.lane c.in-Err-Scan.field-0-0 c.perform.ensures
    (ap (λ (error : ScanError). Err error) c.in-Err-Scan.field-0-is) c.in_ok-lane.ensures.file

pub returns-in-Ok : goal.returns-in-Ok
returns-in-Ok c = λ mcus pads file are.
    let plan = c.args.plan.now in
    let cut = box_cut plan c.args.chunk c.args.count in
    let count : length (parts_in c.in_ok-lane.lane) ≡ c.args.count = omega (arith, c.in_ok-lane.ensures.count) in
    let f : ℕ → List ℕ = λ i. stream_of plan (mcus_between mcus (first_mcu cut i) (first_mcu cut (i + 1))) in
    given f 0 (parts_in c.in_ok-lane.lane) (map (λ v. v.items) c.in-Ok.streams.items)
    (c.in_ok-lane.ensures.streams mcus pads file are)
    (c.in-Ok.ensures.made c.in_ok-lane.lane c.perform.ensures)
    ∙ ap (λ (n : ℕ). map f (range_with_len 0 n)) count
