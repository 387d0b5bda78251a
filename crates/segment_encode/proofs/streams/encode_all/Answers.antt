use Rattle.std.proofs.Common.{rules, ◌≡◌, ◌+◌, ◌∙◌, ℕ, List, length, map, sym, ap, subst}
use Rattle.std.specs.Prelude.{All, Err, flat_map, vec_len}
use Rattle.std.proofs.lemmas.List.{with_items_is}
use Rattle.std.specs.List.{range_with_len}
use Rattle.box_format.specs.Parts.{box_cut}
use Rattle.container_spec.specs.ScanStream.{stream_of}
use Rattle.cut_spec.specs.Cuts.{first_mcu}
use Rattle.cut_spec.specs.RowHandovers.{mcus_between}
use Rattle.segment_code.specs.declared.error.ScanError.{ScanError}
use Rattle.segment_encode.specs.Lanes.{AreCoded, AreOfAFile, parts_in}
use Rattle.segment_encode.specs.declared.lanes.Lane.{Lane}
use Rattle.segment_encode.proofs.NewLanes.{each_coded}
use Rattle.segment_encode.proofs.StreamsMade.{given}
use Rattle.segment_encode.proofs.streams.encode_all.Goals as goal

pub unreachable-requires : goal.unreachable-requires
unreachable-requires g c =
    let olds = c.in_ok-lanes.lanes.items in
    let news = c.perform_all.new.tasks in
    let long : length news ≡ vec_len c.in_ok-lanes.lanes = search rules in
    let coded = subst (AreCoded c.as_mut_slice.result.now) (sym (with_items_is c.in_ok-lanes.lanes news long))
    (each_coded c.as_mut_slice.result.now news c.perform_all.ensures.count c.perform_all.ensures.done) in
    let files = subst (All (λ (lane : Lane). AreOfAFile (parts_in lane))) (sym c.as_mut_slice.ensures.value)
    c.in_ok-lanes.ensures.file in
    c.in-Err-Scan.ensures.refused c.as_mut_slice.result.now c.in-Err-Scan.field-0-0 coded files
    (ap (λ (error : ScanError). Err error) c.in-Err-Scan.field-0-is)

pub returns-in-Ok : goal.returns-in-Ok
returns-in-Ok g c = λ mcus pads file are.
    let plan = c.args.plan.now in
    let cut = box_cut plan c.args.chunk c.args.count in
    let f : ℕ → List ℕ = λ i. stream_of plan (mcus_between mcus (first_mcu cut i) (first_mcu cut (i + 1))) in
    let news = c.perform_all.new.tasks in
    let long : length news ≡ vec_len c.in_ok-lanes.lanes = search rules in
    let coded = subst (AreCoded c.as_mut_slice.result.now) (sym (with_items_is c.in_ok-lanes.lanes news long))
    (each_coded c.as_mut_slice.result.now news c.perform_all.ensures.count c.perform_all.ensures.done) in
    let same = ap (flat_map parts_in) c.as_mut_slice.ensures.value in
    given f 0 (flat_map parts_in c.as_mut_slice.result.now) (map (λ v. v.items) c.in-Ok.streams.items)
    (rw same (c.in_ok-lanes.ensures.streams mcus pads file are))
    (c.in-Ok.ensures.made c.as_mut_slice.result.now coded)
    ∙ ap (λ (n : ℕ). map f (range_with_len 0 n)) (ap length same ∙ c.in_ok-lanes.ensures.count)
