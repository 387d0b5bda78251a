-- How long the container of a chunk of a file can be.
use Rattle.std.proofs.Common.{◌≡◌, ℕ, zero, suc, ◌+◌, ◌*◌, ◌-◌, ◌<◌, ◌≤◌, List, length, map, ap, arith, zero-add}
use Rattle.std.specs.Prelude.{flat_map}
use Rattle.std.proofs.Math.Nat.{mul-le-mul_right}
use Rattle.std.specs.List.{range_with_len}
use Rattle.scan_spec.specs.Slots.{shape_of}
use Rattle.cut_spec.specs.Cuts.{Cut, first_mcu}
use Rattle.box_format.specs.Parts.{BoxParts}
use Rattle.container_spec.proofs.ContainerSizes.{box_long}
use Rattle.container_spec.proofs.StreamSizes.{streams_short}
use Rattle.container_spec.specs.ChunkLaws.{ChunkIsShort}
use Rattle.container_spec.specs.Files.{cut_stream}
use Rattle.container_spec.proofs.ChunkBoxes.{box, cut, cut_rises, cut_within, stream_long, all_blocks, file_long, trailer_few, list_long, mcus_few, box_is}

-- the streams of MCUs between cuts, of which none lies after `all` MCUs; there may be no stream
streams_few : (stream : ℕ → List ℕ) (d : ℕ → ℕ) (n all count : ℕ)
    → ((j : ℕ) → j < count → d j ≤ d (j + 1))
    → ((j : ℕ) → j < count → length (stream j) ≤ 1 + 1141 * ((d (j + 1) - d j) * n))
    → (0 < count → d count ≤ all)
    → length (flat_map (λ bytes. bytes) (map stream (range_with_len 0 count))) ≤ count + 1141 * (all * n)
streams_few stream d n all zero order each within = omega arith
streams_few stream d n all (suc count) order each within =
    let sum = streams_short stream d n (suc count) 0
    (λ j after under. order j (omega (arith, under)))
    (λ j after under. each j (omega (arith, under))) in
    let whole : d (0 + suc count) * n ≡ d (suc count) * n =
    ap (λ m. d m * n) (zero-add (suc count)) in
    let most = mul-le-mul_right n (within (omega arith)) in
    omega (arith, sum, whole, most)

pub chunk_is_short : ChunkIsShort
chunk_is_short most size i made file some allowed is short =
    let b : BoxParts = box most size i made file some is in
    let c : Cut = cut most size i made file some is in
    let count : ℕ = c.segments in
    let n : ℕ = length (shape_of is.plan).slots in
    let streams = streams_few (cut_stream is.plan is.mcus c) (first_mcu c) n
    (is.plan.across * is.plan.down) count (cut_rises most size i made file some is)
    (stream_long most size i made file some is)
    (λ has. cut_within most size i made file some is count has (omega arith)) in
    let is_box = box_is most size i made file some is allowed in
    let long = box_long b is_box.each in
    let text = ap length is.spelled in
    let few = is_box.few in
    let blocks = all_blocks most size i made file some is in
    let within = file_long most size i made file some is in
    let trailer = trailer_few most size i made file some is in
    let list = list_long most size i made file some is in
    let mcus = mcus_few most size i made file some is in
    omega (arith, streams, long, text, few, blocks, within, trailer, list, mcus, short, allowed)
