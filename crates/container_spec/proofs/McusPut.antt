-- A stream of MCUs stands for what they put.
use Rattle.std.proofs.Common.{◌≡◌, ℕ, List, [], ◌∷◌, ◌++◌, length, Ok, refl, sym, ap, ap₂, subst, ◌∙◌, append_assoc, append-nil, ℤ}
use Rattle.std.specs.List.{AllByRecursion}
use Rattle.scan_spec.specs.Blocks.{blocks_text}
use Rattle.scan_spec.specs.Pads.{bit_for, text_sum}
use Rattle.scan_spec.specs.Scans.{Mcu, IsMcu}
use Rattle.scan_spec.specs.Spots.{Spot, mcu_put, mcus_put, spot_in}
use Rattle.handover.specs.PadSums.{pads_with}
use Rattle.handover.specs.declared.pads.PadSum.{PadSum}
use Rattle.handover.proofs.PadsSummed.{sums_more, sums_none}
use Rattle.block_spec.specs.BlockReading.{and_then, blocks_read}
use Rattle.block_spec.specs.ReadingLaws.{HaveGiven}
use Rattle.block_spec.proofs.BlocksRead.{given_blocks_are_read}
use Rattle.block_spec.proofs.FirstGiven.{given_first}
use Rattle.container_spec.specs.ScanStream.{blocks_of}
use Rattle.container_spec.specs.Segments.{SegmentFields, Progress, Output, progress_after, with_prefix, after_step, ending, fault_cause, stop_cause, mcu_step, mcus_output}
use Rattle.container_spec.specs.SegmentLaws.{mcus_sum, progress_through, McusArePut}
use Rattle.container_spec.proofs.PutParts.{bytes_in, put_parts}

-- bytes before an output, and more before these
pub prefix_twice : (a b : List ℕ) (output : Output)
    → with_prefix a (with_prefix b output) ≡ with_prefix (a ++ b) output
prefix_twice a b output =
    ap (λ (l : List ℕ). let p : Output = (l, output.1) in p) (sym (append_assoc a b output.0))

-- an MCU whose blocks are given is read
mcu_read : (s : SegmentFields) (at : Progress) (mcu : Mcu) (more : List (List ℤ))
    → IsMcu s.shape.slots mcu → HaveGiven s.grid s.stream (at.blocks ++ (mcu ++ more))
    → blocks_read s.grid s.stream at.blocks (length s.shape.slots) ≡ Ok mcu
mcu_read s at mcu more is have =
    let first : HaveGiven s.grid s.stream (at.blocks ++ mcu) =
    given_first s.grid s.stream (at.blocks ++ mcu) more
    (subst (HaveGiven s.grid s.stream) (sym (append_assoc at.blocks mcu more)) have) in
    ap (blocks_read s.grid s.stream at.blocks) (sym is.0)
    ∙ given_blocks_are_read s.grid s.stream at.blocks mcu first

-- and put
pub step_is : (s : SegmentFields) (at : Progress) (mcu : Mcu) (bytes : List ℕ) (next : Spot)
    → blocks_read s.grid s.stream at.blocks (length s.shape.slots) ≡ Ok mcu
    → mcu_put s.shape (bit_for s.pads) at.spot mcu ≡ Ok (bytes, next)
    → mcu_step s at ≡ Ok (bytes, progress_after s at mcu next)
unfolding mcu_step
step_is s at mcu bytes next read put =
    ap (λ r. and_then (fault_cause r)
    (λ m. and_then (stop_cause (mcu_put s.shape (bit_for s.pads) at.spot m))
    (λ p. Ok (p.0, progress_after s at m p.1)))) read
    ∙ ap (λ r. and_then (stop_cause r)
    (λ (p : List ℕ × Spot). Ok (p.0, progress_after s at mcu p.1))) put

-- what is padded after the next MCU
abbrev pub here : SegmentFields → Progress → Mcu → PadSum
here s at mcu = text_sum s.shape s.pads at.spot (blocks_text s.shape.slots at.spot.before mcu)

-- a progress by its parts
progress : (blocks others : List (List ℤ)) (spot end : Spot) (padded other : PadSum)
    → blocks ≡ others → spot ≡ end → padded ≡ other
    → ◌≡◌ {A = Progress} (record { blocks = blocks; spot = spot; padded = padded })
    (record { blocks = others; spot = end; padded = other })
progress blocks others spot end padded other e f g = rw (e, f, g) refl

puts : (mcus : List Mcu) (s : SegmentFields) (at : Progress) (bytes : List ℕ) (end : Spot)
    → HaveGiven s.grid s.stream (at.blocks ++ blocks_of mcus)
    → AllByRecursion (IsMcu s.shape.slots) mcus
    → mcus_put s.shape (bit_for s.pads) at.spot mcus ≡ Ok (bytes, end)
    → mcus_output (length mcus) s at
    ≡ with_prefix bytes (ending s (progress_through s at mcus end))
unfolding mcus_output mcus_put
puts [] s at bytes end have each put =
    ap₂ (λ (b : List ℕ) (a : Progress). with_prefix b (ending s a)) (ap bytes_in put)
    (progress at.blocks (at.blocks ++ []) at.spot end at.padded (pads_with at.padded _)
    (sym (append-nil at.blocks)) (ap spot_in put) (sym (sums_none at.padded)))
puts (mcu ∷ mcus) s at bytes end have each put =
    let p = put_parts (mcu_put s.shape (bit_for s.pads) at.spot mcu)
    (λ next. mcus_put s.shape (bit_for s.pads) next mcus) bytes end put in
    let read = mcu_read s at mcu (blocks_of mcus) each.0 have in
    let next : Progress = progress_after s at mcu p.at in
    let order : next.blocks ++ blocks_of mcus ≡ at.blocks ++ blocks_of (mcu ∷ mcus) =
    append_assoc at.blocks mcu (blocks_of mcus) in
    let later = puts mcus s next p.more end
    (subst (HaveGiven s.grid s.stream) (sym order) have) each.1 p.then in
    ap (λ r. after_step s r (λ n. mcus_output (length mcus) s n))
    (step_is s at mcu p.before p.at read p.first)
    ∙ ap (with_prefix p.before) later ∙ prefix_twice p.before p.more _
    ∙ ap₂ (λ (b : List ℕ) (a : Progress). with_prefix b (ending s a)) (sym p.joined)
    (progress _ _ end end _ _ order refl
    (sums_more at.padded (here s at mcu) (mcus_sum s.shape s.pads p.at mcus)
    ∙ ap (λ (spot : Spot).
    pads_with at.padded (pads_with (here s at mcu) (mcus_sum s.shape s.pads spot mcus)))
    (sym (ap spot_in p.first))))

pub mcus_are_put : McusArePut
mcus_are_put s at mcus bytes end have each put = puts mcus s at bytes end have each put
