-- What is due in a block, by the machine's numbers.
use Rattle.std.proofs.Common.{◌≡◌, ◌≤◌, List, ℤ, unsigned_abs, Some, sym, ap, ap₂, ◌∙◌, subst}
use Rattle.std.specs.Prelude.{slice_get}
use Rattle.coef_block.specs.Block.{IsCoefficient}
use Rattle.huff_table.specs.declared.plan_codes.ComponentCodes.{ComponentCodes}
use Rattle.scan_spec.specs.BlockBits.{Text, then_text, dc_text, ac_text, ac_values, block_text}
use Rattle.scan_spec.proofs.SignedValues.{kept_half}
use Rattle.scan_spec.proofs.Words.{block_is, value_is, dc_small}
use Rattle.scan_write.specs.Outputs.{OutputState}
use Rattle.scan_write.specs.Appending.{HasAppended}
use Rattle.scan_write.proofs.AppendedTexts.{texts_start}
use Rattle.scan_write.proofs.SmallNumbers.{half}

-- in a block: its DC, and then its AC coefficients
pub dc_due : (codes : ComponentCodes) (before value : ℤ) (block : List ℤ) (old : OutputState) → unsigned_abs before ≤ 32767 → slice_get block 0 ≡ Some value → IsCoefficient 0 value
    → HasAppended (block_text codes before block) old old (then_text (dc_text codes.dc (half before) (half value)) (ac_text codes.ac 0 (ac_values block)))
dc_due codes before value block old small stands is =
    let dc = kept_half value (dc_small value is) ∙ sym (value_is block 0 value stands) in
    let parts =
    block_is codes before block
    ∙ ap (λ (t : Text). then_text t (ac_text codes.ac 0 (ac_values block))) (sym (ap₂ (dc_text codes.dc) (kept_half before small) dc)) in
    subst (λ (t : Text). HasAppended (block_text codes before block) old old t) parts (texts_start (block_text codes before block) old)
