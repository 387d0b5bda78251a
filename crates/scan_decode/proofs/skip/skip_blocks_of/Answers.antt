use Rattle.std.proofs.Common.{[], ◌∷◌, ◌++◌, ◌≤◌, ◌<◌, ◌+◌, map, drop, length, get_or, List, ℕ, ℤ, pos, unsigned_abs, Ok, Err, sym, ap, subst, ◌∙◌, arith}
use Rattle.std.proofs.lemmas.List.{length-set, map-append}
use Rattle.std.proofs.lemmas.List.Elements.{All-set}
use Rattle.std.proofs.lemmas.Result.{err_from_is_err_and}
use Rattle.std.specs.Int.{w16}
use mir.Val.{to_z, of_z}
use Rattle.scan_spec.specs.ScanReading.{dcs_after_read, blocks_at}
use Rattle.scan_spec.specs.BlockBits.{in_zigzag}
use Rattle.scan_spec.proofs.SignedValues.{kept_half}
use Rattle.scan_spec.specs.ShapeInside.{slot_in}
use Rattle.scan_decode.specs.McuBlocks.{after_prefix}
use Rattle.scan_decode.specs.SkipWords.{AreSkips}
use Rattle.scan_decode.proofs.McuReading.{block_refused, block_more, no_more, at_slot, after_slot}
use Rattle.scan_decode.proofs.WordLists.{list_of_slot}
use Rattle.scan_decode.proofs.skip.skip_blocks_of.Goals as goal

pub skip_block-requires-clause-words : goal.skip_block-requires-clause-words
skip_block-requires-clause-words c =
    let codes = c.args.codes.now in
    let slots = c.args.slots.now in
    let component = c.from-component.result in
    let within : component < length codes = subst (λ (k : ℕ). k < length codes) (sym c.from-component.ensures) (c.requires.slots c.loop-i.i 0 c.loop-i-test.true) in
    subst (AreSkips c.index-codes-component.result.ac) (sym c.words_of.ensures)
    (list_of_slot AreSkips codes slots (map (λ v. v.items) c.args.skips.now) c.loop-i.i component c.index-codes-component.result c.requires.skips c.loop-i-test.true c.from-component.ensures within c.index-codes-component.is)

pub returns-in_err-before-clause-is : goal.returns-in_err-before-clause-is
returns-in_err-before-clause-is c =
    let l = c.loop-i in
    let codes = c.args.codes.now in
    let slots = c.args.slots.now in
    let bytes = c.args.input.now.bytes in
    let component = c.from-component.result in
    let within : component < length codes = subst (λ (k : ℕ). k < length codes) (sym c.from-component.ensures) (c.requires.slots l.i 0 c.loop-i-test.true) in
    let four : component < length l.before = omega (arith, l.invariant.four, c.requires.few) in
    let whole = blocks_at (map (slot_in codes) slots) c.args.before.now bytes c.args.input.now.cursor in
    let there = at_slot codes slots l.i component c.index-codes-component.result l.before bytes l.input.bytes l.input.cursor (Err c.in_err-before.field-0.0) c.from-component.ensures within c.index-codes-component.is (l.invariant.small component (pos 0) four) l.invariant.bytes c.in_err-before.ensures.is.1 in
    let p = err_from_is_err_and c.from_residual.result c.from_residual.ensures.1 in
    let going = l.invariant.going in
    rw (p.1, p.2) ([], block_refused codes whole (map in_zigzag going.0) slots l.i l.before bytes l.input.cursor c.in_err-before.field-0.0 c.loop-i-test.true going.1 there)

pub loop-i-preserved : goal.loop-i-preserved
loop-i-preserved c =
    let l = c.loop-i in
    let codes = c.args.codes.now in
    let slots = c.args.slots.now in
    let bytes = c.args.input.now.bytes in
    let component = c.from-component.result in
    let dc = c.in_ok-before.field-0 in
    let is = c.in_ok-before.ensures.is in
    let block = is.0 in
    let going = l.invariant.going in
    let within : component < length codes = subst (λ (k : ℕ). k < length codes) (sym c.from-component.ensures) (c.requires.slots l.i 0 c.loop-i-test.true) in
    let four : component < length l.before = omega (arith, l.invariant.four, c.requires.few) in
    let whole = blocks_at (map (slot_in codes) slots) c.args.before.now bytes c.args.input.now.cursor in
    let there = at_slot codes slots l.i component c.index-codes-component.result l.before bytes l.input.bytes l.input.cursor (Ok (in_zigzag block, c.skip_block.new.input.cursor)) c.from-component.ensures within c.index-codes-component.is (l.invariant.small component (pos 0) four) l.invariant.bytes is.1 in
    let more = block_more codes whole (map in_zigzag going.0) slots l.i l.before bytes l.input.cursor c.skip_block.new.input.cursor (in_zigzag block) c.loop-i-test.true going.1 there in
    let kept = kept_half dc c.in_ok-before.ensures.small in
    let bound : unsigned_abs (to_z w16 (of_z w16 dc)) ≤ 32767 = subst (λ (z : ℤ). unsigned_abs z ≤ 32767) (sym kept) c.in_ok-before.ensures.small in
    let all = going.0 ++ block ∷ [] in
    let prefix = sym (map-append in_zigzag going.0 (block ∷ [])) in
    let after = after_slot codes slots l.i component l.before block dc c.from-component.ensures is.2 c.in_ok-before.ensures.small in
    record {
      bytes = c.skip_block.ensures.bytes ∙ l.invariant.bytes;
      four = length-set l.before component (to_z w16 (of_z w16 dc)) ∙ l.invariant.four;
      small = All-set (λ (z : ℤ). unsigned_abs z ≤ 32767) l.before component (to_z w16 (of_z w16 dc)) bound l.invariant.small;
      going = (
        all,
        more
            ∙ ap (λ (f : List (List ℤ)). after_prefix f (blocks_at (map (slot_in codes) (drop (l.i + 1) slots)) (dcs_after_read l.before (slot_in codes (get_or slots l.i 0)) (in_zigzag block)) bytes c.skip_block.new.input.cursor)) prefix
            ∙ ap (λ (b : List ℤ). after_prefix (map in_zigzag all) (blocks_at (map (slot_in codes) (drop (l.i + 1) slots)) b bytes c.skip_block.new.input.cursor)) after,
      );
    }

pub returns-clause-is : goal.returns-clause-is
returns-clause-is c =
    let l = c.loop-i in
    let going = l.invariant.going in
    (going.0, no_more c.args.codes.now _ going.0 c.args.slots.now l.i l.before c.args.input.now.bytes l.input.cursor c.loop-i-test.false going.1)
