use Rattle.std.proofs.Common.{[], ◌∷◌, ◌≡◌, ◌≤◌, ◌<◌, ◌+◌, map, set, take, drop, length, get_or, List, ℕ, ℤ, pos, unsigned_abs, Ok, Err, sym, ap, subst, ◌∙◌, arith}
use Rattle.std.proofs.lemmas.List.{length-set, map-append, take_all, take_more_set}
use Rattle.std.proofs.lemmas.List.Elements.{All-set}
use Rattle.std.proofs.lemmas.Result.{err_from_is_err_and}
use Rattle.std.specs.Int.{w16}
use mir.Val.{to_z, of_z}
use Rattle.scan_spec.specs.ScanReading.{dcs_after_read, blocks_at}
use Rattle.scan_spec.specs.BlockBits.{in_zigzag}
use Rattle.scan_spec.proofs.SignedValues.{kept_half}
use Rattle.scan_spec.specs.ShapeInside.{slot_in}
use Rattle.scan_decode.specs.McuBlocks.{after_prefix}
use Rattle.scan_decode.proofs.McuReading.{block_refused, block_more, no_more, at_slot, after_slot}
use Rattle.scan_decode.specs.ReadWords.{AreReads}
use Rattle.scan_decode.proofs.WordLists.{list_of_slot}
use Rattle.scan_decode.proofs.blocks.blocks_of.Goals as goal

pub block-requires-clause-words : goal.block-requires-clause-words
block-requires-clause-words c =
    let codes = c.args.codes.now in
    let slots = c.args.slots.now in
    let component = c.from-component.result in
    let within : component < length codes = subst (λ (k : ℕ). k < length codes) (sym c.from-component.ensures) (c.requires.slots c.loop-i.i 0 c.loop-i-test.true) in
    subst (AreReads c.index-codes-component.result.ac) (sym c.words_of.ensures)
    (list_of_slot AreReads codes slots (map (λ v. v.items) c.args.reads.now) c.loop-i.i component c.index-codes-component.result c.requires.reads c.loop-i-test.true c.from-component.ensures within c.index-codes-component.is)

pub returns-in_err-before-clause-is : goal.returns-in_err-before-clause-is
returns-in_err-before-clause-is c =
    let l = c.loop-i in
    let codes = c.args.codes.now in
    let slots = c.args.slots.now in
    let bytes = c.args.input.now.bytes in
    let component = c.from-component.result in
    let within : component < length codes = subst (λ (k : ℕ). k < length codes) (sym c.from-component.ensures) (c.requires.slots l.i 0 c.loop-i-test.true) in
    let four : component < length l.before = omega (arith, l.invariant.four, c.requires.few) in
    let whole = blocks_at (map (slot_in codes) slots) c.args.before.now bytes c.args.input.now.cursor in
    let there = at_slot codes slots l.i component c.index-codes-component.result l.before bytes l.input.bytes l.input.cursor (Err c.in_err-before.field-0.0) c.from-component.ensures within c.index-codes-component.is (l.invariant.small component (pos 0) four) l.invariant.bytes c.in_err-before.ensures.is in
    let p = err_from_is_err_and c.from_residual.result c.from_residual.ensures.1 in
    rw (p.1, p.2) (block_refused codes whole (map in_zigzag (take l.i l.out)) slots l.i l.before bytes l.input.cursor c.in_err-before.field-0.0 c.loop-i-test.true l.invariant.going there)

pub loop-i-preserved : goal.loop-i-preserved
loop-i-preserved c =
    let l = c.loop-i in
    let codes = c.args.codes.now in
    let slots = c.args.slots.now in
    let bytes = c.args.input.now.bytes in
    let component = c.from-component.result in
    let dc = c.in_ok-before.field-0 in
    let block = c.block.new.out in
    let read = take l.i l.out in
    let within : component < length codes = subst (λ (k : ℕ). k < length codes) (sym c.from-component.ensures) (c.requires.slots l.i 0 c.loop-i-test.true) in
    let four : component < length l.before = omega (arith, l.invariant.four, c.requires.few) in
    let whole = blocks_at (map (slot_in codes) slots) c.args.before.now bytes c.args.input.now.cursor in
    let there = at_slot codes slots l.i component c.index-codes-component.result l.before bytes l.input.bytes l.input.cursor (Ok (in_zigzag block, c.block.new.input.cursor)) c.from-component.ensures within c.index-codes-component.is (l.invariant.small component (pos 0) four) l.invariant.bytes c.in_ok-before.ensures.is in
    let more = block_more codes whole (map in_zigzag read) slots l.i l.before bytes l.input.cursor c.block.new.input.cursor (in_zigzag block) c.loop-i-test.true l.invariant.going there in
    let kept = kept_half dc c.in_ok-before.ensures.small in
    let bound : unsigned_abs (to_z w16 (of_z w16 dc)) ≤ 32767 = subst (λ (z : ℤ). unsigned_abs z ≤ 32767) (sym kept) c.in_ok-before.ensures.small in
    let room : l.i < length l.out = omega (arith, l.invariant.long, c.loop-i-test.true) in
    let all = take (l.i + 1) (set l.out l.i block) in
    let prefix = sym (map-append in_zigzag read (block ∷ [])) ∙ ap (map in_zigzag) (sym (take_more_set l.out l.i block room)) in
    let after = after_slot codes slots l.i component l.before block dc c.from-component.ensures c.in_ok-before.ensures.dc c.in_ok-before.ensures.small in
    record {
      bytes = c.block.ensures.bytes ∙ l.invariant.bytes;
      long = length-set l.out l.i c.block.new.out ∙ l.invariant.long;
      four = length-set l.before component (to_z w16 (of_z w16 dc)) ∙ l.invariant.four;
      small = All-set (λ (z : ℤ). unsigned_abs z ≤ 32767) l.before component (to_z w16 (of_z w16 dc)) bound l.invariant.small;
      going = more
          ∙ ap (λ (f : List (List ℤ)). after_prefix f (blocks_at (map (slot_in codes) (drop (l.i + 1) slots)) (dcs_after_read l.before (slot_in codes (get_or slots l.i 0)) (in_zigzag block)) bytes c.block.new.input.cursor)) prefix
          ∙ ap (λ (b : List ℤ). after_prefix (map in_zigzag all) (blocks_at (map (slot_in codes) (drop (l.i + 1) slots)) b bytes c.block.new.input.cursor)) after;
    }

pub returns-clause-is : goal.returns-clause-is
returns-clause-is c =
    let l = c.loop-i in
    let whole = blocks_at (map (slot_in c.args.codes.now) c.args.slots.now) c.args.before.now c.args.input.now.bytes c.args.input.now.cursor in
    let all : take l.i l.out ≡ l.out = take_all l.i l.out (omega (arith, l.invariant.long, c.loop-i-test.false)) in
    subst (λ (read : List (List ℤ)). Ok (record { blocks = map in_zigzag read; before = l.before; cursor = l.input.cursor }) ≡ whole) all
    (no_more c.args.codes.now whole (take l.i l.out) c.args.slots.now l.i l.before c.args.input.now.bytes l.input.cursor c.loop-i-test.false l.invariant.going)
