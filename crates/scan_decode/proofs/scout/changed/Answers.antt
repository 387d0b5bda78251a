use Rattle.std.proofs.Common.{rules, length, ◌≡◌, ℕ, List, map, Ok, refl, sym, ap, ap₂, ◌∙◌, subst, arith}
use Rattle.std.specs.List.{All}
use Rattle.std.proofs.lemmas.List.{length-map}
use Rattle.scan_spec.specs.BlockBits.{in_zigzag}
use Rattle.scan_spec.specs.ScanReading.{BlocksRead, blocks_at}
use Rattle.scan_spec.specs.ShapeInside.{slot_in}
use Rattle.scan_spec.specs.Slots.{Shape}
use Rattle.scan_spec.specs.declared.slot.Slot.{Slot}
use Rattle.scan_decode.specs.SkipWords.{AreSkipSlots}
use Rattle.scan_decode.specs.Excerpts.{AreAnywhere}
use Rattle.scan_decode.proofs.ExcerptReading.{IsSlot, none_anywhere, no_change, one_anywhere, slots_within}
use Rattle.scan_decode.proofs.scout.changed.Goals as goal

pub loop-init : goal.loop-init
loop-init c = record {
  bytes = refl;
  four = refl;
  change = no_change;
  are = none_anywhere c.args.tables.now c.args.input.now.bytes c.args.input.now.cursor;
}

pub skip_blocks_by-requires-clause-skips : goal.skip_blocks_by-requires-clause-skips
skip_blocks_by-requires-clause-skips c =
    subst (λ words. AreSkipSlots (map (slot_in c.slots.result.0.now) c.slots.result.1.now) (map (λ v. v.items) words)) (sym c.deref.ensures.value)
    (subst (λ (slots : List Slot). AreSkipSlots slots (map (λ v. v.items) c.tables.inside.words.items)) (sym c.slots.ensures.slots) c.tables.invariant)

pub loop-preserved : goal.loop-preserved
loop-preserved c =
    let l = c.loop in
    let shape = c.args.tables.now in
    let slots : map (slot_in c.slots.result.0.now) c.slots.result.1.now ≡ shape.slots = c.slots.ensures.slots ∙ ap (λ (s : Shape). s.slots) c.tables.view_is in
    let done = c.in-Ok.ensures.is in
    let read : BlocksRead = record { blocks = map in_zigzag done.0; before = c.skip_blocks_by.new.before; cursor = c.skip_blocks_by.new.input.cursor } in
    let there : blocks_at shape.slots l.change c.args.input.now.bytes l.input.cursor ≡ Ok read =
    ap₂ (λ (all : List Slot) (bytes : List ℕ). blocks_at all l.change bytes l.input.cursor) (sym slots) (sym l.invariant.bytes) ∙ sym done.1 in
    let within : All IsSlot shape.slots = subst (All IsSlot) slots (slots_within c.slots.result.0.now c.slots.result.1.now c.slots.ensures.components c.slots.ensures.within) in
    record {
      bytes = c.skip_blocks_by.ensures.bytes ∙ l.invariant.bytes;
      four = search rules;
      change = c.if-not-are_changes.ensures.0 refl;
      are = one_anywhere l.counter shape c.args.input.now.bytes c.args.input.now.cursor l.input.cursor l.change read c.requires l.invariant.four l.invariant.change within (let few = c.slots.ensures.blocks in let long = ap (λ (all : List Slot). length all) slots in let same = length-map c.slots.result.1.now (slot_in c.slots.result.0.now) in omega (arith, few, long, same)) l.invariant.are there;
    }

pub returns-clause-are : goal.returns-clause-are
returns-clause-are c = subst (λ (n : ℕ). AreAnywhere n c.args.tables.now c.args.input.now.bytes c.args.input.now.cursor c.loop.input.cursor c.loop.change) (let past = c.loop-test.false in let within = c.loop.auto.counter-end in omega (arith, past, within)) c.loop.invariant.are
