use Rattle.std.proofs.Common.{◌∷◌, [], ◌+◌, ℕ, map, length, get_or, sym, ap, subst, ◌∙◌, arith}
use Rattle.std.proofs.lemmas.List.{get_or_read, length-map, length_push, map-append}
use Rattle.huff_table.specs.ComponentTables.{no_codes}
use Rattle.huff_table.specs.declared.plan_codes.ComponentCodes.{ComponentCodes}
use Rattle.scan_spec.specs.ShapeInside.{slot_in}
use Rattle.scan_decode.specs.ReadWords.{AreReads, AreReadSlots}
use Rattle.scan_decode.proofs.WordLists.{OfComponents, one_kept, lists_of_slots}
use Rattle.scan_decode.proofs.blocks.make_reads.Goals as goal

pub returns-in-Err : goal.returns-in-Err
returns-in-Err c =
    lists_of_slots AreReads c.args.codes.now c.args.slots.now (map (λ v. v.items) c.loop-i.reads.items) c.loop-i.invariant.made c.requires.slots

pub returns-in-Err-push : goal.returns-in-Err-push
returns-in-Err-push c =
    subst (λ xs. AreReadSlots (map (slot_in c.args.codes.now) c.args.slots.now) (map (λ v. v.items) xs)) (sym c.in-Err-push.ensures.items)
    (lists_of_slots AreReads c.args.codes.now c.args.slots.now (map (λ v. v.items) c.loop-i.reads.items) c.loop-i.invariant.made c.requires.slots)

pub loop-i-preserved : goal.loop-i-preserved
loop-i-preserved c =
    let l = c.loop-i in
    let codes = c.args.codes.now in
    let words = c.in-Ok.words in
    let lists = map (λ v. v.items) l.reads.items in
    let items = c.in-Ok-push.ensures.items in
    let count = length-map l.reads.items (λ v. v.items) ∙ l.invariant.long in
    let kept = get_or_read codes l.i c.index-codes-i.result c.loop-i-test.true c.index-codes-i.is no_codes in
    let here : AreReads (get_or codes (length lists) no_codes).ac words.items =
    subst (λ (n : ℕ). AreReads (get_or codes n no_codes).ac words.items) (sym count)
    (subst (λ (t : ComponentCodes). AreReads t.ac words.items) (sym c.index-codes-i.is ∙ kept) c.in-Ok.ensures) in
    let more = one_kept AreReads codes lists words.items (λ table k below. absurd (omega (arith, below))) l.invariant.made here in
    record {
      long = ap length items ∙ length_push l.reads.items words ∙ ap (λ (n : ℕ). n + 1) l.invariant.long;
      made = subst (OfComponents AreReads codes) (sym (ap (map (λ v. v.items)) items ∙ map-append (λ v. v.items) l.reads.items (words ∷ []))) more;
    }

pub returns : goal.returns
returns c =
    lists_of_slots AreReads c.args.codes.now c.args.slots.now (map (λ v. v.items) c.loop-i.reads.items) c.loop-i.invariant.made c.requires.slots
