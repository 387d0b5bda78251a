use Rattle.std.proofs.Common.{map, sym, subst}
use Rattle.scan_spec.specs.ShapeInside.{slot_in}
use Rattle.scan_decode.specs.ReadWords.{AreReadSlots}
use Rattle.scan_decode.proofs.blocks.blocks.Goals as goal
use Rattle.scan_decode.proofs.blocks.blocks.Goals.{then-is_empty, else-is_empty}

pub blocks_by-requires-clause-reads : goal.blocks_by-requires-clause-reads
blocks_by-requires-clause-reads c =
    let slots = map (slot_in c.args.codes.now) c.args.slots.now in
    let known : AreReadSlots slots (map (λ v. v.items) c.if-is_empty.reads.items) = elim c.if-is_empty.branch [
      | then-is_empty w ↦ subst (λ x. AreReadSlots slots (map (λ v. v.items) x.items)) (sym w.reads-is) w.make_reads.ensures
      | else-is_empty w ↦ subst (λ x. AreReadSlots slots (map (λ v. v.items) x.items)) (sym w.reads-is) c.requires.reads
    ] in
    subst (λ xs. AreReadSlots slots (map (λ v. v.items) xs)) (sym c.as_slice.ensures.value) known

pub returns-clause-reads : goal.returns-clause-reads
returns-clause-reads c =
    let slots = map (slot_in c.args.codes.now) c.args.slots.now in
    elim c.if-is_empty.branch [
      | then-is_empty w ↦ subst (λ x. AreReadSlots slots (map (λ v. v.items) x.items)) (sym w.reads-is) w.make_reads.ensures
      | else-is_empty w ↦ subst (λ x. AreReadSlots slots (map (λ v. v.items) x.items)) (sym w.reads-is) c.requires.reads
    ]
