use Rattle.std.proofs.Common.{rules, ◌≡◌, List, ℕ, Bool, subst, sym, FitsSigned, w32, set}
use Rattle.std.proofs.lemmas.Int.{to_z-of_z}
use Rattle.std.specs.Prelude.{ℤ, Result, Ok, Err, OnOk, IfErr, ◌+ℤ◌}
use Rattle.coef_block.specs.Block.{IsBlock, IsDc}
use Rattle.adapt_bins.specs.GotEvents.{GetsEvents}
use Rattle.block_spec.specs.Around.{Around, prediction}
use Rattle.block_spec.specs.BlockEvents.{block_events}
use Rattle.block_spec.specs.ReadBlocks.{IsRead, residue_events}
use Rattle.block_spec.specs.declared.fault.BlockFault.{BlockFault}
use Rattle.block_spec.specs.declared.fault.BlockFault.TheVariants.{BlockCount, DcRange}
use Rattle.block_code.specs.ReadInPlace.{read_as}
use Rattle.block_code.specs.ValueRanges.{IsResidue}
use Rattle.block_code.proofs.BlocksOfBands.{got_coded, range_coded}
use Rattle.block_code.proofs.block.block_read.Goals as goal

-- the two faults differ
abbrev one_of : BlockFault → Type 0
one_of BlockCount = Unit {0}
one_of DcRange = ⊥

answered : {A : Type 0} (codes : List (ℕ × Bool) → Type 0) (class : ℕ) (around : Around) (p residue : ℤ) (block new : List ℤ) (result : Result A BlockFault) → p ≡ prediction around → IsBlock block → IsResidue residue
    → codes (residue_events class around block residue) → OnOk result (new ≡ set block 0 (p +ℤ residue)) → OnOk result (IsBlock new)
    → IfErr result (λ fault. (fault ≡ DcRange) × (IsDc (p +ℤ residue) → ⊥))
    → IsRead codes class around (read_as result new)
answered codes class around p residue block new (Ok done) e is small coded made is_full fault =
    (is_full, subst (λ (b : List ℤ). codes (block_events class around b)) (sym made) (got_coded codes class around block p residue e is coded))
answered codes class around p residue block new (Err BlockCount) e is small coded made is_full fault = absurd (subst one_of fault.0 tt)
answered codes class around p residue block new (Err DcRange) e is small coded made is_full fault = range_coded codes class around block p residue e is small fault.1 coded

pub returns-in-Some : goal.returns-in-Some
returns-in-Some c from to class around e coded many =
    let fp : FitsSigned w32 c.args.predicted = search rules in
    let fr : FitsSigned w32 c.in-Some.residue = search rules in
    let dc = rw (to_z-of_z w32 c.args.predicted fp, to_z-of_z w32 c.in-Some.residue fr) at c.with_dc.ensures.dc in
    let fault = rw (to_z-of_z w32 c.args.predicted fp, to_z-of_z w32 c.in-Some.residue fr) at c.with_dc.ensures.fault in
    answered (λ (es : List (ℕ × Bool)). GetsEvents from es to) class around c.args.predicted c.in-Some.residue c.args.block.now c.with_dc.new.block c.with_dc.result e
    (rw c.in-Some.is at c.requires.block) (rw c.in-Some.is at c.requires.residue) (rw c.in-Some.is at coded) dc c.with_dc.ensures.block fault
