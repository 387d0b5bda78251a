use Rattle.std.proofs.Common.{◌≡◌, ◌-◌, subst, sym}
use Rattle.std.specs.Prelude.{◌⊎◌}
use Rattle.byte_window.specs.Slices.{slice}
use Rattle.lepton_c.specs.Gives.{Puts}
use Rattle.lepton_c.specs.declared.numbers.LeptonEnding.{LeptonEnding}
use Rattle.lepton_c.proofs.RangesAgain.{range_again}
use Rattle.lepton_c.proofs.ranging.lepton_range.Goals as goal

pub returns-clause-back : goal.returns-clause-back
returns-clause-back c = λ segments file container old new before after made kept gives done text indexes
    stored reads order within room.
    let P : LeptonEnding → Type 0 = λ e. ((e.status ≡ 0) × (e.length ≡ c.args.to - c.args.from)
    × Puts c.args.out.now c.range-answer.new.out (slice c.args.from c.args.to file)) ⊎ (e.status ≡ 5) in
    subst P (sym c.numbers.ensures) (range_again segments c.args.from c.args.to file container
    c.args.bytes.now old new before after c.args.out.now c.range-answer.new.out made kept
    c.range-answer.result gives done text indexes stored reads order within room c.range-answer.ensures)
