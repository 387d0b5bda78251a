use Rattle.std.proofs.Common.{◌≡◌, length, subst, sym}
use Rattle.std.specs.Prelude.{◌⊎◌}
use Rattle.lepton_c.specs.Gives.{Puts}
use Rattle.lepton_c.specs.declared.numbers.LeptonEnding.{LeptonEnding}
use Rattle.lepton_c.proofs.BackAgain.{back}
use Rattle.lepton_c.proofs.decoding.lepton_decode.Goals as goal

pub returns-clause-back : goal.returns-clause-back
returns-clause-back c = λ segments file old new made gives done text room.
    let P : LeptonEnding → Type 0 = λ e. ((e.status ≡ 0) × (e.length ≡ length file)
    × Puts c.args.out.now c.decode-answer.new.out file) ⊎ (e.status ≡ 5) in
    subst P (sym c.numbers.ensures) (back segments file old new made c.args.bytes.now c.args.out.now
    c.decode-answer.new.out c.decode-answer.result gives done text room c.decode-answer.ensures)
