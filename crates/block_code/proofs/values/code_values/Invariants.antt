use Rattle.std.proofs.Common.{◌≡◌, ◌+◌, ◌≤◌, ◌-◌, IsTrue, take, drop}
use Rattle.coef_block.specs.Block.{IsBlock}
use Rattle.block_spec.specs.Around.{values_in}
use Rattle.block_spec.specs.Values.{nonzeros}
use Rattle.block_code.specs.BandPositions.{AreSameElsewhere}
use Rattle.block_code.proofs.BandSteps.{values_from, Kept}
use Rattle.block_code.proofs.values.code_values.Given as goal

abbrev pub invariant-loop-remain : goal.invariant-loop-remain
invariant-loop-remain g l = record {
  codes : g.C.Coder.codes l.initial.coder (values_from (g.B.Band.bins l.band) (g.B.Band.count l.band) 0 l.count (take l.place (values_in (g.B.Band.positions l.band) l.out))) l.coder;
  sum : l.remain + nonzeros (take l.place (values_in (g.B.Band.positions l.band) l.out)) ≡ l.count;
  fits : l.place + l.remain ≤ g.B.Band.count l.band;
  rest : nonzeros (drop l.place (values_in (g.B.Band.positions l.band) l.out)) ≡ 0;
  block : IsBlock l.out;
  others : AreSameElsewhere (g.B.Band.positions l.band) l.initial.out l.out;
  same : IsTrue g.C.Coder.given → Kept l.place l.remain (values_in (g.B.Band.positions l.band) l.out) (values_in (g.B.Band.positions l.band) l.wanted);
}

abbrev pub decreases-loop-remain : goal.decreases-loop-remain
decreases-loop-remain g l = g.B.Band.count l.band - l.place
