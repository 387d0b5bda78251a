use Rattle.std.proofs.Common.{rules, refl, ◌≡◌, ℕ, ◌<◌, ◌≤◌, Bool, List, arith, ◌∙◌, subst, set, length, get_or, pos, FitsSigned, w32}
use Rattle.std.proofs.lemmas.Int.{to_z-of_z}
use Rattle.std.specs.Prelude.{slice_index}
use Rattle.coef_block.specs.Zigzag.{zigzag}
use Rattle.block_spec.specs.Around.{value_at, values_in}
use Rattle.block_code.proofs.BandSteps.{Kept, after, all_left, zero_here, codes_more, sum_more, fits_more, same_more, none_after, all_counted, all_coded, all_same}
use Rattle.block_code.proofs.BlockCoefficients.{set_coefficient}
use Rattle.block_code.proofs.Placing.{elsewhere_more, long_in, read_there, values_set}
use Rattle.block_code.proofs.values.code_values.Goals as goal

pub code_one-requires-clause-value : goal.code_one-requires-clause-value
code_one-requires-clause-value g c is =
    let fits : FitsSigned w32 c.coefficient.result = search rules in
    let ps = g.B.Band.positions c.args.band.now in
    let n = g.B.Band.count c.args.band.now in
    let place = c.loop-remain.place in
    let some : 1 ≤ c.loop-remain.remain = omega (arith, c.loop-remain-test.true) in
    let within : place < n = omega (arith, c.loop-remain.invariant.fits, some) in
    let there : place < length ps = omega (arith, within, c.requires.positions.long) in
    let read : c.coefficient.result ≡ get_or (values_in ps c.args.wanted.now) place (pos 0) = read_there ps c.args.wanted.now place c.position-position.result c.coefficient.result there c.position-position.ensures.value c.coefficient.ensures.value in
    rw (to_z-of_z w32 c.coefficient.result fits) (
      c.coefficient.ensures.ac,
      λ e. rw read (all_left n (values_in ps c.args.wanted.now) place c.loop-remain.remain (long_in ps c.args.wanted.now ∙ c.requires.positions.long) within some (c.loop-remain.invariant.same is).1 e),
    )

pub put_coefficient-requires-clause-position : goal.put_coefficient-requires-clause-position
put_coefficient-requires-clause-position g c = rw c.index.ensures.position (rw c.position-position.ensures.value at c.position-position.ensures.ac)

pub put_coefficient-requires-clause-zero : goal.put_coefficient-requires-clause-zero
put_coefficient-requires-clause-zero g c =
    let ps = g.B.Band.positions c.args.band.now in
    let n = g.B.Band.count c.args.band.now in
    let place = c.loop-remain.place in
    let out = c.loop-remain.out in
    let within : place < n = omega (arith, c.loop-remain.invariant.fits, c.loop-remain-test.true) in
    let there : place < length ps = omega (arith, within, c.requires.positions.long) in
    read_there ps out place (slice_index zigzag c.index.result) (value_at out (slice_index zigzag c.index.result)) there c.index.ensures.position refl
    ∙ zero_here n (values_in ps out) place (long_in ps out ∙ c.requires.positions.long) within c.loop-remain.invariant.rest

pub loop-remain-preserved : goal.loop-remain-preserved
loop-remain-preserved g c =
    let x = c.in_ok-x.x in
    let fits : FitsSigned w32 c.in_ok-x.x = search rules in
    let read-fits : FitsSigned w32 c.coefficient.result = search rules in
    let ps = g.B.Band.positions c.args.band.now in
    let n = g.B.Band.count c.args.band.now in
    let place = c.loop-remain.place in
    let remain = c.loop-remain.remain in
    let out = c.loop-remain.out in
    let xs = values_in ps out in
    let w = values_in ps c.args.wanted.now in
    let some : 1 ≤ remain = omega (arith, c.loop-remain-test.true) in
    let within : place < n = omega (arith, c.loop-remain.invariant.fits, some) in
    let there : place < length ps = omega (arith, within, c.requires.positions.long) in
    let long : length xs ≡ n = long_in ps out ∙ c.requires.positions.long in
    let at = c.position-position.ensures.value in
    let joined = g.met.C.Coder.joined _ _ _ _ _ c.loop-remain.invariant.codes c.in_ok-x.ensures.coded in
    let e : c.remain_after-remain.result ≡ after remain x = rw (to_z-of_z w32 c.in_ok-x.x fits) at c.remain_after-remain.ensures in
    let put : c.put_coefficient.new.block ≡ set out (get_or ps place 0) x = rw (to_z-of_z w32 c.in_ok-x.x fits, c.index.ensures.position) at c.put_coefficient.ensures in
    let here = values_set ps out place x c.requires.positions.once there c.loop-remain.invariant.block.count in
    rw (put, e, here)
    record {
      codes = rw (codes_more n (g.B.Band.bins c.args.band.now) c.args.count remain place xs x long within c.loop-remain.invariant.sum) at joined;
      sum = sum_more n c.args.count remain place xs x long within some c.loop-remain.invariant.sum;
      fits = fits_more n remain place x within some c.in_ok-x.ensures.full c.loop-remain.invariant.fits;
      rest = none_after place x xs c.loop-remain.invariant.rest;
      block = set_coefficient out (get_or ps place 0) x c.loop-remain.invariant.block (rw at at c.position-position.ensures.ac) c.in_ok-x.ensures.within;
      others = elsewhere_more ps c.args.out.now out place x there c.loop-remain.invariant.others;
      same = λ is.
          let asked = rw (to_z-of_z w32 c.coefficient.result read-fits) at (c.in_ok-x.ensures.same is) in
          let read = read_there ps c.args.wanted.now place c.position-position.result c.coefficient.result there at c.coefficient.ensures.value in
          same_more n w remain place xs x long within (long_in ps c.args.wanted.now ∙ c.requires.positions.long) (asked ∙ read) (c.loop-remain.invariant.same is);
    }

pub returns-clause-coded : goal.returns-clause-coded
returns-clause-coded g c =
    let ps = g.B.Band.positions c.args.band.now in
    let n = g.B.Band.count c.args.band.now in
    let xs = values_in ps c.loop-remain.out in
    let none : c.loop-remain.remain ≡ 0 = omega (arith, c.loop-remain-test.false) in
    subst (λ (es : List (ℕ × Bool)). g.C.Coder.codes c.args.coder.now es c.loop-remain.coder)
    (all_coded n (g.B.Band.bins c.args.band.now) c.args.count c.loop-remain.place xs (long_in ps c.loop-remain.out ∙ c.requires.positions.long) (rw none at c.loop-remain.invariant.sum) c.loop-remain.invariant.rest)
    c.loop-remain.invariant.codes

pub returns-clause-count : goal.returns-clause-count
returns-clause-count g c =
    let none : c.loop-remain.remain ≡ 0 = omega (arith, c.loop-remain-test.false) in
    all_counted c.args.count c.loop-remain.place (values_in (g.B.Band.positions c.args.band.now) c.loop-remain.out) (rw none at c.loop-remain.invariant.sum) c.loop-remain.invariant.rest

pub returns-clause-same : goal.returns-clause-same
returns-clause-same g c is =
    let ps = g.B.Band.positions c.args.band.now in
    let n = g.B.Band.count c.args.band.now in
    let xs = values_in ps c.loop-remain.out in
    let w = values_in ps c.args.wanted.now in
    let none : c.loop-remain.remain ≡ 0 = omega (arith, c.loop-remain-test.false) in
    let kept : Kept c.loop-remain.place 0 xs w = rw none at (c.loop-remain.invariant.same is) in
    all_same n c.loop-remain.place xs w (long_in ps c.loop-remain.out ∙ c.requires.positions.long) (long_in ps c.args.wanted.now ∙ c.requires.positions.long) c.loop-remain.invariant.rest kept
