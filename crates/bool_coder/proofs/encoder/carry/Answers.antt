use Rattle.std.proofs.Common.{◌≡◌, ◌<◌, ◌∙◌, sym, length, get_or, arith}
use Rattle.std.proofs.lemmas.List.{get_or_read}
use Rattle.bool_coder.proofs.Carry.{place-some, Carrying-goes_on, Carrying-ends}
use Rattle.bool_coder.proofs.encoder.carry.Goals as goal

full : (c : goal.After-written-1) → get_or c.loop-written.written.items c.loop-written.place 0 ≡ 255
full c =
    let before : c.loop-written.place < length c.loop-written.written.items = omega arith in
    sym (get_or_read c.loop-written.written.items _ _ before c.index.ensures 0) ∙ c.loop-written-test.true

some : (c : goal.After-written-1) → 0 < c.loop-written.place
some c = place-some _ _ _ _ c.loop-written.invariant (full c) c.requires.room

pub overflow_sub-place-in-loop-written : goal.overflow_sub-place-in-loop-written
overflow_sub-place-in-loop-written c = some c

pub loop-written-smaller : goal.loop-written-smaller
loop-written-smaller c = omega (arith, some c)

pub loop-written-preserved : goal.loop-written-preserved
loop-written-preserved c = Carrying-goes_on _ _ _ _ c.loop-written.invariant (full c) (some c)

pub returns-clause-number : goal.returns-clause-number
returns-clause-number c =
    let before : c.loop-written.place < length c.loop-written.written.items = omega arith in
    rw (get_or_read c.loop-written.written.items _ _ before c.index_mut-2.ensures.value 0) (Carrying-ends _ _ _ _ c.loop-written.invariant)
