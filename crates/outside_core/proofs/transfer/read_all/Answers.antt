use Rattle.std.proofs.Common.{◌∙◌, arith}
use Rattle.outside_core.proofs.Moves.{Consumes-filled, Consumes-past}
use Rattle.outside_core.proofs.transfer.read_all.Goals as goal

pub loop-bytes-preserved : goal.loop-bytes-preserved
loop-bytes-preserved g c =
    let room = c.in_ok-make_room.ensures in
    let told = c.in_ok-taken.ensures in
    record {
      below = omega arith;
      in_range = omega (arith, told.count, told.len);
      bounded = omega (arith, told.len, room.within c.loop-bytes.invariant.bounded);
      so_far = Consumes-filled _ _ _ _ _ _ _ c.loop-bytes.invariant.so_far (told.kept ∙ room.kept) told.moved;
      readable = told.readable;
      unfailed = told.unfailed ∙ c.loop-bytes.invariant.unfailed;
    }

pub returns-then-filled-limit-clause-too_long : goal.returns-then-filled-limit-clause-too_long
returns-then-filled-limit-clause-too_long g c = λ h.
    let room = c.in_ok-make_room.ensures in
    let told = c.in_ok-taken.ensures in
    Consumes-past _ _ _ _ _ _ _ c.args.limit c.loop-bytes.invariant.so_far (told.kept ∙ room.kept) told.moved
    (omega (arith, told.count, told.len)) (omega (arith, told.len, room.within c.loop-bytes.invariant.bounded)) (omega arith)

pub returns-then-filled-limit-clause-prefix : goal.returns-then-filled-limit-clause-prefix
returns-then-filled-limit-clause-prefix g c =
    let room = c.in_ok-make_room.ensures in
    let told = c.in_ok-taken.ensures in
    let past = Consumes-past _ _ _ _ _ _ _ c.args.limit c.loop-bytes.invariant.so_far (told.kept ∙ room.kept) told.moved
    (omega (arith, told.count, told.len)) (omega (arith, told.len, room.within c.loop-bytes.invariant.bounded)) (omega arith) in
    (past.0, omega (arith, past.1), past.2)
