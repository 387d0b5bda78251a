use Rattle.std.proofs.Common.{◌∙◌, arith}
use Rattle.outside_core.proofs.Moves.{Consumes-filled}
use Rattle.store_run.proofs.reading.read_exactly.Goals as goal

pub loop-filled-preserved : goal.loop-filled-preserved
loop-filled-preserved g c =
    let room = c.in_default.ensures in
    let told = c.in_ok-taken.ensures in
    let bounded = room.within c.loop-filled.invariant.bounded in
    record {
      below = omega (arith, told.count, told.len, bounded);
      in_range = omega (arith, told.count, told.len);
      bounded = omega (arith, told.len, bounded);
      so_far = Consumes-filled _ _ _ _ _ _ _ c.loop-filled.invariant.so_far (told.kept ∙ room.kept) told.moved;
      readable = told.readable;
      unfailed = told.unfailed ∙ c.loop-filled.invariant.unfailed;
    }
