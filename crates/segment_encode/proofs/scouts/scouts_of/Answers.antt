use Rattle.segment_encode.proofs.ScoutsBack.{more_new}
use Rattle.segment_encode.proofs.scouts.scouts_of.Goals as goal

pub loop-preserved : goal.loop-preserved
loop-preserved c =
    more_new c.args.tables.now c.args.bytes.now c.loop.scouts.items c.push.new.list.items
    c.in_ok-scout.scout c.loop.invariant c.in_ok-scout.ensures c.in_ok-push.ensures.items
