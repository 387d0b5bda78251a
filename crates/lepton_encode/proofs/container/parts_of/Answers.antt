use Rattle.std.proofs.Common.{◌<◌, length, arith}
use Rattle.lepton_encode.proofs.PartsListed.{parts_next, within_next}
use Rattle.lepton_encode.proofs.container.parts_of.Goals as goal

pub loop-i-preserved : goal.loop-i-preserved
loop-i-preserved c =
    let v = c.args.version in
    let bytes = c.args.bytes.now in
    let heads = c.args.heads.now in
    let coded = c.args.coded.now in
    let i = c.loop-i.i in
    let test = c.loop-i-test.true in
    let below : i < length heads = omega (arith, test) in
    record {
      within = within_next v bytes heads coded i c.index-heads-i.result c.index-coded-i.result below
          c.loop-i.invariant.within c.index-heads-i.is c.index-coded-i.is;
      made = parts_next v bytes heads coded i c.index-heads-i.result c.index-coded-i.result below
          c.loop-i.invariant.within c.index-heads-i.is c.index-coded-i.is c.loop-i.parts.items
          c.push.new.list.items c.parts_of_scan.result _ c.parts_of_scan.ensures
          c.in_ok-push.ensures.items c.loop-i.invariant.made;
    }
