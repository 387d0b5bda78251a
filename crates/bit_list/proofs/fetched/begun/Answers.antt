use Rattle.std.proofs.Common.{◌≡◌, ◌+◌, ◌/◌, ◌%◌, ◌*◌, ◌^◌, nat_lt, arith}
use Rattle.bit_list.specs.BitsInside.{place_before}
use Rattle.bit_list.proofs.Machine.{masked}
use Rattle.bit_list.proofs.Ahead.{place_by, begun_of, last_begun, last_before}
use Rattle.bit_list.proofs.fetched.begun.Goals.{then-at-next, else-at-next}
use Rattle.bit_list.proofs.fetched.begun.Goals as goal

pub returns-clause-cursor : goal.returns-clause-cursor
returns-clause-cursor c =
    let at = c.args.at in
    let place = place_before at.end at.stuffed in
    let last : c.if-at-next.last ≡ place_by (nat_lt at.first (place (at.count / 8))) (place (at.count / 8 + 1)) at.last = elim c.if-at-next.branch [
      | then-at-next w ↦ last_begun at.first (place (at.count / 8)) (place (at.count / 8 + 1)) at.last _ (omega (arith, w.if-at-next, c.before-next.ensures)) (omega (arith, w.last-is))
      | else-at-next w ↦ last_before at.first (place (at.count / 8)) (place (at.count / 8 + 1)) at.last _ (omega (arith, w.if-at-next, c.before-next.ensures)) (omega (arith, w.last-is))
    ] in
    begun_of place at.word at.skip at.last at.first at.count _ c.if-at-next.last c.before-next.result c.before-next.ensures
    (masked (at.word / 2 ^ (8 * (at.count / 8))) (at.count % 8) 64 (omega arith)) last
