use Rattle.std.proofs.Common.{arith, subst, sym, List, ℕ, length, ◌<◌, ◌^◌, refl}
use Rattle.box_format.proofs.GivenScans.{trailer_short, all_can_give, front_written}
use Rattle.box_format.proofs.writing.put_front.Goals as goal

pub overflow_cast-trailer : goal.overflow_cast-trailer
overflow_cast-trailer c =
    let short = subst (λ (l : List ℕ). length l < 2 ^ 32) (sym c.last_trailer-trailer.ensures)
    (trailer_short c.args.version c.args.scans.now c.requires.given) in
    omega arith

pub put_all_fields-requires : goal.put_all_fields-requires
put_all_fields-requires c = all_can_give c.args.version c.args.scans.now c.requires.given

pub returns : goal.returns
returns c =
    front_written c.args.version c.args.scans.now (length c.args.scans.now) c.last_trailer-trailer.result.now _ _ _ _ _
    refl c.last_trailer-trailer.ensures c.requires.none c.in_ok-put_start.ensures
    c.in_ok-put_all_fields.ensures c.in_ok-put_headers.ensures
    c.in_ok-extend_from_slice.ensures.items
