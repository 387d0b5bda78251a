use Rattle.std.proofs.Common.{◌+◌, ◌-◌, ◌*◌, ◌≤◌, ◌∙◌, sym, ap, Some, arith}
use Rattle.bool_coder.proofs.EncoderWord.{word_parts, kept-parts, whole_bytes, word_fits, last_carry, last_room, stream_is, shown}
use Rattle.bool_coder.proofs.encoder.Encoder.finish.Goals as goal

pub append-requires-clause-carry : goal.append-requires-clause-carry
append-requires-clause-carry c =
    let p = word_parts c.self.inside.written.items c.self.inside.low (c.self.inside.less + 1) _ _ c.self.invariant c.parts_of-low.ensures.low c.parts_of-low.ensures.bits in
    let few : 8 * c.div_ceil-count.result - c.parts_of-low.result.1 ≤ 7 = omega arith in
    rw (word_fits c.parts_of-low.result.0 c.parts_of-low.result.1 (c.self.inside.less + 1) _ p.short few (omega arith) p.one_carry)
    (last_carry c.parts_of-low.result.0 c.parts_of-low.result.1 (c.self.inside.less + 1) c.div_ceil-count.result _ (omega arith) p.one_carry (whole_bytes c.parts_of-low.result.1 c.div_ceil-count.result c.div_ceil-count.ensures))

pub append-requires-clause-room : goal.append-requires-clause-room
append-requires-clause-room c =
    let p = word_parts c.self.inside.written.items c.self.inside.low (c.self.inside.less + 1) _ _ c.self.invariant c.parts_of-low.ensures.low c.parts_of-low.ensures.bits in
    let few : 8 * c.div_ceil-count.result - c.parts_of-low.result.1 ≤ 7 = omega arith in
    rw (word_fits c.parts_of-low.result.0 c.parts_of-low.result.1 (c.self.inside.less + 1) _ p.short few (omega arith) p.one_carry)
    (last_room c.self.inside.written.items c.parts_of-low.result.0 c.parts_of-low.result.1 (c.self.inside.less + 1) c.div_ceil-count.result _ p.begun (omega arith)
    (whole_bytes c.parts_of-low.result.1 c.div_ceil-count.result c.div_ceil-count.ensures) p.on_line)

pub returns-clause-stream : goal.returns-clause-stream
returns-clause-stream c =
    let p = word_parts c.self.inside.written.items c.self.inside.low (c.self.inside.less + 1) _ _ c.self.invariant c.parts_of-low.ensures.low c.parts_of-low.ensures.bits in
    let few : 8 * c.div_ceil-count.result - c.parts_of-low.result.1 ≤ 7 = omega arith in
    let fits = word_fits c.parts_of-low.result.0 c.parts_of-low.result.1 (c.self.inside.less + 1) (8 * c.div_ceil-count.result - c.parts_of-low.result.1) p.short few (omega arith) p.one_carry in
    let number = rw fits at c.in_ok-append.ensures.number in
    let same = kept-parts c.self.inside.written.items c.self.inside.low (c.self.inside.less + 1) _ _ c.parts_of-low.ensures.low c.parts_of-low.ensures.bits in
    rw (sym c.self.view_is ∙ shown _ _ c.in_default.is ∙ ap Some same)
    (stream_is c.self.inside.written.items _ c.parts_of-low.result.0 c.parts_of-low.result.1 (c.self.inside.less + 1) c.div_ceil-count.result
    p.begun c.div_ceil-count.ensures c.in_ok-append.ensures.bytes c.in_ok-append.ensures.longer number)
