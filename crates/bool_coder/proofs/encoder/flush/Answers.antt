use Rattle.std.proofs.Common.{◌-◌, arith}
use Rattle.bool_coder.proofs.EncoderWord.{flush_carry, flush_room, flushed-word, full_parts, kept-flushed, kept-longer, word_left}
use Rattle.bool_coder.proofs.encoder.flush.Goals as goal

pub append-requires-clause-carry : goal.append-requires-clause-carry
append-requires-clause-carry c =
    let w = c.requires.word.1 in
    let f = full_parts c.args.written.items c.args.low c.requires.word.0 _ _ (omega (arith, c.requires.full)) (omega (arith, w.long)) w.one_carry (kept-longer c.args.written.items c.args.low c.requires.word.0 w) c.parts_of-number.ensures.low c.parts_of-number.ensures.bits in
    flush_carry c.parts_of-number.result.0 c.parts_of-number.result.1 c.requires.word.0 (c.parts_of-number.ensures.full c.requires.full) f.some f.one_carry

pub append-requires-clause-room : goal.append-requires-clause-room
append-requires-clause-room c =
    let w = c.requires.word.1 in
    let f = full_parts c.args.written.items c.args.low c.requires.word.0 _ _ (omega (arith, c.requires.full)) (omega (arith, w.long)) w.one_carry (kept-longer c.args.written.items c.args.low c.requires.word.0 w) c.parts_of-number.ensures.low c.parts_of-number.ensures.bits in
    flush_room c.args.written.items c.parts_of-number.result.0 c.parts_of-number.result.1 c.requires.word.0 (c.parts_of-number.ensures.full c.requires.full) f.some f.on_line

pub returns : goal.returns
returns c = λ range w.
    let k = kept-longer c.args.written.items c.args.low range w in
    let full = c.parts_of-number.ensures.full c.requires.full in
    let longer = c.in_ok-append.ensures.longer in
    let number = c.in_ok-append.ensures.number in
    rw (word_left c.parts_of-number.result.0 (c.parts_of-number.result.1 - 32) (omega arith))
    (record {
      is = flushed-word c.args.written.items _ c.args.low range _ _ c.parts_of-number.ensures.low c.parts_of-number.ensures.bits full c.parts_of-number.ensures.few longer number k;
      same = kept-flushed c.args.written.items _ c.args.low range _ _ c.parts_of-number.ensures.low c.parts_of-number.ensures.bits full c.parts_of-number.ensures.few longer number;
    })
