use Rattle.std.proofs.Common.{◌≡◌, ◌^◌, ◌<◌, Ok, sym, ◌∙◌, subst}
use Rattle.bit_list.specs.Bits.{low_bits}
use Rattle.bit_list.specs.Units.{Reading, bits_at}
use Rattle.jpeg_marker.specs.HuffmanTables.{IsTable}
use Rattle.huff_table.specs.Decoding.{value_at}
use Rattle.huff_table.proofs.ShortReading.{taken_value, quick_is_read}
use Rattle.huff_table.proofs.codes.Codes.next.Goals as goal

pub returns-then-is_ok-clause-ok : goal.returns-then-is_ok-clause-ok
returns-then-is_ok-clause-ok c =
    let now = c.ready.new.self in
    let to = c.take.new.self.cursor in
    let found = c.in-Some in
    let taken = taken_value c.take.result (λ v. (v < 2 ^ found.size) × (bits_at found.size now.bytes now.cursor ≡ Ok (low_bits found.size v, to)))
    (sym c.is_ok.ensures.value ∙ c.if-is_ok.true) c.take.ensures.ok in
    subst (λ (b : Reading). value_at c.args.self.now b.bytes b.cursor ≡ Ok (found.value, to)) c.ready.ensures
    (quick_is_read c.args.self.now now.bytes now.cursor to c.peek9.result found.value found.size taken.0 (subst IsTable c.self.view_is c.self.invariant.table)
    c.peek9.ensures.number found.ensures.some.1 found.ensures.some.2 taken.1.1)
