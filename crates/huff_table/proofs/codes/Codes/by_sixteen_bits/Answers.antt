use Rattle.std.proofs.Common.{refl, subst}
use Rattle.jpeg_marker.specs.HuffmanTables.{IsTable}
use Rattle.huff_table.proofs.LongReading.{long_is_read}
use Rattle.huff_table.proofs.codes.Codes.by_sixteen_bits.Goals as goal

pub returns-clause-some : goal.returns-clause-some
returns-clause-some c =
    let now = c.args.input.now in
    let found = c.in_ok-value in
    let seen = c.in_ok-look.ensures.bits in
    let read = c.if-not-advance.ensures.bits refl in
    long_is_read c.args.self.now now.bytes now.cursor seen.0 c.advance.new.self.cursor c.in_ok-look.field-0 found.value found.size read.0
    (subst IsTable c.self.view_is c.self.invariant.table) found.ensures.1 found.ensures.2 seen.1 read.1
