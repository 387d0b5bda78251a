use Rattle.std.proofs.Common.{rules, ◌≡◌, ◌+◌, ◌/◌, ◌%◌, ◌<◌, ◌≤◌, ℕ, List, Ok, refl, ap, sym, ◌∙◌, subst, arith}
use Rattle.bit_list.specs.Bits.{low_bits}
use Rattle.bit_list.specs.Units.{Reading, bits_at}
use Rattle.huff_table.specs.Decoding.{value_at}
use Rattle.scan_spec.specs.ScanReading.{refused_as}
use Rattle.scan_spec.specs.ScanSymbols.{code_refusal}
use Rattle.scan_decode.specs.SkipWords.{GoesOn}
use Rattle.scan_decode.proofs.SkipReading.{value_goes_on}
use Rattle.scan_decode.proofs.skip.by_sixteen_bits.Goals as goal

pub returns-clause-is : goal.returns-clause-is
returns-clause-is c =
    let codes = c.args.codes.now in
    let now = c.args.input.now in
    let index = c.args.index in
    let symbol = c.in_ok-symbol.symbol in
    let more = symbol % 16 in
    let middle = c.by_sixteen_bits.new.input.cursor in
    let to = c.advance.new.self.cursor in
    let taken = c.if-not-advance.ensures.bits refl in
    let read = subst (λ (b : Reading). value_at codes b.bytes b.cursor ≡ Ok (symbol, middle)) c.copied-left.ensures c.in_ok-symbol.ensures.some in
    let ready = subst (λ (b : Reading). bits_at more b.bytes b.cursor ≡ Ok (low_bits more taken.0, to)) c.ready.ensures taken.1 in
    let same = c.by_sixteen_bits.ensures.bytes ∙ ap (λ (b : Reading). b.bytes) c.copied-left.ensures in
    let second = subst (λ (bytes : List ℕ). bits_at more bytes middle ≡ Ok (low_bits more taken.0, to)) same ready in
    let byte : symbol < 256 = search rules in
    let room : index + (symbol / 16 + 1) ≤ 64 = let e = c.from.ensures in let r = c.if-next-gt64.false in omega (arith, e, r) in
    subst (λ (n : ℕ). GoesOn codes now.bytes index now.cursor (index + n) to) (sym c.from.ensures)
    (value_goes_on codes now.bytes now.cursor middle to index symbol (symbol / 16) more (low_bits more taken.0) (sym (ap (refused_as code_refusal) read)) second
    (omega arith) (omega (arith, byte)) (let some = c.if-more-eq0.false in omega (arith, some)) (let most = c.if-more-gt10.false in omega (arith, most)) room)
