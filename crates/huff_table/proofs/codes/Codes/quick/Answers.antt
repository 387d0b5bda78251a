use Rattle.std.proofs.Common.{◌≡◌, ◌≤◌, ℕ, List, Bool, ◌++◌, length, take, get_or, Some, ap₂, subst}
use Rattle.bit_list.specs.Bits.{low_bits}
use Rattle.jpeg_marker.specs.HuffmanTables.{TableFields}
use Rattle.huff_table.specs.CodeWords.{word_of}
use Rattle.huff_table.specs.ShortWords.{no_short}
use Rattle.huff_table.proofs.ShortReading.{quick_found, quick_none}
use Rattle.huff_table.proofs.codes.Codes.quick.Goals as goal

pub returns-then-found-eq0-clause-none : goal.returns-then-found-eq0-clause-none
returns-then-found-eq0-clause-none c =
    let found = get_or c.self.inside.short c.from.result no_short in
    let none = quick_none c.self.inside.table c.args.index found c.self.invariant.table c.requires (ap₂ (λ ws i. get_or ws i no_short) c.self.invariant.short c.from.ensures) c.if-found-eq0.true in
    subst (λ (t : TableFields). (value : ℕ) (word more : List Bool) → word_of t value ≡ Some word → length word ≤ 9 → low_bits 9 c.args.index ≡ word ++ more → ⊥) c.self.view_is none

pub returns-clause-some : goal.returns-clause-some
returns-clause-some c =
    let found = get_or c.self.inside.short c.from.result no_short in
    let is = quick_found c.self.inside.table c.args.index found c.self.invariant.table c.requires (ap₂ (λ ws i. get_or ws i no_short) c.self.invariant.short c.from.ensures) c.if-found-eq0.false in
    (is.some, is.few, subst (λ (t : TableFields). word_of t found.value ≡ Some (take found.size (low_bits 9 c.args.index))) c.self.view_is is.is)
