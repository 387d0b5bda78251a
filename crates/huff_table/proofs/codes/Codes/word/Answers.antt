use Rattle.std.proofs.Common.{◌≡◌, ◌<◌, refl, sym, get_or, ap₂, subst, arith, None, Some}
use Rattle.std.specs.Prelude.{Contains}
use Rattle.bit_list.specs.Bits.{low_bits}
use Rattle.jpeg_marker.specs.HuffmanTables.{TableFields}
use Rattle.huff_table.specs.CodeWords.{word_of}
use Rattle.huff_table.specs.CodesInside.{no_word}
use Rattle.huff_table.proofs.Lookup.{has_if_some, none_if_none}
use Rattle.huff_table.proofs.codes.Codes.word.Goals as goal

pub returns-then-word-eq0-clause-none : goal.returns-then-word-eq0-clause-none
returns-then-word-eq0-clause-none c =
    let found = get_or c.self.inside.words c.from.result no_word in
    let below : c.args.symbol < 256 = omega arith in
    let no = none_if_none c.self.inside.table c.args.symbol found c.self.invariant.table below (ap₂ (λ ws i. get_or ws i no_word) c.self.invariant.words c.from.ensures) c.if-word-eq0.true in
    subst (λ (t : TableFields). word_of t c.args.symbol ≡ None) c.self.view_is no.0

pub returns-then-word-eq0-clause-there : goal.returns-then-word-eq0-clause-there
returns-then-word-eq0-clause-there c =
    let found = get_or c.self.inside.words c.from.result no_word in
    let below : c.args.symbol < 256 = omega arith in
    let no = none_if_none c.self.inside.table c.args.symbol found c.self.invariant.table below (ap₂ (λ ws i. get_or ws i no_word) c.self.invariant.words c.from.ensures) c.if-word-eq0.true in
    (λ e. absurd (cc), λ has. absurd (no.1 (subst (λ (t : TableFields). Contains t.values c.args.symbol) (sym c.self.view_is) has)))

pub returns-clause-some : goal.returns-clause-some
returns-clause-some c =
    let found = get_or c.self.inside.words c.from.result no_word in
    let below : c.args.symbol < 256 = omega arith in
    let has = has_if_some c.self.inside.table c.args.symbol found c.self.invariant.table below (ap₂ (λ ws i. get_or ws i no_word) c.self.invariant.words c.from.ensures) c.if-word-eq0.false in
    subst (λ (t : TableFields). word_of t c.args.symbol ≡ Some (low_bits found.size found.code)) c.self.view_is has.word

pub returns-clause-below : goal.returns-clause-below
returns-clause-below c =
    let found = get_or c.self.inside.words c.from.result no_word in
    let below : c.args.symbol < 256 = omega arith in
    (has_if_some c.self.inside.table c.args.symbol found c.self.invariant.table below (ap₂ (λ ws i. get_or ws i no_word) c.self.invariant.words c.from.ensures) c.if-word-eq0.false).below

pub returns-clause-size : goal.returns-clause-size
returns-clause-size c =
    let found = get_or c.self.inside.words c.from.result no_word in
    let below : c.args.symbol < 256 = omega arith in
    let has = has_if_some c.self.inside.table c.args.symbol found c.self.invariant.table below (ap₂ (λ ws i. get_or ws i no_word) c.self.invariant.words c.from.ensures) c.if-word-eq0.false in
    (has.some, has.few)

pub returns-clause-there : goal.returns-clause-there
returns-clause-there c =
    let found = get_or c.self.inside.words c.from.result no_word in
    let below : c.args.symbol < 256 = omega arith in
    let has = has_if_some c.self.inside.table c.args.symbol found c.self.invariant.table below (ap₂ (λ ws i. get_or ws i no_word) c.self.invariant.words c.from.ensures) c.if-word-eq0.false in
    (λ _. subst (λ (t : TableFields). Contains t.values c.args.symbol) c.self.view_is has.there, λ _. refl)
