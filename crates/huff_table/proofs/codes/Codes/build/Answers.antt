use Rattle.std.proofs.Common.{◌≡◌, ℕ, ◌+◌, List, [], length, drop, replicate, sum, refl, sym, ap, ap₂, ◌∙◌, subst, arith}
use Rattle.huff_table.specs.CodesInside.{no_word, placed}
use Rattle.huff_table.specs.Levels.{levels}
use Rattle.huff_table.proofs.Fits.{room_of_table}
use Rattle.huff_table.proofs.Built.{Builds, these_fit, builds_more, all_built, built}
use Rattle.huff_table.proofs.Decoded.{Turn, whole_left, all_dropped}
use Rattle.huff_table.proofs.codes.Codes.build.Goals as goal

pub loop-i-init : goal.loop-i-init
loop-i-init c =
    let is = c.counts-counts.ensures.kept in
    record {
      size = refl;
      whole = ap length c.values-values.ensures.value ∙ is.whole ∙ ap sum (sym c.counts-counts.ensures.value);
      builds = rw (c.counts-counts.ensures.value, c.values-values.ensures.value) (record { room = room_of_table c.args.table.now is; rest = refl });
    }

pub place_level-requires : goal.place_level-requires
place_level-requires c =
    let l = c.loop-i in
    let counts = c.counts-counts.result.now in
    let size : length counts ≡ 16 = ap length c.counts-counts.ensures.value ∙ c.counts-counts.ensures.kept.lengths in
    let turn : Turn l.i c.from.result counts l.values.now c.split_at.result.0.now c.split_at.result.1.now =
    record { within = omega (arith, size, c.loop-i-test.true); is_count = c.from.ensures; prefix = c.split_at.ensures.front; back = c.split_at.ensures.back } in
    these_fit turn l.invariant.builds

pub loop-i-preserved : goal.loop-i-preserved
loop-i-preserved c =
    let l = c.loop-i in
    let counts = c.counts-counts.result.now in
    let size : length counts ≡ 16 = ap length c.counts-counts.ensures.value ∙ c.counts-counts.ensures.kept.lengths in
    let turn : Turn l.i c.from.result counts l.values.now c.split_at.result.0.now c.split_at.result.1.now =
    record { within = omega (arith, size, c.loop-i-test.true); is_count = c.from.ensures; prefix = c.split_at.ensures.front; back = c.split_at.ensures.back } in
    let count : c.from.result ≡ c.from-in-loop-i.result = c.from.ensures ∙ sym c.from-in-loop-i.ensures in
    record {
      size = c.place_level.array_long;
      whole = whole_left l.i c.from.result counts l.values.now c.split_at.result.0.now c.split_at.result.1.now turn l.invariant.whole;
      builds = rw (c.place_level.ensures, ← count) (builds_more (l.i + 1) refl turn l.invariant.builds);
    }

pub invariant_of-result : goal.invariant_of-result
invariant_of-result c =
    let l = c.loop-i in
    let is = c.counts-counts.ensures.kept in
    let size : length c.counts-counts.result.now ≡ 16 = ap length c.counts-counts.ensures.value ∙ is.lengths in
    let none : drop l.i c.counts-counts.result.now ≡ [] = all_dropped c.counts-counts.result.now l.i (omega (arith, size, c.loop-i-test.false)) in
    let words = all_built (subst (λ (n : List ℕ). Builds l.words (replicate 256 no_word) (l.i + 1) l.first n l.values.now (levels 1 0 c.counts-counts.result.now c.values-values.result.now)) none l.invariant.builds) in
    record {
      table = is;
      words = words ∙ ap₂ (λ a b. placed (replicate 256 no_word) (levels 1 0 a b)) c.counts-counts.ensures.value c.values-values.ensures.value ∙ built c.args.table.now is;
      bytes = c.values-values.ensures.bytes;
      short = c.short_words.ensures;
      word_ends = c.word_ends.ensures;
      value_ends = c.value_ends.ensures;
    }
