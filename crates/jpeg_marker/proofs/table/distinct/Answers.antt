use Rattle.std.proofs.Common.{arith, refl, ap, sym, ◌∙◌, take, ◌≡◌, ◌<◌}
use Rattle.std.proofs.lemmas.List.{take_all, length-set}
use Rattle.std.proofs.lemmas.Bool.{false≢true}
use Rattle.jpeg_marker.specs.HuffmanTables.{distinct}
use Rattle.jpeg_marker.proofs.Repeats.{marked_more, once_more, found_again, few_distinct, get_or-falses}
use Rattle.jpeg_marker.proofs.table.distinct.Goals as goal

pub loop-value-init : goal.loop-value-init
loop-value-init c = record { size = refl; marked = λ v h. get_or-falses 256 v; once = refl }

pub loop-value-preserved : goal.loop-value-preserved
loop-value-preserved c =
    let i = c.loop-value.invariant in
    let byte : c.from-value.result < 256 = omega (arith, c.type_inv.values c.loop-value.value-index) in
    record {
      size = simp length-set i.size;
      marked = marked_more c.args.values.now c.loop-value.seen c.loop-value.value-index c.from-value.result i.size c.loop-value-test.true c.from-value.ensures byte i.marked;
      once = once_more c.args.values.now c.loop-value.seen c.loop-value.value-index c.from-value.result c.loop-value-test.true c.from-value.ensures byte i.marked c.if-seen-value.false i.once;
    }

pub returns-then-seen-value : goal.returns-then-seen-value
returns-then-seen-value c =
    let byte : c.from-value.result < 256 = omega (arith, c.type_inv.values c.loop-value.value-index) in
    record {
      value = sym (found_again c.args.values.now c.loop-value.seen c.loop-value.value-index c.from-value.result c.loop-value-test.true c.from-value.ensures byte c.loop-value.invariant.marked c.if-seen-value.true);
      few = λ h. absurd (false≢true h);
    }

pub returns : goal.returns
returns c =
    let all : take c.loop-value.value-index c.args.values.now ≡ c.args.values.now = take_all _ _ c.loop-value-test.false in
    let once = ap distinct (sym all) ∙ c.loop-value.invariant.once in
    record { value = sym once; few = λ h. few_distinct c.args.values.now (λ i. omega (arith, c.type_inv.values i)) once }
