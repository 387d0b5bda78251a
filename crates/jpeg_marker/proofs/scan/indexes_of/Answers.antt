use Rattle.std.proofs.Common.{length, take}
use Rattle.jpeg_marker.proofs.Choices.{named_rising, rising_is, rising_test, rising_more}
use Rattle.jpeg_marker.proofs.Chosen.{named_all, named_none}
use Rattle.jpeg_marker.proofs.scan.indexes_of.Goals as goal

pub returns-then-found-selectors-2-clause-value : goal.returns-then-found-selectors-2-clause-value
returns-then-found-selectors-2-clause-value c =
    let i = c.loop-index in
    named_none c.args.parts.now c.args.selectors.now i.indexes i.found i.index c.loop-index-test.false c.if-found-selectors-2.true i.invariant.value

pub returns-clause-rising : goal.returns-clause-rising
returns-clause-rising c =
    let i = c.loop-index in
    let all = named_all c.args.parts.now c.args.selectors.now i.indexes i.found i.index c.loop-index-test.false c.if-found-selectors-2.false i.invariant.few i.invariant.value in
    named_rising c.args.parts.now c.args.selectors.now (take (length c.args.selectors.now) i.indexes) all

pub returns-clause-low : goal.returns-clause-low
returns-clause-low c =
    let i = c.loop-index in
    let all = named_all c.args.parts.now c.args.selectors.now i.indexes i.found i.index c.loop-index-test.false c.if-found-selectors-2.false i.invariant.few i.invariant.value in
    let is = take (length c.args.selectors.now) i.indexes in
    rising_test 0 4 is (rising_more 0 (length c.args.parts.now) 4 is c.requires.few (rising_is 0 (length c.args.parts.now) is (named_rising c.args.parts.now c.args.selectors.now is all)))
