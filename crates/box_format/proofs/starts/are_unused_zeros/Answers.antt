use Rattle.std.proofs.Common.{rules, ◌≡◌, ◌<◌, ℤ, List, [], drop, length, sym, ap, ◌∙◌, arith}
use Rattle.std.specs.List.{list_all}
use Rattle.std.proofs.lemmas.List.{drop_all}
use Rattle.huff_table.proofs.FrameComponents.{low_index}
use Rattle.box_format.proofs.Coded.{zeroed, is_zero, unused_is}
use Rattle.box_format.proofs.starts.are_unused_zeros.Goals as goal

pub array_set_of-unused : goal.array_set_of-unused
array_set_of-unused c =
    let is = c.components-components.ensures in
    let low : c.index.result < 4 = rw (c.index.ensures, c.component-item.is)
    (low_index c.components-components.result.now c.args.plan.now.components c.loop-component.component-index c.component-item.result is.value is.kept.indexes c.loop-component-test.true) in
    omega (arith, low, c.from.ensures)

pub returns : goal.returns
returns c =
    let components = c.components-components.result.now in
    let four : length c.args.handover.now.preds ≡ 4 =
    let e = c.preds-unused.ensures.value in let t = c.preds-unused.type_inv in search rules in
    let none : drop c.loop-component.component-index components ≡ [] =
    drop_all c.loop-component.component-index components c.loop-component-test.false in
    let all : c.loop-component.unused ≡ zeroed c.args.handover.now.preds c.args.plan.now.components =
    ap (zeroed c.loop-component.unused) (sym none) ∙ c.loop-component.invariant.rest
    ∙ ap (λ (l : List ℤ). zeroed l components) c.preds-unused.ensures.value
    ∙ ap (zeroed c.args.handover.now.preds) c.components-components.ensures.value in
    c.are_zeros.ensures ∙ ap (list_all is_zero) all
    ∙ unused_is c.args.plan.now c.args.handover.now c.components-components.ensures.kept four
