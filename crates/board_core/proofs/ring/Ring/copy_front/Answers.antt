use Rattle.std.proofs.Common.{◌+◌, ◌++◌, ◌∙◌, ap, take, drop}
use Rattle.board_core.proofs.CopiedBytes.{copied_twice}
use Rattle.board_core.proofs.ring.Ring.copy_front.Goals as goal

pub returns-clause-copied : goal.returns-clause-copied
returns-clause-copied c =
    let first = c.copy_at-split in
    let second = c.copy_at-more in
    let slices = c.as_slices.result in
    let n = first.result + second.result in
    let b = c.args.buf.now in
    copied_twice slices.0.now slices.1.now b first.new.buf second.new.buf first.result second.result
    first.ensures.count first.ensures.copied second.ensures.count second.ensures.copied
    ∙ ap (λ l. take n l ++ drop n b) (c.as_slices.ensures ∙ ap (λ r. r.items) c.self.view_is)
