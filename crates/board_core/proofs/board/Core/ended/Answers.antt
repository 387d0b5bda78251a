use Rattle.std.proofs.Common.{ap, sym, ◌∙◌, false, true, ◌≡◌}
use Rattle.std.specs.Prelude.{slice_get}
use Rattle.board_core.specs.BoardStates.{BoardState}
use Rattle.board_core.proofs.board.Core.ended.Goals as goal

pub returns-then-not-all_left : goal.returns-then-not-all_left
returns-then-not-all_left c =
    let same = c.deref.ensures.value ∙ ap (λ (b : BoardState). b.left) c.self.view_is in (
      λ e. let f : false ≡ true = e in
          absurd (cc),
      λ h. c.if-not-all_left.ensures.1
          (λ w own. h.0 w (ap (λ l. slice_get l w) (sym same) ∙ own)),
    )
