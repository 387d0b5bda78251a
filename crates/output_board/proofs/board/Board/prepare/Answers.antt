use Rattle.std.proofs.Common.{◌∙◌, sym, ap, subst, refl, [], ◌∷◌, length, ◌<◌, ℕ}
use Rattle.board_core.specs.BoardStates.{BoardState}
use Rattle.board_core.specs.BoardSteps.{count_limit}
use Rattle.board_core.specs.BoardInvariants.{bytes_at}
use Rattle.output_board.specs.declared.view.View.{View}
use Rattle.output_board.specs.declared.view.Role.TheVariants.{Emits}
use Rattle.output_board.specs.SeatRule.{Fits}
use Rattle.output_board.specs.Seats.{new_emitter}
use Rattle.output_board.proofs.OpeningFits.{opening_fits}
use Rattle.output_board.proofs.board.Board.prepare.Goals as goal

pub new-requires-2-clause-fits : goal.new-requires-2-clause-fits
new-requires-2-clause-fits g c κs within =
    let content = c.of.ensures in
    let v : View g.row.C.Denot =
    record { content = c.of.result; claims = 0; role = Emits (new_emitter 0 c.from.result c.args.capacity) } in
    subst (λ (b : BoardState). Fits g.C.Content.bytes g.C.Content.outcomes b (v ∷ []))
    (sym c.in_ok-core.ensures)
    (subst (λ w. Fits g.C.Content.bytes g.C.Content.outcomes
    (Rattle.board_core.specs.BoardStates.opening_board c.args.k c.args.capacity w) (v ∷ [])) c.from.ensures
    (opening_fits g.C.Content.bytes g.C.Content.outcomes c.args.k c.args.capacity c.from.result v refl refl
    (ap (λ (x : g.row.C.Denot). length (g.C.Content.bytes x)) content ∙ c.requires.bytes)
    (ap (λ (x : g.row.C.Denot). length (g.C.Content.outcomes x)) content ∙ c.requires.outcomes)
    (subst (λ (x : g.row.C.Denot). (i : ℕ) → length (bytes_at (g.C.Content.bytes x) i) < count_limit)
    (sym content) c.requires.short) c.requires.room))
