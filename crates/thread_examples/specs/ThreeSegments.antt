-- Rows: the content of the tests, and what they know of a seat (own).
use Rattle.std.specs.Prelude.{◌≡◌, ℕ, Bool, true, false, List, [], ◌∷◌, Some, None}
use Rattle.atomic_table.specs.Seated.{TableId}
use Rattle.handover.specs.PadSums.{no_pads}
use Rattle.handover.specs.declared.pads.PadSum.{PadSum}
use Rattle.handover.specs.declared.outcome.Outcome.{Outcome}
use Rattle.handover.specs.declared.outcome.Outcome.TheVariants.{Good}
use Rattle.output_board.specs.declared.view.EmitterView.{EmitterView}
use Rattle.output_board.specs.declared.view.WorkerView.{WorkerView}
use Rattle.output_board.specs.Seats.{SeatValue}

-- the bytes of three segments
abbrev pub three_bytes : List (List ℕ)
three_bytes = (0x3f ∷ 0xff ∷ 0xd0 ∷ []) ∷ (1 ∷ 2 ∷ []) ∷ (0x3f ∷ []) ∷ []

-- bits of 1 were padded
abbrev pub ones : PadSum
ones = record no_pads { one = true }

-- their outcomes: any, and two good ones
abbrev pub three_outcomes : Outcome → List Outcome
three_outcomes first = first ∷ Good ones ∷ Good no_pads ∷ []

module _ {C : Type 0} where
  -- a worker that owns nothing
  pub record IsIdle (table : TableId) (content : C) (seat : SeatValue C WorkerView) : Type 0 where
    pub own : seat.table ≡ table
    pub content_is : seat.content ≡ content
    pub free : seat.view.segment ≡ None
    pub going : seat.view.over ≡ false
    pub here : seat.view.left ≡ false

  -- a worker that owns segment i and has put this number of its bytes
  pub record IsPutting (table : TableId) (content : C) (i put : ℕ) (seat : SeatValue C WorkerView)
      : Type 0 where
    pub own : seat.table ≡ table
    pub content_is : seat.content ≡ content
    pub segment : seat.view.segment ≡ Some i
    pub put_is : seat.view.put ≡ put
    pub going : seat.view.over ≡ false
    pub here : seat.view.left ≡ false

  -- the emitter, which emits segment cur, has taken this number of its bytes, and owns it or not
  pub record IsEmitting (table : TableId) (content : C) (cur taken : ℕ) (owns : Bool)
      (seat : SeatValue C EmitterView) : Type 0 where
    pub own : seat.table ≡ table
    pub content_is : seat.content ≡ content
    pub cur_is : seat.view.cur ≡ cur
    pub taken_is : seat.view.taken ≡ taken
    pub owns_is : seat.view.owns ≡ owns
    pub going : seat.view.stopped ≡ false
