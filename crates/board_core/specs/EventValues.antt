-- View: the events of the program as those of the board, and what they answer (own).
use Rattle.board_core.specs.BoardStates.{BoardState}
use Rattle.board_core.specs.BoardSteps.{BoardEvent}
use Rattle.board_core.specs.BoardSteps as board
use Rattle.board_core.specs.declared.event.Event.{Event}
use Rattle.board_core.specs.declared.event.Event.TheVariants.{Claim, Put, Pass, Finish, Take, Advance, Stop, Leave}
use Rattle.board_core.specs.declared.event.Took.{Took}
use Rattle.board_core.specs.declared.event.Took.TheVariants.{Nothing, Segment, Gone}

-- an event of the program as an event of the board
abbrev pub board_event : Event → BoardEvent
board_event (Claim a) = board.Claim a
board_event (Put w bytes) = board.Put w bytes.now
board_event (Pass n) = board.Pass n
board_event (Finish a o) = board.Finish a o
board_event (Take n) = board.Take n
board_event Advance = board.Advance
board_event Stop = board.Stop
board_event (Leave w) = board.Leave w

-- what an event answers: Claim the segment claimed, Take how many bytes are gone
abbrev pub answer : BoardState → Event → Took
answer old (Claim a) = Segment old.next
answer old (Take n) = Gone n
answer old _ = Nothing
