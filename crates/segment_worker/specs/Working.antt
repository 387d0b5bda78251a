-- Steps: a worker at work (own).
use Rattle.std.specs.Prelude.{◌≡◌, true, false, None}
use Rattle.atomic_table.specs.Seated.{TableId}
use Rattle.box_format.specs.Containers.{all_plans}
use Rattle.segment_code.specs.FileDecoding.{FileDecoderSeen}
use Rattle.output_board.specs.declared.view.WorkerView.{WorkerView}
use Rattle.output_board.specs.Seats.{SeatValue}
use Rattle.segment_worker.specs.Contents.{Stretch}

-- a worker's seat on the board of a stretch, and its decoder, between two segments: it owns nothing, isn't over and
-- hasn't left, and its decoder began as many segments as the seat claimed
pub record IsIdle (table : TableId) (v : Stretch) (seat : SeatValue Stretch WorkerView)
    (decoder : FileDecoderSeen) : Type 0 where
  pub own : seat.table ≡ table
  pub content : seat.content ≡ v
  pub free : seat.view.segment ≡ None
  pub going : seat.view.over ≡ false
  pub here : seat.view.left ≡ false
  pub plans : decoder.plans ≡ all_plans v.container
  pub begun : decoder.begun ≡ seat.claims

-- it left
pub record HasLeft (table : TableId) (v : Stretch) (seat : SeatValue Stretch WorkerView)
    (decoder : FileDecoderSeen) : Type 0 where
  pub own : seat.table ≡ table
  pub content : seat.content ≡ v
  pub left : seat.view.left ≡ true
  pub plans : decoder.plans ≡ all_plans v.container
  pub begun : decoder.begun ≡ seat.claims
