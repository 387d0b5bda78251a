use Rattle.std.proofs.Common.{refl, true, sym, subst, length-set}
use Rattle.std.proofs.lemmas.List.{length-map}
use Rattle.board_core.specs.BoardSteps.{without_owner}
use Rattle.board_core.specs.BoardFrames.{IsAfterLeave}
use Rattle.board_core.proofs.SegmentsAt.{at_left, get_else, get_set_some}
use Rattle.board_core.proofs.laws.leave_frame.Goals as goal

pub returns : goal.returns
returns c = λ w old new step. subst (IsAfterLeave w old) (sym step.1) record {
  segments = λ i. at_left old w i;
  gone = get_set_some old.left w true step.0.present;
  others = λ v ne. get_else old.left w v true ne;
  workers = length-set old.left w true;
  size = length-map old.segments (without_owner w);
  next = refl;
  cur = refl;
  stopped = refl;
  capacity = refl;
}
