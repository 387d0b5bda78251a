-- What always holds of the board, segment by segment.
use Rattle.std.proofs.Common.{◌≡◌, ℕ, ◌<◌, ◌≤◌, Bool, false, List, [], length, Some, None}
use Rattle.std.specs.Prelude.{slice_get, slice_range}
use Rattle.board_core.specs.declared.actor.Actor.{Actor}
use Rattle.board_core.specs.declared.actor.Actor.TheVariants.{Worker, Emitter}
use Rattle.handover.specs.declared.outcome.Outcome.{Outcome}
use Rattle.board_core.specs.BoardStates.{SegmentState, BoardState, segment_at, Owns, IsPresent, IsGood}
use Rattle.board_core.specs.BoardInvariants.{bytes_at, BoardInvariant}

-- what always holds of the segment at an index, over the parts of the board that it depends on
pub record IsSegment (ss : List (List ℕ)) (os : List Outcome) (capacity next cur : ℕ)
    (stopped : Bool) (left : List Bool) (i : ℕ) (s : SegmentState) : Type 0 where
  pub fresh : next ≤ i → (s.owner ≡ None) × (s.put ≡ 0) × (s.ring ≡ []) × (s.done ≡ None)
  pub order : s.taken ≤ s.put
  pub within : s.put ≤ length (bytes_at ss i)
  pub ring : s.ring ≡ slice_range (bytes_at ss i) s.taken s.put
  pub room : length s.ring ≤ capacity
  pub below : i < cur → IsGood s.done × (s.taken ≡ length (bytes_at ss i))
  pub above : cur < i → s.taken ≡ 0
  pub done : (o : Outcome) → s.done ≡ Some o → (s.done ≡ slice_get os i)
      × (s.put ≡ length (bytes_at ss i)) × (s.owner ≡ None)
  pub owned : stopped ≡ false → i < next → s.done ≡ None → (a : Actor) × (s.owner ≡ Some a)
  pub here : (w : ℕ) → s.owner ≡ Some (Worker w) → slice_get left w ≡ Some false
  pub emitter : s.owner ≡ Some Emitter → (i ≡ cur) × (s.taken ≡ s.put)

-- what always holds of the board
pub record IsBoard (ss : List (List ℕ)) (os : List Outcome) (b : BoardState) : Type 0 where
  pub bytes : length ss ≡ length b.segments
  pub outcomes : length os ≡ length b.segments
  pub claims : b.cur ≤ b.next
  pub within : b.next ≤ length b.segments
  pub each : (i : ℕ) → IsSegment ss os b.capacity b.next b.cur b.stopped b.left i (segment_at b i)
  pub single : (a : Actor) (i j : ℕ) → Owns b a i → Owns b a j → i ≡ j

pub is_board : (ss : List (List ℕ)) (os : List Outcome) (b : BoardState) → BoardInvariant ss os b
    → IsBoard ss os b
is_board ss os b h = record {
  bytes = h.bytes;
  outcomes = h.outcomes;
  claims = h.claims;
  within = h.within;
  each = λ i. let f = h.between i in record {
    fresh = λ late. let k = h.fresh i late in (k.owner, k.put, k.ring, k.done);
    order = f.order;
    within = f.within;
    ring = f.ring;
    room = f.room;
    below = λ l. let k = h.below i l in (k.good, k.all);
    above = h.above i;
    done = λ o e. let k = h.done i o e in (k.own, k.all, k.free);
    owned = λ go l none. h.owned go i l none;
    here = λ w own. h.present (Worker w) i own;
    emitter = h.emitter i;
  };
  single = h.single;
}

pub from_board : (ss : List (List ℕ)) (os : List Outcome) (b : BoardState) → IsBoard ss os b
    → BoardInvariant ss os b
from_board ss os b h = record {
  bytes = h.bytes;
  outcomes = h.outcomes;
  claims = h.claims;
  within = h.within;
  fresh = λ i late. let k = (h.each i).fresh late in
      record { owner = k.0; put = k.1; ring = k.2; done = k.3 };
  between = λ i. let f = h.each i in
      record { order = f.order; within = f.within; ring = f.ring; room = f.room };
  below = λ i l. let k = (h.each i).below l in record { good = k.0; all = k.1 };
  above = λ i. (h.each i).above;
  done = λ i o e. let k = (h.each i).done o e in record { own = k.0; all = k.1; free = k.2 };
  owned = λ go i l none. (h.each i).owned go l none;
  present = is_present;
  single = h.single;
  emitter = λ i. (h.each i).emitter;
} where
  is_present : (a : Actor) (i : ℕ) → Owns b a i → IsPresent b a
  is_present (Worker w) i own = (h.each i).here w own
  is_present Emitter i own = tt
