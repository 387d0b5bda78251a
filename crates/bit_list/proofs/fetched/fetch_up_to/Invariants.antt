use Rattle.std.proofs.Common.{◌≡◌, ◌-◌}
use Rattle.bit_list.specs.BitsInside.{cursor_of_fetched, IsFetched}
use Rattle.bit_list.proofs.fetched.fetch_up_to.Given as goal

abbrev pub invariant-loop-at : goal.invariant-loop-at
invariant-loop-at l = record {
  cursor : cursor_of_fetched l.at ≡ cursor_of_fetched l.initial.at;
  kept : IsFetched l.bytes l.at;
  fresh : l.at.skip ≡ 0;
  last : l.at.last ≡ l.initial.at.last;
  first : l.at.first ≡ l.initial.at.first;
}

abbrev pub decreases-loop-at : goal.decreases-loop-at
decreases-loop-at l = 56 - l.at.count
