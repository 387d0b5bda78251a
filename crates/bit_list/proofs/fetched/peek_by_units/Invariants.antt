use Rattle.std.proofs.Common.{◌≡◌, ◌-◌, ◌^◌, ◌<◌, ◌≤◌, ◌++◌}
use Rattle.bit_list.specs.Bits.{low_bits}
use Rattle.bit_list.specs.BitsInside.{cursor_of, IsWindow}
use Rattle.bit_list.specs.Peeked.{peeked}
use Rattle.bit_list.proofs.fetched.peek_by_units.Given as goal

abbrev pub invariant-loop-wanted : goal.invariant-loop-wanted
invariant-loop-wanted l = record {
  few : l.wanted ≤ 9;
  window : IsWindow l.at;
  below : l.number < 2 ^ (9 - l.wanted);
  bits : low_bits (9 - l.wanted) l.number ++ peeked l.wanted l.bytes (cursor_of l.at) ≡ peeked 9 l.bytes (cursor_of l.initial.at);
}

abbrev pub decreases-loop-wanted : goal.decreases-loop-wanted
decreases-loop-wanted l = l.wanted
