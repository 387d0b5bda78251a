use Rattle.std.proofs.Common.{◌≡◌, ◌-◌, ◌^◌, ◌<◌, ◌≤◌, Ok}
use Rattle.bit_list.specs.Bits.{low_bits}
use Rattle.bit_list.specs.Units.{bits_at}
use Rattle.bit_list.specs.BitsInside.{cursor_of, IsWindow}
use Rattle.bit_list.proofs.window.first_bits.Given as goal

abbrev pub invariant-loop-wanted : goal.invariant-loop-wanted
invariant-loop-wanted l = record {
  few : l.wanted ≤ l.n;
  window : IsWindow l.at;
  short : l.at.count ≤ 7;
  below : l.number < 2 ^ (l.n - l.wanted);
  bits : bits_at (l.n - l.wanted) l.bytes (cursor_of l.initial.at) ≡ Ok (low_bits (l.n - l.wanted) l.number, cursor_of l.at);
}

abbrev pub decreases-loop-wanted : goal.decreases-loop-wanted
decreases-loop-wanted l = l.wanted
