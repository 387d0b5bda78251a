use Rattle.std.proofs.Common.{◌≡◌, ◌+◌, ◌-◌, ◌/◌, ◌^◌, ◌<◌, ◌≤◌, IfSome, IsTrue}
use Rattle.block_spec.specs.BitEvents.{bits_events}
use Rattle.block_code.proofs.bits.code_bits.Given as goal

abbrev pub invariant-loop-bit : goal.invariant-loop-bit
invariant-loop-bit g l = record {
  codes : g.C.Coder.codes l.initial.coder (bits_events (g.B.BitBins.at l.bins) l.bit (l.bits - l.bit) l.above) l.coder;
  low : 2 ^ (l.bits - l.bit) ≤ l.above;
  high : l.above < 2 ^ (l.bits - l.bit + 1);
  given : IsTrue g.C.Coder.given → IfSome l.number (λ n. l.above ≡ n / 2 ^ l.bit);
}
