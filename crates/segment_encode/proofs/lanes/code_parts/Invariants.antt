use Rattle.std.proofs.Common.{◌≡◌, ◌≤◌, length, map, take, drop}
use Rattle.std.specs.Prelude.{vec_capacity, vec_len}
use Rattle.segment_encode.specs.Lanes.{AreMade}
use Rattle.segment_encode.proofs.lanes.code_parts.Given as goal

abbrev pub invariant-loop-segment : goal.invariant-loop-segment
invariant-loop-segment l = record {
  made : AreMade (take l.segment l.initial.parts.items) (map (λ v. v.items) l.streams.items);
  rest : drop l.segment l.parts.items ≡ drop l.segment l.initial.parts.items;
  long : length l.parts.items ≡ length l.initial.parts.items;
  encoder : l.encoder ≡ l.initial.encoder;
  len : vec_len l.streams ≡ l.segment;
  room : vec_capacity l.initial.streams ≤ vec_capacity l.streams;
}
