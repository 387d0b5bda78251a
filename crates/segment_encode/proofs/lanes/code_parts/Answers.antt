use Rattle.std.proofs.Common.{rules, ◌≡◌, ◌<◌, length, refl, sym, ap, subst, ◌∙◌, arith}
use Rattle.std.specs.Prelude.{Err, slice_set, vec_len}
use Rattle.std.proofs.lemmas.Result.{err_from_is_err_and}
use Rattle.segment_code.specs.ReadyParts.{EncoderSeen, IsEncoderFor, ReadyFields}
use Rattle.segment_code.specs.ScanPasses.{IsNoPart, IsPartStream}
use Rattle.segment_code.specs.declared.error.ScanError.{ScanError}
use Rattle.segment_code.specs.declared.error.ScanError.TheVariants.{Scan}
use Rattle.segment_encode.proofs.CodedParts.{can_next, made_next, none_made, none_refused, same_next, same_rest}
use Rattle.segment_encode.proofs.lanes.code_parts.Goals as goal

pub loop-segment-init : goal.loop-segment-init
loop-segment-init c =
    let none = ap length c.requires.none in
    let len : vec_len c.args.streams.now ≡ 0 = search rules in
    record {
      made = none_made (λ v. v.items) c.args.parts.now.items c.args.streams.now.items c.requires.none;
      rest = refl;
      long = refl;
      encoder = refl;
      len = len;
      room = omega arith;
    }

pub encode-requires-clause-ready : goal.encode-requires-clause-ready
encode-requires-clause-ready c =
    let before = c.loop-segment.invariant in
    let below : c.loop-segment.segment < length c.args.parts.now.items = search rules in
    (can_next c.args.encoder.now c.loop-segment.parts.items c.args.parts.now.items
    c.loop-segment.segment _ c.index_mut.result.now before.rest below c.index_mut.ensures.value
    c.requires.ready).ready

pub encode-requires-clause-encoder : goal.encode-requires-clause-encoder
encode-requires-clause-encoder c =
    let before = c.loop-segment.invariant in
    let below : c.loop-segment.segment < length c.args.parts.now.items = search rules in
    subst (λ (e : EncoderSeen). IsEncoderFor c.index_mut.result.now.part.plan e) (sym before.encoder)
    (can_next c.args.encoder.now c.loop-segment.parts.items c.args.parts.now.items
    c.loop-segment.segment _ c.index_mut.result.now before.rest below c.index_mut.ensures.value
    c.requires.ready).encoder

pub loop-segment-preserved : goal.loop-segment-preserved
loop-segment-preserved c =
    let before = c.loop-segment.invariant in
    let parts = c.loop-segment.parts.items in
    let all = c.args.parts.now.items in
    let segment = c.loop-segment.segment in
    let below : segment < length all = search rules in
    let is = c.index_mut.ensures.value ∙ same_next parts all segment _ before.rest in
    let stream : IsPartStream c.index_mut.result.now.part c.in_ok-stream.stream.items =
    c.in_ok-stream.ensures.stream in
    let len = c.in_ok-keep.ensures.len in
    let was = before.len in
    let capacity = c.in_ok-keep.ensures.capacity in
    let room = before.room in
    record {
      made = made_next (λ v. v.items) all segment c.loop-segment.streams.items c.keep.new.list.items
          c.in_ok-stream.stream _ below before.made
          (subst (λ (r : ReadyFields). IsPartStream r.part c.in_ok-stream.stream.items) is stream)
          c.in_ok-keep.ensures.items;
      rest = same_rest parts all (slice_set parts segment c.encode.new.self) segment c.encode.new.self
          before.rest refl;
      long = let long = before.long in search rules;
      encoder = c.in_ok-stream.ensures.encoder ∙ before.encoder;
      len = omega (arith, len, was);
      room = omega (arith, capacity, room);
    }

pub returns-in_err-stream-clause-refused : goal.returns-in_err-stream-clause-refused
returns-in_err-stream-clause-refused c =
    let before = c.loop-segment.invariant in
    let parts = c.loop-segment.parts.items in
    let all = c.args.parts.now.items in
    let segment = c.loop-segment.segment in
    let below : segment < length all = search rules in
    let is = c.index_mut.ensures.value ∙ same_next parts all segment _ before.rest in
    let p = err_from_is_err_and c.from_residual.result c.from_residual.ensures.1 in
    rw (p.1, p.2) (λ refusal same files.
    let error : c.in_err-stream.field-0.0 ≡ Scan refusal = cc in
    none_refused all segment _ below
    (subst (λ (r : ReadyFields). IsNoPart r.part) is
    (c.in_err-stream.ensures.refused refusal (ap (λ (e : ScanError). Err e) error))) files)
