use Rattle.std.proofs.Common.{◌≡◌, ◌+◌, ◌-◌, ◌*◌, ◌≤◌, ◌++◌, ◌==◌, ℕ, List, length, Err, sym, ap, ap₂, ◌∙◌, arith}
use Rattle.std.proofs.Math.Nat.{mul-le-mul_right}
use Rattle.std.proofs.lemmas.List.{take-append-drop, length-take-le, length-drop}
use Rattle.std.proofs.lemmas.Result.{err_from_is_err_and}
use Rattle.scan_spec.specs.Scans.{interval_bytes, intervals_after, intervals_bytes, prefixed_bytes, scan_bytes}
use Rattle.scan_spec.specs.PlainScans.{shape_with, mcus_in, marker_between}
use Rattle.scan_spec.specs.declared.plain.PlainError.TheVariants.{Stop}
use Rattle.scan_spec.proofs.PlainTurns.{IsNext, left_after, next_turn, turn, turn_stops, turns_start, turns_end}
use Rattle.scan_spec.proofs.plain_bytes.plain_scan.Goals as goal

pub intervals-init : goal.intervals-init
intervals-init c =
    let slots = c.args.slots.now in
    let all = intervals_bytes slots (λ n. c.args.pad) 0 (intervals_after c.args.interval 0 (mcus_in (length slots) (c.args.mcus - 0) c.args.blocks.now)) in
    let none : c.args.mcus ≡ c.args.mcus - 0 = omega arith in
    record {
      goes = turns_start slots c.args.pad c.args.interval c.args.mcus c.args.blocks.now ∙ ap (λ (out : List ℕ). prefixed_bytes out all) (sym c.new-bytes.ensures.items);
      long = c.requires.long ∙ ap (λ (n : ℕ). n * length slots) none;
      within = omega arith;
      few = omega arith;
      turn = λ some. omega arith;
    }

pub returns-in_err-bits-clause-stop : goal.returns-in_err-bits-clause-stop
returns-in_err-bits-clause-stop c =
    let l = c.intervals in
    let slots = c.args.slots.now in
    let count = c.next_count-count.result in
    let known = c.next_count-count.ensures in
    let rest = l.rest.now in
    let these = c.split_at.result.0.now in
    let later = c.split_at.result.1.now in
    let whole = scan_bytes (shape_with slots c.args.mcus c.args.interval) (λ n. c.args.pad) (mcus_in (length slots) c.args.mcus c.args.blocks.now) in
    let next : IsNext c.args.interval l.number l.done count c.args.mcus =
    record { turn = l.invariant.turn c.intervals-test.true; some = known.some; within = known.within; all = known.all; most = known.most; last = known.last } in
    let split : rest ≡ these ++ later = sym (ap₂ ◌++◌ c.split_at.ensures.front c.split_at.ensures.back ∙ take-append-drop (count * length slots) rest) in
    let room : count * length slots ≤ (c.args.mcus - l.done) * length slots = mul-le-mul_right (length slots) (omega (arith, known.within)) in
    let long : length these ≡ count * length slots = ap length c.split_at.ensures.front ∙ length-take-le (count * length slots) rest (omega (arith, room, l.invariant.long)) in
    let p = err_from_is_err_and c.from_residual.result c.from_residual.ensures.1 in
    λ stop is.
    let same : c.in_err-bits.field-0.0 ≡ Stop stop = cc in
    turn_stops slots c.args.pad c.args.interval l.number l.done count c.args.mcus rest these later stop l.bytes.items whole next split long l.invariant.goes (c.in_err-bits.ensures.stop stop (ap (λ error. Err error) same))

pub intervals-preserved : goal.intervals-preserved
intervals-preserved c =
    let l = c.intervals in
    let slots = c.args.slots.now in
    let pad = c.args.pad in
    let mcus = c.args.mcus in
    let count = c.next_count-count.result in
    let known = c.next_count-count.ensures in
    let rest = l.rest.now in
    let these = c.split_at.result.0.now in
    let later = c.split_at.result.1.now in
    let bits = c.in_ok-bits.bits.items in
    let out = l.bytes.items in
    let end = l.done + count in
    let whole = scan_bytes (shape_with slots mcus c.args.interval) (λ n. pad) (mcus_in (length slots) mcus c.args.blocks.now) in
    let next : IsNext c.args.interval l.number l.done count mcus =
    record { turn = l.invariant.turn c.intervals-test.true; some = known.some; within = known.within; all = known.all; most = known.most; last = known.last } in
    let split : rest ≡ these ++ later = sym (ap₂ ◌++◌ c.split_at.ensures.front c.split_at.ensures.back ∙ take-append-drop (count * length slots) rest) in
    let room : count * length slots ≤ (mcus - l.done) * length slots = mul-le-mul_right (length slots) (omega (arith, known.within)) in
    let long : length these ≡ count * length slots = ap length c.split_at.ensures.front ∙ length-take-le (count * length slots) rest (omega (arith, room, l.invariant.long)) in
    let put : c.put_between.new.out.items ≡ (out ++ interval_bytes pad bits) ++ marker_between (end == mcus) l.number =
    c.in_ok-put_between.ensures ∙ ap (λ (o : List ℕ). o ++ marker_between (end == mcus) l.number) c.in_ok-put_interval.ensures in
    let more = intervals_bytes slots (λ n. pad) (l.number + 1) (left_after slots c.args.interval l.done count mcus later) in
    let left : (mcus - l.done) * length slots ≡ count * length slots + (mcus - end) * length slots =
    ap (λ (n : ℕ). n * length slots) (let e : mcus - l.done ≡ count + (mcus - end) = omega (arith, known.within) in e) ∙ omega arith in
    record {
      goes =
          turn slots pad c.args.interval l.number l.done count mcus rest these later bits out whole next split long l.invariant.goes c.in_ok-bits.ensures.bits
          ∙ ap (λ (o : List ℕ). prefixed_bytes o more) (sym put);
      long = ap length c.split_at.ensures.back ∙ length-drop (count * length slots) rest ∙ omega (arith, left, l.invariant.long);
      within = known.within;
      few = omega (arith, known.some, l.invariant.few);
      turn = λ some. next_turn c.args.interval l.number l.done count mcus next some;
    }

pub returns-clause-bytes : goal.returns-clause-bytes
returns-clause-bytes c =
    let l = c.intervals in
    let slots = c.args.slots.now in
    let whole = scan_bytes (shape_with slots c.args.mcus c.args.interval) (λ n. c.args.pad) (mcus_in (length slots) c.args.mcus c.args.blocks.now) in
    turns_end slots c.args.pad c.args.interval l.number l.done c.args.mcus l.rest.now l.bytes.items whole (omega arith) l.invariant.goes
