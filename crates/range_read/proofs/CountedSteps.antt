-- The measure of a segment, by the steps of its decoder.
use Rattle.std.proofs.Common.{◌≡◌, ℕ, ◌+◌, ◌*◌, ◌^◌, ◌<◌, ◌≤◌, true, List, length, refl, sym, ap, subst, ◌∙◌, arith, length-append}
use Rattle.bit_list.specs.Pieces.{piece_room}
use Rattle.handover.specs.declared.outcome.Outcome.{Outcome}
use Rattle.handover.specs.declared.outcome.Outcome.TheVariants.{Good, Bad}
use Rattle.handover.specs.declared.outcome.StreamFault.{StreamFault}
use Rattle.handover.specs.declared.pads.PadSum.{PadSum}
use Rattle.container_spec.specs.Segments.{Output}
use Rattle.segment_code.specs.FileDecoding.{FileDecoderSeen, FileOwes, FilePays, steps_left}
use Rattle.segment_code.specs.declared.step.Step.TheVariants.{More, Done, Fault}
use Rattle.range_read.specs.Measures.{IsCounted, IsMeasure}

-- between two pieces of a segment: what was counted, and what is left
pub record Counting (from now : FileDecoderSeen) (counted : ℕ) : Type 0 where
  pub running : now.running ≡ true
  pub begun : now.begun ≡ from.begun
  pub plans : now.plans ≡ from.plans
  pub owed : (output : Output) × FileOwes now output.0 output.1
  pub still : (output : Output) → FileOwes from output.0 output.1
      → (rest : List ℕ) × FileOwes now rest output.1 × (counted + length rest ≡ length output.0)
  pub few : counted + piece_room * steps_left now ≤ piece_room * steps_left from

-- before the first piece
pub none_counted : (d : FileDecoderSeen) → d.running ≡ true
    → ((output : Output) × FileOwes d output.0 output.1) → Counting d d 0
none_counted d running owed = record {
  running = running;
  begun = refl;
  plans = refl;
  owed = owed;
  still = λ output owes.
      let none : 0 + length output.0 ≡ length output.0 = omega arith in (output.0, owes, none);
  few = omega arith;
}

module _ (from now new : FileDecoderSeen) (counted count : ℕ) (out : List ℕ)
    (u : Counting from now counted) (is : count ≡ length out) (room : length out ≤ piece_room) where
  -- a piece more
  pub more_counted : ((bytes : List ℕ) (outcome : Outcome) → FileOwes now bytes outcome
      → FilePays More bytes outcome out now new)
      → new.begun ≡ now.begun → new.plans ≡ now.plans
      → (steps_left new < steps_left now) × Counting from new (counted + count)
  more_counted pays begun plans =
      let paid = pays u.owed.0.0 u.owed.0.1 u.owed.1 in (
        paid.2,
        record {
          running = paid.4;
          begun = begun ∙ u.begun;
          plans = plans ∙ u.plans;
          owed = ((paid.0, u.owed.0.1), paid.5);
          still = λ output owes.
              let f = u.still output owes in
              let p = pays f.0 output.1 f.1 in
              let parts : length f.0 ≡ length out + length p.0 =
              ap length p.1 ∙ length-append out p.0 in
              let all = f.2 in (p.0, p.5, omega (arith, is, parts, all));
          few = let few = u.few in let less = paid.2 in omega (arith, few, less, is, room);
        },
      )

  -- the counted bytes are fewer than a file may have
  pub count_fits : steps_left from < 2 ^ 33 → counted + count < 2 ^ 64
  count_fits short =
      let few = u.few in let some = u.owed.1.some in omega (arith, few, some, short, is, room)

  -- the last piece
  pub all_counted : (pads : PadSum) → steps_left from < 2 ^ 33
      → ((bytes : List ℕ) (outcome : Outcome) → FileOwes now bytes outcome
      → FilePays (Done pads) bytes outcome out now new)
      → (output : Output) → FileOwes from output.0 output.1
      → IsMeasure output (record { length = counted + count; outcome = Good pads })
  all_counted pads short pays output owes =
      let f = u.still output owes in
      let p = pays f.0 output.1 f.1 in
      let few = u.few in
      let some = f.1.some in
      let rest = ap length p.0 in
      let all = f.2 in
      let right : IsCounted (Good pads) output.0 (counted + count) =
      (omega (arith, all, rest, is), omega (arith, few, some, short, is, room)) in
      record {
        outcome = sym p.1;
        count = subst (λ (x : Outcome). IsCounted x output.0 (counted + count)) (sym p.1) right;
      }

  -- or the fault
  pub fault_counted : (fault : StreamFault)
      → ((bytes : List ℕ) (outcome : Outcome) → FileOwes now bytes outcome
      → FilePays (Fault fault) bytes outcome out now new)
      → (output : Output) → FileOwes from output.0 output.1
      → IsMeasure output (record { length = counted + count; outcome = Bad fault })
  fault_counted fault pays output owes =
      let f = u.still output owes in
      let p = pays f.0 output.1 f.1 in
      record {
        outcome = sym p.1;
        count = subst (λ (x : Outcome). IsCounted x output.0 (counted + count)) (sym p.1) tt;
      }
