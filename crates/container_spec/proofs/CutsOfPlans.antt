-- The cuts of a plan's MCUs into segments, and of a chunk's rows.
use Rattle.std.proofs.Common.{◌≡◌, ℕ, zero, suc, ◌+◌, ◌-◌, ◌*◌, ◌/◌, ◌<◌, ◌≤◌, refl, ap, subst, arith, None}
use Rattle.jpeg_marker.specs.Plans.{PlanFields}
use Rattle.cut_spec.specs.Cuts.{Cut, first_mcu}
use Rattle.cut_spec.proofs.SpotsBegun.{rows, each_has_rows}
use Rattle.box_format.specs.Parts.{box_cut}

-- where the segments of a plan start: MCUs that rise from 0 to all of them
pub record AreCuts (d : ℕ → ℕ) (segments all : ℕ) : Type 0 where
  pub some : 0 < segments
  pub none : d 0 ≡ 0
  pub whole : d segments ≡ all
  pub order : (i : ℕ) → i < segments → d i ≤ d (i + 1)

-- the MCU that segment i of some segments starts at
abbrev pub starts_at : PlanFields → ℕ → ℕ → ℕ
starts_at plan segments i = first_mcu (box_cut plan None segments) i

pub plan_cuts : (plan : PlanFields) (segments : ℕ) → 0 < segments
    → AreCuts (starts_at plan segments) segments (plan.across * plan.down)
plan_cuts plan segments some =
    let r = rows (box_cut plan None segments) refl some in
    record { some = some; none = r.0; whole = r.1; order = r.2 }

rises : (d : ℕ → ℕ) (segments i count : ℕ) → ((j : ℕ) → j < segments → d j ≤ d (j + 1))
    → i + count ≤ segments → d i ≤ d (i + count)
rises d segments i zero order within =
    let e : i ≡ i + 0 = omega arith in
    subst (λ n. d i ≤ d n) e (let r : d i ≤ d i = omega arith in r)
rises d segments i (suc count) order within =
    let one = order i (omega (arith, within)) in
    let rest = rises d segments (i + 1) count order (omega (arith, within)) in
    let e : (i + 1) + count ≡ i + suc count = omega arith in
    let more : d (i + 1) ≤ d (i + suc count) = subst (λ n. d (i + 1) ≤ d n) e rest in
    omega (arith, one, more)

-- no cut stands before an earlier one
pub cuts_rise : (d : ℕ → ℕ) (segments all i j : ℕ) → AreCuts d segments all → i ≤ j
    → j ≤ segments → d i ≤ d j
cuts_rise d segments all i j are order within =
    let e : i + (j - i) ≡ j = omega (arith, order) in
    subst (λ n. d i ≤ d n) e (rises d segments i (j - i) are.order (omega (arith, e, within)))

pub cut_within : (d : ℕ → ℕ) (segments all j : ℕ) → AreCuts d segments all → j ≤ segments
    → d j ≤ all
cut_within d segments all j are within =
    subst (λ n. d j ≤ n) are.whole
    (cuts_rise d segments all j segments are within
    (let r : segments ≤ segments = omega arith in r))

-- ---- rows from one on

-- as many rows, from row 0 on
abbrev lowered : Cut → Cut
lowered cut = record cut { from = 0; to = cut.to - cut.from }

lowered_is : (cut : Cut) (i : ℕ)
    → first_mcu cut i ≡ cut.across * cut.from + first_mcu (lowered cut) i
lowered_is cut i =
    let same : cut.to - cut.from - 0 ≡ cut.to - cut.from = omega arith in
    let there = ap (λ (height : ℕ). cut.across * (0 + i * height / cut.segments)) same in
    let parts : cut.across * (cut.from + i * (cut.to - cut.from) / cut.segments)
    ≡ cut.across * cut.from + cut.across * (0 + i * (cut.to - cut.from) / cut.segments) =
    omega arith in
    omega (arith, there, parts)

-- a segment starts within the rows
pub mcus_within : (cut : Cut) (i : ℕ) → cut.from ≤ cut.to → 0 < cut.segments → i ≤ cut.segments
    → first_mcu cut i ≤ cut.across * cut.to
mcus_within cut i order some within =
    let r = rows (lowered cut) refl some in
    let are : AreCuts (first_mcu (lowered cut)) cut.segments (cut.across * (cut.to - cut.from)) =
    record { some = some; none = r.0; whole = r.1; order = r.2 } in
    let most = cut_within (first_mcu (lowered cut)) cut.segments
    (cut.across * (cut.to - cut.from)) i are within in
    let here = lowered_is cut i in
    let all : cut.from + (cut.to - cut.from) ≡ cut.to = omega (arith, order) in
    let parts = ap (λ (n : ℕ). cut.across * n) all in
    let split : cut.across * (cut.from + (cut.to - cut.from))
    ≡ cut.across * cut.from + cut.across * (cut.to - cut.from) = omega arith in
    omega (arith, most, here, parts, split)

-- and each has an MCU if there are no more than rows
pub each_has_mcus : (cut : Cut) (i : ℕ) → cut.segments ≤ cut.to - cut.from → i < cut.segments
    → 0 < cut.across → first_mcu cut i < first_mcu cut (i + 1)
each_has_mcus cut i few under wide =
    let more = each_has_rows (lowered cut) i refl few under wide in
    let here = lowered_is cut i in
    let next = lowered_is cut (i + 1) in
    omega (arith, more, here, next)
