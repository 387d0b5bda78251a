-- A step of one of the decoders of several scans.
use Rattle.std.proofs.Common.{◌≡◌, ℕ, zero, suc, ◌+◌, ◌<◌, ◌≤◌, true, All, List, [], ◌∷◌, length, get_or, refl, sym, ap, subst, ◌∙◌, arith}
use Rattle.std.specs.Prelude.{Option, Some, None, option_map, slice_get, slice_set}
use Rattle.std.proofs.lemmas.List.{length-map, map-set}
use Rattle.std.proofs.lemmas.List.Elements.{All-set, All-weaker}
use Rattle.std.proofs.lemmas.Option.{same_Some, slice_get-map, slice_get_read, slice_get_within}
use Rattle.jpeg_marker.specs.Plans.{PlanFields}
use Rattle.handover.specs.declared.outcome.Outcome.{Outcome}
use Rattle.segment_code.specs.Decoding.{DecoderSeen, Owes, Pays}
use Rattle.segment_code.specs.FileDecoding.{ScanOwes, ScanPays, is_running, mcus_left, plans_of}
use Rattle.segment_code.specs.declared.step.Step.{Step}
use Rattle.segment_code.specs.declared.step.Step.TheVariants.{More, Done, Fault}

-- ---- an item in place of one of a list

pub set_there : {A : Type 0} (xs : List A) (i : ℕ) (y : A) → i < length xs
    → slice_get (slice_set xs i y) i ≡ Some y
set_there [] i y h = absurd (omega (arith, h))
set_there (x ∷ xs) zero y h = refl
set_there (x ∷ xs) (suc i) y h = set_there xs i y (omega (arith, h))

set_same : {A : Type 0} (xs : List A) (i : ℕ) (y : A) → slice_get xs i ≡ Some y
    → slice_set xs i y ≡ xs
set_same [] i y h = refl
set_same {A} (x ∷ xs) zero y h = ap (λ (z : A). z ∷ xs) (sym (same_Some x y h))
set_same {A} (x ∷ xs) (suc i) y h = ap (λ (zs : List A). x ∷ zs) (set_same xs i y h)

-- ---- the decoder with an index

pub planned_there : (ds : List DecoderSeen) (plan : PlanFields) (i scan : ℕ) (d : DecoderSeen)
    → i ≡ scan → slice_get (plans_of ds) scan ≡ Some plan → d ≡ get_or ds i d
    → slice_get ds i ≡ Some d
planned_there ds plan i scan d is known value =
    let within = slice_get_within (plans_of ds) scan plan known in
    let long = length-map ds (λ (d : DecoderSeen). d.plan) in
    slice_get_read ds (length ds) i d refl (omega (arith, within, long, is)) value

-- it was made for the plan
pub plan_there : (ds : List DecoderSeen) (plan : PlanFields) (i scan : ℕ) (d : DecoderSeen)
    → i ≡ scan → slice_get (plans_of ds) scan ≡ Some plan → slice_get ds i ≡ Some d → d.plan ≡ plan
plan_there ds plan i scan d is known there =
    let was = subst (λ (n : ℕ). slice_get ds n ≡ Some d) is there in
    same_Some d.plan plan
    (sym (slice_get-map (λ (d : DecoderSeen). d.plan) ds scan
    ∙ ap (λ (o : Option DecoderSeen). option_map (λ (d : DecoderSeen). d.plan) o) was) ∙ known)

running_some : (o : Option DecoderSeen) → is_running o ≡ true → (d : DecoderSeen) × (o ≡ Some d)
running_some None h = absurd (cc)
running_some (Some d) h = (d, refl)

pub running_there : (ds : List DecoderSeen) (i scan : ℕ) (d : DecoderSeen) → i ≡ scan
    → is_running (slice_get ds scan) ≡ true → d ≡ get_or ds i d → slice_get ds i ≡ Some d
running_there ds i scan d is runs value =
    let some = running_some (slice_get ds scan) runs in
    let within = slice_get_within ds scan some.0 some.1 in
    slice_get_read ds (length ds) i d refl (omega (arith, within, is)) value

-- ---- a decoder in place of one

-- it is there
pub new_there : (ds : List DecoderSeen) (i scan : ℕ) (old new : DecoderSeen) → i ≡ scan
    → slice_get ds i ≡ Some old → slice_get (slice_set ds i new) scan ≡ Some new
new_there ds i scan old new is there =
    subst (λ (n : ℕ). slice_get (slice_set ds i new) n ≡ Some new) is
    (set_there ds i new (slice_get_within ds i old there))

-- one that began one more
pub begun_more : (ds : List DecoderSeen) (i most : ℕ) (old new : DecoderSeen)
    → slice_get ds i ≡ Some old → old ≡ get_or ds i old → new.begun ≡ old.begun + 1
    → All (λ (d : DecoderSeen). d.begun ≤ most) ds
    → All (λ (d : DecoderSeen). d.begun ≤ most + 1) (slice_set ds i new)
begun_more ds i most old new there value more all =
    let within = slice_get_within ds i old there in
    let few : old.begun ≤ most =
    subst (λ (d : DecoderSeen). d.begun ≤ most) (sym value) (all i old within) in
    All-set (λ (d : DecoderSeen). d.begun ≤ most + 1) ds i new (omega (arith, few, more))
    (All-weaker (λ (d : DecoderSeen). d.begun ≤ most) (λ (d : DecoderSeen). d.begun ≤ most + 1)
    (λ d few. omega (arith, few)) ds all)

-- a decoder with the same plan
pub plans_kept : (ds : List DecoderSeen) (i : ℕ) (old new : DecoderSeen)
    → slice_get ds i ≡ Some old → new.plan ≡ old.plan → plans_of (slice_set ds i new) ≡ plans_of ds
plans_kept ds i old new there same =
    map-set (λ (d : DecoderSeen). d.plan) ds i new
    ∙ set_same (plans_of ds) i new.plan
    (slice_get-map (λ (d : DecoderSeen). d.plan) ds i
    ∙ ap (λ (o : Option DecoderSeen). option_map (λ (d : DecoderSeen). d.plan) o) there
    ∙ ap (λ (p : PlanFields). Some p) (sym same))

-- ---- what a step of it gave

either_pays : (step : Step) (bytes : List ℕ) (outcome : Outcome) (out : List ℕ)
    (olds news : List DecoderSeen) (scan : ℕ) (old new : DecoderSeen)
    → slice_get olds scan ≡ Some old → slice_get news scan ≡ Some new
    → Pays step bytes outcome out old new → ScanPays step bytes outcome out olds news scan
either_pays More bytes outcome out olds news scan old new was is pays = (
  pays.0,
  pays.1,
  (let old_left = ap mcus_left was in
      let new_left = ap mcus_left is in
      let less = pays.2 in omega (arith, old_left, new_left, less)),
  (let new_left = ap mcus_left is in
      let some = pays.3 in omega (arith, new_left, some)),
  ap is_running is ∙ pays.4,
  record { decoder = new; there = is; owes = pays.5 },
)
either_pays (Done pads) bytes outcome out olds news scan old new was is pays =
    (pays.0, pays.1, ap is_running is ∙ pays.2)
either_pays (Fault fault) bytes outcome out olds news scan old new was is pays =
    (pays.0, pays.1, ap is_running is ∙ pays.2)

pub scan_pays : (step : Step) (bytes : List ℕ) (outcome : Outcome) (out : List ℕ)
    (ds : List DecoderSeen) (i scan : ℕ) (old new : DecoderSeen) → i ≡ scan
    → slice_get ds i ≡ Some old
    → ((bytes : List ℕ) (outcome : Outcome) → Owes old bytes outcome
    → Pays step bytes outcome out old new)
    → ScanOwes ds scan bytes outcome
    → ScanPays step bytes outcome out ds (slice_set ds i new) scan
scan_pays step bytes outcome out ds i scan old new is there pays owes =
    let was = subst (λ (n : ℕ). slice_get ds n ≡ Some old) is there in
    let same = same_Some owes.decoder old (sym owes.there ∙ was) in
    either_pays step bytes outcome out ds (slice_set ds i new) scan old new was
    (new_there ds i scan old new is there)
    (pays bytes outcome (subst (λ (d : DecoderSeen). Owes d bytes outcome) same owes.owes))

-- ---- what it owes comes in some steps

pub some_left : (ds : List DecoderSeen) (scan : ℕ) (bytes : List ℕ) (outcome : Outcome)
    → ScanOwes ds scan bytes outcome → 0 < mcus_left (slice_get ds scan)
some_left ds scan bytes outcome scan_owes =
    let owes = scan_owes.owes in
    let left = ap mcus_left scan_owes.there in
    let still = owes.stands.holds.still in
    let some = owes.stands.some in
    omega (arith, left, still, some)
