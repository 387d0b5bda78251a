-- Segments that end well, each starting from where the one before it leaves off, have one list of MCUs.
use Rattle.std.proofs.Common.{◌≡◌, ℕ, zero, suc, ◌+◌, ◌-◌, ◌^◌, ◌<◌, ◌≤◌, Bool, List, [], ◌∷◌, ◌++◌, length, take, drop, map, get_or, Ok, Err, None, inl, inr, refl, sym, ap, ap₂, ◌∙◌, arith, length-append, zero-add}
use Rattle.std.specs.List.{AllByRecursion, range_with_len}
use Rattle.std.proofs.lemmas.Bool.{cases_eq}
use Rattle.std.proofs.lemmas.List.{take_at}
use Rattle.std.proofs.Math.Seq.{take-append-add}
use Rattle.huff_table.proofs.Pairs.{all-append}
use Rattle.jpeg_marker.specs.Plans.{PlanFields}
use Rattle.scan_spec.specs.Pads.{bit_for}
use Rattle.scan_spec.specs.Scans.{Mcu, IsMcu}
use Rattle.scan_spec.specs.Slots.{Shape, shape_of}
use Rattle.scan_spec.specs.Spots.{Spot, Put, prefixed_put, then_put, mcus_put, spot_in}
use Rattle.scan_spec.proofs.Parts.{put_in_parts}
use Rattle.handover.specs.Handovers.{IsHandover, start}
use Rattle.handover.specs.PadSums.{pads_with}
use Rattle.handover.specs.declared.pads.PadSum.{PadSum}
use Rattle.cut_spec.specs.RowHandovers.{handover_of}
use Rattle.block_spec.specs.Grid.{IsGrid}
use Rattle.box_format.specs.Parts.{BoxParts}
use Rattle.container_spec.specs.ScanStream.{grid_of, blocks_of, blocks_stream}
use Rattle.container_spec.specs.Segments.{Output, segment_output}
use Rattle.handover.specs.declared.outcome.Outcome.TheVariants.{Good}
use Rattle.container_spec.specs.SegmentLaws.{mcus_sum}
use Rattle.container_spec.proofs.JoinedSegments.{Joined, joined_with, joined}
use Rattle.container_spec.specs.Meanings.{segment_in}
use Rattle.container_spec.proofs.CutsOfPlans.{AreCuts, starts_at, cuts_rise}
use Rattle.container_spec.proofs.PutParts.{sums_parts}
use Rattle.container_spec.proofs.ReachedSegments.{whole, first_good, Reached, shape, pads, Ends, good_there, reached_next}

-- ---- lists in two parts

take_past : {A : Type 0} (xs ys : List A) (n k : ℕ) → length xs + k ≡ n
    → take n (xs ++ ys) ≡ xs ++ take k ys
take_past xs ys n k e = ap (λ m. take m (xs ++ ys)) (sym e) ∙ take-append-add xs ys k

drop_past : {A : Type 0} (xs ys : List A) (n k : ℕ) → length xs + k ≡ n
    → drop n (xs ++ ys) ≡ drop k ys
drop_past xs ys n k e = ap (λ m. drop m (xs ++ ys)) (sym e) ∙ past xs ys k where
  past : {A : Type 0} (xs ys : List A) (k : ℕ) → drop (length xs + k) (xs ++ ys) ≡ drop k ys
  past [] ys k = ap (λ m. drop m ys) (let z : 0 + k ≡ k = omega arith in z)
  past (x ∷ xs) ys k =
      let s : suc (length xs) + k ≡ suc (length xs + k) = omega arith in
      ap (λ m. drop m (x ∷ (xs ++ ys))) s ∙ past xs ys k

prefixed_spot : (prefix : List ℕ) (p : Put) → spot_in (prefixed_put prefix p) ≡ spot_in p
prefixed_spot prefix (Ok x) = refl
prefixed_spot prefix (Err stop) = refl

-- where more MCUs leave off
put_past : (shape : Shape) (pads : ℕ → Bool) (xs ys : List Mcu) (spot end : Spot) (bytes : List ℕ)
    → mcus_put shape pads spot xs ≡ Ok (bytes, end)
    → mcus_put shape pads spot (xs ++ ys) ≡ prefixed_put bytes (mcus_put shape pads end ys)
put_past shape pads xs ys spot end bytes put =
    put_in_parts shape pads xs ys spot
    ∙ ap (λ p. then_put p (λ next. mcus_put shape pads next ys)) put

module _ (plan : PlanFields) (b : BoxParts) (few : (shape_of plan).mcus ≤ 2 ^ 32)
    (grid : IsGrid (grid_of plan)) (each : AllByRecursion IsHandover b.handovers)
    (cuts : AreCuts (starts_at plan (length b.handovers)) (length b.handovers)
    (shape_of plan).mcus) where
  abbrev form : Shape
  form = shape_of plan

  abbrev bits : ℕ → Bool
  bits = bit_for b.pads

  abbrev cut : ℕ → ℕ
  cut i = starts_at plan (length b.handovers) i

  abbrev all_from : ℕ → ℕ → Joined
  all_from i count = joined (map (λ j. segment_output (segment_in plan (whole b) j)) (range_with_len i count))

  -- the first k segments' bytes are what the MCUs before the next one put
  abbrev AreBytesOf : ℕ → Spot → List Mcu → ℕ → Type 0
  AreBytesOf i spot mcus k =
      (at : Spot)
      × (mcus_put form bits spot (take (cut (i + k) - cut i) mcus) ≡ Ok ((all_from i k).bytes, at))

  -- the MCUs of `count` segments from segment i on, which start at a spot: their bytes, those of the first k segments,
  -- and of each segment what it starts from and its stream
  pub record Chained (i count : ℕ) (spot : Spot) : Type 0 where
    pub mcus : List Mcu
    pub end : Spot
    pub long : length mcus + cut i ≡ cut (i + count)
    pub all : AllByRecursion (IsMcu form.slots) mcus
    pub text : mcus_put form bits spot mcus ≡ Ok ((all_from i count).bytes, end)
    pub through : (k : ℕ) → k ≤ count → AreBytesOf i spot mcus k
    pub padded : (all_from i count).padded ≡ mcus_sum form b.pads spot mcus
    pub handovers : (j : ℕ) → i ≤ j → j < i + count
        → get_or b.handovers j start
        ≡ handover_of form (spot_in (mcus_put form bits spot (take (cut j - cut i) mcus)))
    pub streams : (j : ℕ) → i ≤ j → j < i + count
        → get_or b.streams j []
        ≡ blocks_stream (grid_of plan)
        (blocks_of (take (cut (j + 1) - cut j) (drop (cut j - cut i) mcus)))

  -- before the first segment there are none
  none_before : (i : ℕ) (spot : Spot) (mcus : List Mcu) → AreBytesOf i spot mcus 0
  unfolding mcus_put
  none_before i spot mcus =
      let same : i + 0 ≡ i = omega arith in
      let e = ap cut same in
      let none : cut (i + 0) - cut i ≡ 0 = omega (arith, e) in
      (spot, ap (λ n. mcus_put form bits spot (take n mcus)) none)

  no_segments : (i : ℕ) (spot : Spot) → Chained i 0 spot
  unfolding mcus_put
  no_segments i spot = record {
    mcus = [];
    end = spot;
    long = zero-add (cut i) ∙ (let e : i + 0 ≡ i = omega arith in ap cut (sym e));
    all = tt;
    text = refl;
    through = λ k few. none_through k few;
    padded = refl;
    handovers = λ j after within. absurd (omega (arith, after, within));
    streams = λ j after within. absurd (omega (arith, after, within));
  } where
    none_through : (k : ℕ) → k ≤ 0 → AreBytesOf i spot [] k
    none_through zero few = none_before i spot []
    none_through (suc k) few = absurd (omega (arith, few))

  rise : (i j : ℕ) → i ≤ j → j ≤ length b.handovers → cut i ≤ cut j
  rise i j order within =
      cuts_rise cut (length b.handovers) (shape_of plan).mcus i j cuts order within

  abbrev Ending : ℕ → Spot → List ℕ → Type 0
  Ending i spot bytes = Ends plan b few grid each cuts i spot bytes

  -- a later segment's place among the MCUs after the first one's
  module _ (i count : ℕ) (spot : Spot) (bytes : List ℕ)
      (within : i + suc count ≤ length b.handovers)
      (good : Ending i spot bytes) (more : Chained (i + 1) count good.end) where
    past : (j : ℕ) → i + 1 ≤ j → j ≤ i + suc count
        → length good.mcus + (cut j - cut (i + 1)) ≡ cut j - cut i
    past j after before =
        let first = rise i (i + 1) (omega arith) (omega (arith, within)) in
        let rest = rise (i + 1) j after (omega (arith, before, within)) in
        let long = good.long in omega (arith, long, first, rest)

    later_handover : (j : ℕ) → i + 1 ≤ j → j < i + suc count
        → get_or b.handovers j start
        ≡ handover_of form
        (spot_in (mcus_put form bits spot (take (cut j - cut i) (good.mcus ++ more.mcus))))
    later_handover j after before =
        let k = cut j - cut (i + 1) in
        more.handovers j after (omega (arith, before))
        ∙ ap (handover_of form)
        (sym (prefixed_spot bytes (mcus_put form bits good.end (take k more.mcus)))
        ∙ ap spot_in
        (sym (put_past form bits good.mcus (take k more.mcus) spot good.end bytes good.text))
        ∙ ap (λ xs. spot_in (mcus_put form bits spot xs))
        (sym (take_past good.mcus more.mcus (cut j - cut i) k
        (past j after (omega (arith, before))))))

    later_stream : (j : ℕ) → i + 1 ≤ j → j < i + suc count
        → get_or b.streams j []
        ≡ blocks_stream (grid_of plan)
        (blocks_of (take (cut (j + 1) - cut j) (drop (cut j - cut i) (good.mcus ++ more.mcus))))
    later_stream j after before =
        more.streams j after (omega (arith, before))
        ∙ ap (λ xs. blocks_stream (grid_of plan) (blocks_of (take (cut (j + 1) - cut j) xs)))
        (sym (drop_past good.mcus more.mcus (cut j - cut i) (cut j - cut (i + 1))
        (past j after (omega (arith, before)))))

    first_handover : (j : ℕ) → j ≡ i → get_or b.handovers i start ≡ handover_of form spot
        → get_or b.handovers j start
        ≡ handover_of form
        (spot_in (mcus_put form bits spot (take (cut j - cut i) (good.mcus ++ more.mcus))))
    unfolding mcus_put
    first_handover j e at =
        let none : cut j - cut i ≡ 0 = (let f = ap cut e in omega (arith, f)) in
        ap (λ n. get_or b.handovers n start) e ∙ at
        ∙ ap (λ n. handover_of form
        (spot_in (mcus_put form bits spot (take n (good.mcus ++ more.mcus))))) (sym none)

    first_stream : (j : ℕ) → j ≡ i
        → get_or b.streams j []
        ≡ blocks_stream (grid_of plan)
        (blocks_of (take (cut (j + 1) - cut j) (drop (cut j - cut i) (good.mcus ++ more.mcus))))
    first_stream j e =
        let none : cut i - cut i ≡ 0 = omega arith in
        let mine : take (cut (i + 1) - cut i) (drop (cut i - cut i) (good.mcus ++ more.mcus))
        ≡ good.mcus =
        ap (λ n. take (cut (i + 1) - cut i) (drop n (good.mcus ++ more.mcus))) none
        ∙ take_at good.mcus more.mcus (cut (i + 1) - cut i) good.long in
        ap (λ n. get_or b.streams n []) e ∙ sym good.stream
        ∙ ap (λ xs. blocks_stream (grid_of plan) (blocks_of xs)) (sym mine)
        ∙ ap (λ n. blocks_stream (grid_of plan)
        (blocks_of (take (cut (n + 1) - cut n) (drop (cut n - cut i) (good.mcus ++ more.mcus)))))
        (sym e)

    -- one segment, and then others
    one_more : (padded : PadSum) (k : ℕ)
        → segment_output (segment_in plan (whole b) i) ≡ (bytes, Good padded)
        → all_from i (suc k) ≡ joined_with bytes (Good padded) (all_from (i + 1) k)
    one_more padded k out = ap (λ (o : Output). joined_with o.0 o.1 (all_from (i + 1) k)) out

    through_more : (padded : PadSum) (k : ℕ)
        → segment_output (segment_in plan (whole b) i) ≡ (bytes, Good padded) → k ≤ suc count
        → AreBytesOf i spot (good.mcus ++ more.mcus) k
    through_more padded zero out few = none_before i spot (good.mcus ++ more.mcus)
    through_more padded (suc k) out few =
        let rest = more.through k (omega (arith, few)) in
        let n = cut ((i + 1) + k) - cut (i + 1) in
        let same : (i + 1) + k ≡ i + suc k = omega arith in
        let e = ap cut same in
        let long = past ((i + 1) + k) (omega arith) (omega (arith, few)) in
        let there : length good.mcus + n ≡ cut (i + suc k) - cut i = omega (arith, e, long) in (
          rest.0,
          ap (mcus_put form bits spot)
              (take_past good.mcus more.mcus (cut (i + suc k) - cut i) n there)
              ∙ put_past form bits good.mcus (take n more.mcus) spot good.end bytes good.text
              ∙ ap (prefixed_put bytes) rest.1
              ∙ ap (λ (x : Joined). Ok (x.bytes, rest.0)) (sym (one_more padded k out)),
        )

    chain_more : (padded : PadSum) → segment_output (segment_in plan (whole b) i) ≡ (bytes, Good padded)
        → padded ≡ mcus_sum form b.pads spot good.mcus
        → get_or b.handovers i start ≡ handover_of form spot → Chained i (suc count) spot
    chain_more padded out padded_is at =
        let all = one_more padded count out in
        let first = rise i (i + 1) (omega arith) (omega (arith, within)) in
        let e : (i + 1) + count ≡ i + suc count = omega arith in
        record {
          mcus = good.mcus ++ more.mcus;
          end = more.end;
          long = let a = length-append good.mcus more.mcus in
              let g = good.long in
              let m = more.long in
              let f = ap cut e in omega (arith, a, g, m, f, first);
          all = all-append (IsMcu form.slots) good.mcus more.mcus good.each more.all;
          text = put_past form bits good.mcus more.mcus spot good.end bytes good.text
              ∙ ap (prefixed_put bytes) more.text
              ∙ ap (λ (x : Joined). Ok (x.bytes, more.end)) (sym all);
          through = λ k few. through_more padded k out few;
          padded =
              ap (λ (x : Joined). x.padded) all ∙ ap₂ pads_with padded_is more.padded
              ∙ sym (sums_parts good.mcus more.mcus form b.pads spot good.end bytes good.text);
          handovers = λ j after before. elim (cases_eq j i) [
            | inl same ↦ first_handover j same at
            | inr other ↦ later_handover j (omega (arith, other, after)) before
          ];
          streams = λ j after before. elim (cases_eq j i) [
            | inl same ↦ first_stream j same
            | inr other ↦ later_stream j (omega (arith, other, after)) before
          ];
        }

  pub chained : (count i : ℕ) (spot : Spot) → i + count ≤ length b.handovers
      → Reached plan b i count spot → (all_from i count).fault ≡ None → Chained i count spot
  chained zero i spot within reached none = no_segments i spot
  chained (suc count) i spot within reached none =
      let o : Output = segment_output (segment_in plan (whole b) i) in
      let first = first_good o.0 o.1 (all_from (i + 1) count) none in
      let out : o ≡ (o.0, Good first.padded) =
      ap (λ x. let p : Output = (o.0, x) in p) first.outcome in
      let good = good_there plan b few grid each cuts i count spot o.0 first.padded reached out in
      let next = reached_next plan b few grid each cuts i count spot o.0 within reached good.0 in
      let more = chained count (i + 1) good.0.end (omega (arith, within)) next first.rest in
      chain_more i count spot o.0 within good.0 more first.padded out good.1
      (reached.at (omega arith))
