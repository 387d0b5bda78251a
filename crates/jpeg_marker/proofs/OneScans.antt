-- A file of one scan as one of several.
use Rattle.std.proofs.Common.{◌≡◌, ℕ, zero, suc, ◌+◌, ◌*◌, ◌≤◌, zero-add, Bool, true, false, ◌||◌, not, List, [], ◌∷◌, ◌++◌, length, map, take, replicate, Option, Some, None, refl, ap, sym, ◌∙◌, arith, subst, cond, eqb, ltb}
use Rattle.std.specs.Option.{option_or}
use Rattle.std.specs.List.{list_all, range_with_len}
use Rattle.jpeg_marker.specs.declared.refusal.HeaderRefusal.{HeaderRefusal}
use Rattle.jpeg_marker.specs.declared.refusal.HeaderRefusal.TheVariants.{LengthBad, MultiScan, ScanParams}
use Rattle.jpeg_marker.specs.declared.parameters.FrameComponent.{FrameComponent}
use Rattle.jpeg_marker.specs.declared.component.Component.{Component}
use Rattle.jpeg_marker.specs.declared.definitions.Definitions.{Definitions}
use Rattle.jpeg_marker.specs.declared.scans.Scans.TheVariants.{One, Several}
use Rattle.jpeg_marker.specs.MarkerSegments.{Segment}
use Rattle.jpeg_marker.specs.Frames.{FrameFields}
use Rattle.jpeg_marker.specs.Plans.{order_fault, range_fault, plan_fault, scan_components, scan_fault, scan_count, scan_selectors, indexes_from, indexes_fault, leaves_out, coded_after, are_all_coded}
use Rattle.jpeg_marker.specs.Walks.{first_walk}
use Rattle.jpeg_marker.specs.GoodSegments.{known_after, length_place, IsGood, AreGoodAfter, HaveNoScan}
use Rattle.jpeg_marker.specs.AcceptedPlans.{OneIsLast, OneIsSeveral, SeveralIsOne}
use Rattle.jpeg_marker.proofs.Choices.{Rising, rising_few}
use Rattle.jpeg_marker.proofs.HeadersTaken.{accepted_has_all, opened_has_some}
use Rattle.jpeg_marker.proofs.CodedComponents.{after_long, after_most, all_trues}
use Rattle.std.proofs.lemmas.Bool.Decides.{nat_tests}

or_else_more : (a b c : Option HeaderRefusal) → (a ≡ None → b ≡ None) → option_or a c ≡ None → option_or b c ≡ None
or_else_more (Some r) b c f h = cc
or_else_more None b c f h = rw (f refl) h

skipped : (a b : Bool) (x y : HeaderRefusal) (rest : Option HeaderRefusal) → cond a (Some x) (cond b (Some y) rest) ≡ None → cond a (Some x) rest ≡ None
skipped true b x y rest h = cc
skipped false true x y rest h = cc
skipped false false x y rest h = h

order_more : (coded : List Bool) (parts : List FrameComponent) (at : ℕ) (body : List ℕ) → order_fault One coded parts at body ≡ None → order_fault Several coded parts at body ≡ None
order_more coded parts at body h =
    skipped (ltb (length body) 1 || not (eqb (length body) (4 + 2 * scan_count body))) (leaves_out One (scan_count body) (length parts)) (LengthBad at) MultiScan
    (cond (eqb (scan_count body) 0 || ltb (length parts) (scan_count body)) (Some ScanParams) (indexes_fault coded (indexes_from 0 parts (scan_selectors body)))) h

scan_more : (known : Definitions) (frame : Option FrameFields) (at : ℕ) (body : List ℕ) → scan_fault One known frame at body ≡ None → scan_fault Several known frame at body ≡ None
scan_more known None at body h = cc
scan_more known (Some f) at body h =
    or_else_more (order_fault One known.coded f.parts at body) (order_fault Several known.coded f.parts at body) (option_or (range_fault body) (plan_fault known.blocks f (scan_components known f body))) (order_more known.coded f.parts at body) h

chosen : (b : Bool) (x u y : Option HeaderRefusal) → (x ≡ None → u ≡ None) → cond b x y ≡ None → cond b u y ≡ None
chosen true x u y f h = f h
chosen false x u y f h = h

good_more : (before : List Segment) (s : Segment) → IsGood (first_walk One) before s → IsGood (first_walk Several) before s
good_more before s good = record {
  whole = good.whole;
  checked =
      let known = known_after (first_walk One).known before in
      let at = length_place (first_walk One) before s in
      chosen (eqb s.code 218) (scan_fault One known known.frame at s.body) (scan_fault Several known known.frame at s.body) _ (scan_more known known.frame at s.body) good.checked;
}

are_good_more : (before segments : List Segment) → AreGoodAfter (first_walk One) before segments → AreGoodAfter (first_walk Several) before segments
are_good_more before [] good = tt
are_good_more before (s ∷ segments) good = (good_more before s good.0, are_good_more (before ++ s ∷ []) segments good.1)

pub one_is_several : OneIsSeveral
one_is_several bytes plan is = record {
  before = is.before;
  scan = is.scan;
  rest = is.rest;
  header = record {
    passed = record { good = are_good_more [] is.before is.header.passed.good; no_scan = is.header.passed.no_scan };
    good = good_more is.before is.scan is.header.good;
    last = is.header.last;
  };
  text = is.text;
  says = is.says;
}

-- so many indexes are all
rising_all : (from : ℕ) (is : List ℕ) → Rising from (from + length is) is → is ≡ range_with_len from (length is)
rising_all from [] h = refl
rising_all from (i ∷ is) h =
    let few = rising_few (i + 1) (from + suc (length is)) is (let b = h.1 in omega arith) h.2 in
    let first : i ≡ from = (let a = h.0 in omega arith) in
    let rest = rising_all (from + 1) is (subst (λ (b : ℕ). Rising (from + 1) b is) (omega arith) (subst (λ (n : ℕ). Rising (n + 1) (from + suc (length is)) is) first h.2)) in
    rw first (ap (λ (others : List ℕ). from ∷ others) rest)

all_coded : (n : ℕ) → n ≤ 4 → list_all (λ coded. coded) (take n (coded_after (replicate 4 false) (range_with_len 0 n))) ≡ true
all_coded zero h = refl
all_coded (suc zero) h = refl
all_coded (suc (suc zero)) h = refl
all_coded (suc (suc (suc zero))) h = refl
all_coded (suc (suc (suc (suc zero)))) h = refl
all_coded (suc (suc (suc (suc (suc n))))) h = absurd (omega arith)

pub one_is_last : OneIsLast
one_is_last bytes plan all is =
    let has = accepted_has_all bytes plan all is in
    let n = length has.frame.parts in
    let indexes = map (λ (c : Component). c.index) plan.components in
    let are : indexes ≡ range_with_len 0 n = rising_all 0 indexes (subst (λ (m : ℕ). Rising 0 m indexes) (sym has.long ∙ sym (zero-add (length indexes))) has.rising) ∙ ap (range_with_len 0) has.long in
    ap (λ (frame : Option FrameFields). are_all_coded plan.known frame) has.there
    ∙ ap (λ (coded : List Bool). list_all (λ b. b) (take n coded)) (has.coded ∙ ap (coded_after (replicate 4 false)) are)
    ∙ all_coded n has.few

-- ---- and back: if the first of several scans is the last, it leaves out no component

abbrev parts_in : Option FrameFields → List FrameComponent
parts_in None = []
parts_in (Some f) = f.parts

order_less : (coded : List Bool) (parts : List FrameComponent) (at : ℕ) (body : List ℕ) → leaves_out One (scan_count body) (length parts) ≡ false → order_fault Several coded parts at body ≡ None → order_fault One coded parts at body ≡ None
order_less coded parts at body whole h =
    ap (λ (b : Bool). cond (ltb (length body) 1 || not (eqb (length body) (4 + 2 * scan_count body))) (Some (LengthBad at)) (cond b (Some MultiScan) (cond (eqb (scan_count body) 0 || ltb (length parts) (scan_count body)) (Some ScanParams) (indexes_fault coded (indexes_from 0 parts (scan_selectors body)))))) whole ∙ h

scan_less : (known : Definitions) (frame : Option FrameFields) (f : FrameFields) (at : ℕ) (body : List ℕ) → frame ≡ Some f → leaves_out One (scan_count body) (length f.parts) ≡ false → scan_fault Several known frame at body ≡ None → scan_fault One known frame at body ≡ None
scan_less known None f at body there whole h = cc
scan_less known (Some g) f at body there whole h =
    let same : leaves_out One (scan_count body) (length g.parts) ≡ false = ap (λ (o : Option FrameFields). leaves_out One (scan_count body) (length (parts_in o))) there ∙ whole in
    or_else_more (order_fault Several known.coded g.parts at body) (order_fault One known.coded g.parts at body) (option_or (range_fault body) (plan_fault known.blocks g (scan_components known g body))) (order_less known.coded g.parts at body same) h

other_segment : (b : Bool) (x u y : Option HeaderRefusal) → not b ≡ true → cond b x y ≡ None → cond b u y ≡ None
other_segment true x u y no_scan h = cc
other_segment false x u y no_scan h = h

good_before : (before : List Segment) (s : Segment) → not (eqb s.code 218) ≡ true → IsGood (first_walk Several) before s → IsGood (first_walk One) before s
good_before before s no_scan good = record {
  whole = good.whole;
  checked = other_segment (eqb s.code 218) _ _ _ no_scan good.checked;
}

are_good_before : (before segments : List Segment) → HaveNoScan segments → AreGoodAfter (first_walk Several) before segments → AreGoodAfter (first_walk One) before segments
are_good_before before [] no_scan good = tt
are_good_before before (s ∷ segments) no_scan good = (good_before before s no_scan.0 good.0, are_good_before (before ++ s ∷ []) segments no_scan.1 good.1)

-- as many components as the frame has
whole_scan : (count all : ℕ) → all ≤ count → leaves_out One count all ≡ false
whole_scan count all enough = grind (arith, nat_tests)

pub several_is_one : SeveralIsOne
several_is_one bytes plan all is last =
    let has = opened_has_some Several bytes plan all is in
    let indexes = map (λ (c : Component). c.index) plan.components in
    let n = length has.frame.parts in
    let none = replicate 4 false in
    let coded : list_all (λ b. b) (take n (coded_after none indexes)) ≡ true =
    sym (ap (λ (frame : Option FrameFields). are_all_coded plan.known frame) has.there ∙ ap (λ (coded : List Bool). list_all (λ b. b) (take n coded)) has.coded) ∙ last in
    let room : n ≤ length (coded_after none indexes) = omega (arith, has.few, after_long none indexes) in
    let many = all_trues (coded_after none indexes) n room coded in
    let enough : n ≤ scan_count is.scan.body = omega (arith, many, after_most none indexes, has.long) in
    let known = known_after (first_walk Several).known is.before in
    let at = length_place (first_walk Several) is.before is.scan in
    record {
      before = is.before;
      scan = is.scan;
      rest = is.rest;
      header = record {
        passed = record { good = are_good_before [] is.before is.header.passed.no_scan is.header.passed.good; no_scan = is.header.passed.no_scan };
        good = record {
          whole = is.header.good.whole;
          checked = chosen (eqb is.scan.code 218) (scan_fault Several known known.frame at is.scan.body) (scan_fault One known known.frame at is.scan.body) _
              (scan_less known known.frame has.frame at is.scan.body has.found (whole_scan (scan_count is.scan.body) n enough)) is.header.good.checked;
        };
        last = is.header.last;
      };
      text = is.text;
      says = is.says;
    }
