-- Two ways to read the same bytes as segments are one.
use Rattle.std.proofs.Common.{◌≡◌, ℕ, not, List, [], ◌∷◌, ◌++◌, length, take, drop, flat_map, Some, refl, ap, sym, ◌∙◌, append_assoc, subst, eqb, IsTrue, inl, inr}
use Rattle.std.proofs.lemmas.List.{append-nil, drop_at, take_at}
use Rattle.std.proofs.lemmas.Bool.{false≢true}
use Rattle.jpeg_marker.specs.declared.refusal.HeaderRefusal.{HeaderRefusal}
use Rattle.jpeg_marker.specs.declared.scans.Scans.{Scans}
use Rattle.jpeg_marker.specs.declared.scans.Scans.TheVariants.{One}
use Rattle.jpeg_marker.specs.MarkerSegments.{Segment, segment_text}
use Rattle.jpeg_marker.specs.Walks.{Walk, first_walk, next_walk, walk_text, walk_place}
use Rattle.jpeg_marker.specs.Plans.{PlanFields}
use Rattle.jpeg_marker.specs.GoodSegments.{IsGood, AreGoodAfter, HaveNoScan, ArePassed, fault_of, length_place, stuck_at}
use Rattle.jpeg_marker.specs.HeaderPlan.{IsHeader, Begins, BeginsNot, Stops, Accepts, Refuses, IsStuck, plan_of}
use Rattle.jpeg_marker.specs.OneHeader.{OneList, OnePlan, OneRefusal, NeverBoth, OneNextPlan, OneNextRefusal, NeverBothNext}
use Rattle.jpeg_marker.proofs.OneSegment.{one_segment, whole_not_stuck}
use Rattle.jpeg_marker.proofs.Walking.{walk_text-push}
use Rattle.jpeg_marker.proofs.Choices.{some_is_one}

-- after these segments no other good one stands but a scan's
record Ends (w : Walk) (before : List Segment) (rest : List ℕ) : Type 0 where
  pub none : (s : Segment) (after : List ℕ) → IsGood w before s → IsTrue (not (eqb s.code 218)) → rest ≡ segment_text s ++ after → ⊥

same_end : (w : Walk) (before xs ys : List Segment) (x y : List ℕ) → AreGoodAfter w before xs → HaveNoScan xs → AreGoodAfter w before ys → HaveNoScan ys → Ends w (before ++ xs) x → Ends w (before ++ ys) y → flat_map segment_text xs ++ x ≡ flat_map segment_text ys ++ y → (xs ≡ ys) × (x ≡ y)
same_end w before [] [] x y gx nx gy ny ex ey e = (refl, e)
same_end w before [] (v ∷ ys) x y gx nx gy ny ex ey e =
    let here = subst (λ (b : List Segment). Ends w b x) (append-nil before) ex in
    absurd (here.none v (flat_map segment_text ys ++ y) gy.0 ny.0 (e ∙ append_assoc (segment_text v) (flat_map segment_text ys) y))
same_end w before (u ∷ xs) [] x y gx nx gy ny ex ey e =
    let here = subst (λ (b : List Segment). Ends w b y) (append-nil before) ey in
    absurd (here.none u (flat_map segment_text xs ++ x) gx.0 nx.0 (sym e ∙ append_assoc (segment_text u) (flat_map segment_text xs) x))
same_end w before (u ∷ xs) (v ∷ ys) x y gx nx gy ny ex ey e =
    let first = one_segment u v (flat_map segment_text xs ++ x) (flat_map segment_text ys ++ y) gx.0.whole gy.0.whole (sym (append_assoc (segment_text u) (flat_map segment_text xs) x) ∙ e ∙ append_assoc (segment_text v) (flat_map segment_text ys) y) in
    let good = subst (λ (t : Segment). AreGoodAfter w (before ++ t ∷ []) ys) (sym first.0) gy.1 in
    let ends_x = subst (λ (b : List Segment). Ends w b x) (sym (append_assoc before (u ∷ []) xs)) ex in
    let ends_y = subst (λ (b : List Segment). Ends w b y) (ap (λ t. before ++ t ∷ ys) (sym first.0) ∙ sym (append_assoc before (u ∷ []) ys)) ey in
    let others = same_end w (before ++ u ∷ []) xs ys x y gx.1 nx.1 good ny.1 ends_x ends_y first.1 in
    (rw (first.0, others.0) refl, others.1)

same_after : (prefix x y : List ℕ) → prefix ++ x ≡ prefix ++ y → x ≡ y
same_after prefix x y e = sym (drop_at prefix x (length prefix) refl) ∙ ap (drop (length prefix)) e ∙ drop_at prefix y (length prefix) refl

-- two readings of the same bytes
same_reading : (w : Walk) (bytes x y : List ℕ) (xs ys : List Segment) → ArePassed w xs → ArePassed w ys → Ends w xs x → Ends w ys y → bytes ≡ walk_text w xs ++ x → bytes ≡ walk_text w ys ++ y → (xs ≡ ys) × (x ≡ y)
same_reading w bytes x y xs ys p q ex ey e f = same_end w [] xs ys x y p.good p.no_scan q.good q.no_scan ex ey (same_after w.start _ _ (sym (append_assoc w.start (flat_map segment_text xs) x) ∙ sym e ∙ f ∙ append_assoc w.start (flat_map segment_text ys) y))

-- a scan's segment is an end
scan_ends : (w : Walk) (before : List Segment) (scan : Segment) (rest : List ℕ) → IsHeader w before scan → Ends w before (segment_text scan ++ rest)
scan_ends w before scan rest header = record {
  none = λ s after good other text.
      let same = one_segment scan s rest after header.good.whole good.whole text in
      false≢true (subst (λ (n : ℕ). IsTrue (not (eqb n 218))) (ap (λ (t : Segment). t.code) (sym same.0) ∙ header.last) other);
}

-- and so is what is refused
stuck_ends : (w : Walk) (before : List Segment) (rest : List ℕ) (r : HeaderRefusal) → IsStuck w before rest r → Ends w before rest
stuck_ends w before rest r (inl stuck) = record {
  none = λ s after good other text.
      let none = ap (stuck_at (walk_place w before)) text ∙ whole_not_stuck (walk_place w before) s after good.whole in
      cc;
}
stuck_ends w before rest r (inr found) = record {
  none = λ s after good other text.
      let same = one_segment found.0 s found.1 after found.2 good.whole (sym found.3 ∙ text) in
      let fault = subst (λ (t : Segment). fault_of w before (length_place w before t) t ≡ Some r) same.0 found.4 in
      let none = good.checked in
      cc;
}

header_split : (w : Walk) (bytes rest : List ℕ) (before : List Segment) (scan : Segment) → bytes ≡ walk_text w (before ++ scan ∷ []) ++ rest → bytes ≡ walk_text w before ++ (segment_text scan ++ rest)
header_split w bytes rest before scan text = text ∙ ap (λ prefix. prefix ++ rest) (walk_text-push w before scan) ∙ append_assoc (walk_text w before) (segment_text scan) rest

pub one_list : OneList
one_list w bytes rest more before others scan end p q e f =
    let same = same_reading w bytes (segment_text scan ++ rest) (segment_text end ++ more) before others p.passed q.passed (scan_ends w before scan rest p) (scan_ends w others end more q) (header_split w bytes rest before scan e) (header_split w bytes more others end f) in
    let last = one_segment scan end rest more p.good.whole q.good.whole same.1 in
    (same.0, last.0, last.1)

pub one_begins : (w : Walk) (bytes : List ℕ) (plan other : PlanFields) → Begins w bytes plan → Begins w bytes other → plan ≡ other
one_begins w bytes plan other a b =
    let same = one_list w bytes a.rest b.rest a.before b.before a.scan b.scan a.header b.header a.text b.text in
    some_is_one plan other (sym a.says ∙ ap (λ s. plan_of w a.before s) same.1 ∙ ap (λ before. plan_of w before b.scan) same.0 ∙ b.says)

pub one_opening : OnePlan
one_opening scans bytes plan other a b = one_begins (first_walk scans) bytes plan other a b

pub one_next_plan : OneNextPlan
one_next_plan plan bytes place next other a b = one_begins (next_walk plan.known place) (drop place bytes) next other a b

start_is : (scans : Scans) (bytes rest : List ℕ) (segments : List Segment) → bytes ≡ walk_text (first_walk scans) segments ++ rest → take 2 bytes ≡ 255 ∷ 216 ∷ []
start_is scans bytes rest segments text = ap (take 2) text

began : (w : Walk) (bytes rest : List ℕ) (segments : List Segment) → bytes ≡ walk_text w segments ++ rest → take (length w.start) bytes ≡ w.start
began w bytes rest segments text = ap (take (length w.start)) (text ∙ append_assoc w.start (flat_map segment_text segments) rest) ∙ take_at w.start (flat_map segment_text segments ++ rest) (length w.start) refl

one_stuck : (w : Walk) (before : List Segment) (rest : List ℕ) (r q : HeaderRefusal) → IsStuck w before rest r → IsStuck w before rest q → r ≡ q
one_stuck w before rest r q (inl a) (inl b) = some_is_one r q (sym a ∙ b)
one_stuck w before rest r q (inl a) (inr b) = let none = ap (stuck_at (walk_place w before)) b.3 ∙ whole_not_stuck (walk_place w before) b.0 b.1 b.2 in cc
one_stuck w before rest r q (inr a) (inl b) = let none = ap (stuck_at (walk_place w before)) a.3 ∙ whole_not_stuck (walk_place w before) a.0 a.1 a.2 in cc
one_stuck w before rest r q (inr a) (inr b) =
    let same = one_segment a.0 b.0 a.1 b.1 a.2 b.2 (sym a.3 ∙ b.3) in
    some_is_one r q (sym (subst (λ (t : Segment). fault_of w before (length_place w before t) t ≡ Some r) same.0 a.4) ∙ b.4)

pub one_stop : (w : Walk) (bytes : List ℕ) (r q : HeaderRefusal) → Stops w bytes r → Stops w bytes q → r ≡ q
one_stop w bytes r q a b =
    let same = same_reading w bytes a.rest b.rest a.before b.before a.passed b.passed (stuck_ends w a.before a.rest r a.stuck) (stuck_ends w b.before b.rest q b.stuck) a.text b.text in
    let moved = subst (λ (rest : List ℕ). IsStuck w b.before rest r) same.1 (subst (λ (before : List Segment). IsStuck w before a.rest r) same.0 a.stuck) in
    one_stuck w b.before b.rest r q moved b.stuck

pub one_opening_refusal : OneRefusal
one_opening_refusal scans bytes r q (inl a) (inl b) = a.1 ∙ sym b.1
one_opening_refusal scans bytes r q (inl a) (inr b) = absurd (a.0 (start_is scans bytes b.rest b.before b.text))
one_opening_refusal scans bytes r q (inr a) (inl b) = absurd (b.0 (start_is scans bytes a.rest a.before a.text))
one_opening_refusal scans bytes r q (inr a) (inr b) = one_stop (first_walk scans) bytes r q a b

pub one_next_refusal : OneNextRefusal
one_next_refusal plan bytes place r q a b = one_stop (next_walk plan.known place) (drop place bytes) r q a b

-- bytes that begin with no header have one refusal
pub one_begins_not : (w : Walk) (bytes : List ℕ) (r q : HeaderRefusal) → BeginsNot w bytes r → BeginsNot w bytes q → r ≡ q
one_begins_not w bytes r q (inl a) (inl b) = a.1 ∙ sym b.1
one_begins_not w bytes r q (inl a) (inr b) = absurd (a.0 (began w bytes b.rest b.before b.text))
one_begins_not w bytes r q (inr a) (inl b) = absurd (b.0 (began w bytes a.rest a.before a.text))
one_begins_not w bytes r q (inr a) (inr b) = one_stop w bytes r q a b

scan_not_stuck : (w : Walk) (before : List Segment) (scan : Segment) (after rest : List ℕ) (r : HeaderRefusal) → IsGood w before scan → segment_text scan ++ after ≡ rest → IsStuck w before rest r → ⊥
scan_not_stuck w before scan after rest r good text (inl stuck) =
    let none = ap (stuck_at (walk_place w before)) (sym text) ∙ whole_not_stuck (walk_place w before) scan after good.whole in cc
scan_not_stuck w before scan after rest r good text (inr found) =
    let same = one_segment found.0 scan found.1 after found.2 good.whole (sym found.3 ∙ sym text) in
    let fault = subst (λ (t : Segment). fault_of w before (length_place w before t) t ≡ Some r) same.0 found.4 in
    let none = good.checked in
    cc

pub never_stopped : (w : Walk) (bytes : List ℕ) (plan : PlanFields) (r : HeaderRefusal) → Begins w bytes plan → Stops w bytes r → ⊥
never_stopped w bytes plan r a b =
    let same = same_reading w bytes (segment_text a.scan ++ a.rest) b.rest a.before b.before a.header.passed b.passed (scan_ends w a.before a.scan a.rest a.header) (stuck_ends w b.before b.rest r b.stuck) (header_split w bytes a.rest a.before a.scan a.text) b.text in
    scan_not_stuck w b.before a.scan a.rest b.rest r (subst (λ (before : List Segment). IsGood w before a.scan) same.0 a.header.good) same.1 b.stuck

-- and don't begin with one
pub begins_apart : (w : Walk) (bytes : List ℕ) (plan : PlanFields) (r : HeaderRefusal) → Begins w bytes plan → BeginsNot w bytes r → ⊥
begins_apart w bytes plan r a (inl b) = b.0 (began w bytes a.rest (a.before ++ a.scan ∷ []) a.text)
begins_apart w bytes plan r a (inr b) = never_stopped w bytes plan r a b

pub never_both_opening : NeverBoth
never_both_opening scans bytes plan r a (inl b) = b.0 (start_is scans bytes a.rest (a.before ++ a.scan ∷ []) a.text)
never_both_opening scans bytes plan r a (inr b) = never_stopped (first_walk scans) bytes plan r a b

pub never_both_next : NeverBothNext
never_both_next plan bytes place next r a b = never_stopped (next_walk plan.known place) (drop place bytes) next r a b

-- the same of a file of one scan
pub one_plan : (bytes : List ℕ) (plan other : PlanFields) → Accepts bytes plan → Accepts bytes other → plan ≡ other
one_plan bytes plan other a b = one_opening One bytes plan other a b

pub never_both : (bytes : List ℕ) (plan : PlanFields) (refusal : HeaderRefusal) → Accepts bytes plan → Refuses bytes refusal → ⊥
never_both bytes plan refusal a b = never_both_opening One bytes plan refusal a b
