-- Segments are slices of the scan, and joined they are the scan.
use Rattle.std.proofs.Common.{◌≡◌, ℕ, zero, suc, ◌+◌, ◌-◌, ◌<◌, ◌≤◌, Bool, List, [], ◌++◌, length, take, drop, Ok, Err, refl, sym, ap, ap₂, subst, ◌∙◌, arith, zero-add}
use Rattle.std.specs.Prelude.{flat_map}
use Rattle.std.proofs.lemmas.List.{take-append-drop, drop-take, take-take, take_all, length-append, drop-drop, length-take-le}
use Rattle.std.proofs.Math.Seq.{take-append_seam, drop-append_seam, take-length}
use Rattle.scan_spec.specs.Slots.{Shape}
use Rattle.scan_spec.specs.Scans.{Mcu, Bytes, AreMcus, scan_bytes}
use Rattle.scan_spec.specs.Spots.{Spot, Put, first_spot, prefixed_put, then_put, mcus_put, put_first, count_in, bytes_done, spot_at, spot_in}
use Rattle.scan_spec.specs.ScanLaws.{IsShape, bytes_in}
use Rattle.cut_spec.proofs.SpotsBegun.{handover_is_spot, spots_are_begun}
use Rattle.scan_spec.proofs.Parts.{put_in_parts}
use Rattle.scan_spec.proofs.PutWhole.{put_whole}
use Rattle.cut_spec.specs.RowHandovers.{handover_of, handover_at, spot_of, segment_bytes, mcus_between}
use Rattle.cut_spec.specs.Seams.{slices, EachIsItsSlice, JoinedAreTheScan}

-- ---- lists

pub take_more : {A : Type 0} (from to : ℕ) (xs : List A) → from ≤ to → take to xs ≡ take from xs ++ take (to - from) (drop from xs)
take_more from to xs h =
    let e : from + (to - from) ≡ to = omega (arith, h) in
    sym (take-append-drop from (take to xs))
    ∙ ap₂ (λ a b. a ++ b) (take-take from to xs h) (ap (λ n. drop from (take n xs)) (sym e) ∙ drop-take from (to - from) xs)

join_more : {A : Type 0} (a b : ℕ) (xs : List A) → a ≤ b → drop a (take b xs) ++ drop b xs ≡ drop a xs
join_more a b xs h =
    let e : a + (b - a) ≡ b = omega (arith, h) in
    ap₂ (λ x y. x ++ y) (ap (λ n. drop a (take n xs)) (sym e) ∙ drop-take a (b - a) xs) (ap (λ n. drop n xs) (sym e) ∙ sym (drop-drop (b - a) a xs))
    ∙ take-append-drop (b - a) (drop a xs)

join_slices : {A : Type 0} (a b c : ℕ) (xs : List A) → a ≤ b → b ≤ c → drop a (take b xs) ++ drop b (take c xs) ≡ drop a (take c xs)
join_slices a b c xs h k = ap (λ l. drop a l ++ drop b (take c xs)) (sym (take-take b c xs k)) ∙ join_more a b (take c xs) h

no_slice : {A : Type 0} (a : ℕ) (xs : List A) → drop a (take a xs) ≡ []
no_slice a xs = let e : a + 0 ≡ a = omega arith in ap (λ n. drop a (take n xs)) (sym e) ∙ drop-take a 0 xs

-- ---- parts of what is put

abbrev made_bytes : Put → List ℕ
made_bytes (Ok made) = made.0
made_bytes (Err stop) = []

abbrev made_spot : Put → Spot
made_spot (Ok made) = made.1
made_spot (Err stop) = first_spot

pub record InParts (p : Put) (f : Spot → Put) (bytes : List ℕ) (end : Spot) : Type 0 where
  pub before : List ℕ
  pub at : Spot
  pub more : List ℕ
  pub first : p ≡ Ok (before, at)
  pub then : f at ≡ Ok (more, end)
  pub joined : bytes ≡ before ++ more

parts_of : (p : Put) (f : Spot → Put) (bytes : List ℕ) (end : Spot) → then_put p f ≡ Ok (bytes, end) → InParts p f bytes end
parts_of (Err stop) f bytes end h = absurd (let none : Err stop ≡ Ok (bytes, end) = h in cc)
parts_of (Ok x) f bytes end h = inner (f x.1) refl h where
  inner : (q : Put) → f x.1 ≡ q → prefixed_put x.0 q ≡ Ok (bytes, end) → InParts (Ok x) f bytes end
  inner (Err stop) e h = absurd (let none : Err stop ≡ Ok (bytes, end) = h in cc)
  inner (Ok y) e h = record {
    before = x.0;
    at = x.1;
    more = y.0;
    first = refl;
    then = e ∙ ap (λ (s : Spot). Ok (y.0, s)) (ap made_spot h);
    joined = sym (ap made_bytes h);
  }

whole_of : (p : Put) (scan : List ℕ) → bytes_in p ≡ Ok scan → (end : Spot) × (p ≡ Ok (scan, end))
whole_of (Err stop) scan h = absurd (let none : Err stop ≡ Ok scan = h in cc)
whole_of (Ok x) scan h = (x.1, ap (λ (l : List ℕ). Ok (l, x.1)) (ap (λ (b : Bytes). in_bytes b) h)) where
  in_bytes : Bytes → List ℕ
  in_bytes (Ok l) = l
  in_bytes (Err stop) = []

-- more MCUs are put where fewer leave off
abbrev further : Shape → (ℕ → Bool) → List Mcu → ℕ → ℕ → Spot → Put
further shape pads mcus from to at = mcus_put shape pads at (mcus_between mcus from to)

first_more : (shape : Shape) (pads : ℕ → Bool) (mcus : List Mcu) (from to : ℕ) → from ≤ to
    → put_first shape pads mcus to ≡ then_put (put_first shape pads mcus from) (further shape pads mcus from to)
first_more shape pads mcus from to h =
    ap (mcus_put shape pads first_spot) (take_more from to mcus h) ∙ put_in_parts shape pads (take from mcus) (mcus_between mcus from to) first_spot

-- ---- all of them

all_put : (shape : Shape) (pads : ℕ → Bool) (mcus : List Mcu) (scan : List ℕ) → IsShape shape → AreMcus shape mcus → scan_bytes shape pads mcus ≡ Ok scan
    → (end : Spot) × (put_first shape pads mcus shape.mcus ≡ Ok (scan, end))
all_put shape pads mcus scan is are text =
    let all : take shape.mcus mcus ≡ mcus = take_all shape.mcus mcus (let n = are.count in omega (arith, n)) in
    let w = whole_of (mcus_put shape pads first_spot mcus) scan (put_whole shape pads mcus is are ∙ text) in
    (w.0, ap (mcus_put shape pads first_spot) all ∙ w.1)

-- some of them, and what is behind
record Upto (shape : Shape) (pads : ℕ → Bool) (mcus : List Mcu) (scan : List ℕ) (to : ℕ) : Type 0 where
  pub bytes : List ℕ
  pub at : Spot
  pub rest : List ℕ
  pub put : put_first shape pads mcus to ≡ Ok (bytes, at)
  pub text : scan ≡ bytes ++ rest

upto : (shape : Shape) (pads : ℕ → Bool) (mcus : List Mcu) (scan : List ℕ) (to : ℕ) → IsShape shape → AreMcus shape mcus → scan_bytes shape pads mcus ≡ Ok scan → to ≤ shape.mcus
    → Upto shape pads mcus scan to
upto shape pads mcus scan to is are text within =
    let w = all_put shape pads mcus scan is are text in
    let p = parts_of (put_first shape pads mcus to) (further shape pads mcus to shape.mcus) scan w.0 (sym (first_more shape pads mcus to shape.mcus within) ∙ w.1) in
    record { bytes = p.before; at = p.at; rest = p.more; put = p.first; text = p.joined }

slice_is : (a b rest scan : List ℕ) (m n : ℕ) → m ≡ length a → n ≡ length (a ++ b) → scan ≡ (a ++ b) ++ rest → drop m (take n scan) ≡ b
slice_is a b rest scan m n e k text =
    ap₂ (λ (x y : ℕ). drop x (take y scan)) e k ∙ ap (λ (l : List ℕ). drop (length a) (take (length (a ++ b)) l)) text ∙ ap (drop (length a)) (take-append_seam (a ++ b) rest) ∙ drop-append_seam a b

-- a handover's spot is the one that was reached
spot_again : (shape : Shape) (pads : ℕ → Bool) (mcus : List Mcu) (from : ℕ) (before : List ℕ) (at : Spot)
    → from ≤ length mcus → put_first shape pads mcus from ≡ Ok (before, at)
    → spot_of (handover_at shape pads mcus from) from ≡ at
spot_again shape pads mcus from before at within put =
    let reached : spot_at shape pads mcus from ≡ at = ap spot_in put in
    let begun = spots_are_begun shape pads (take from mcus) first_spot at before (omega arith) put in
    let count : at.count ≡ from = begun.1 ∙ zero-add (length (take from mcus)) ∙ length-take-le from mcus within in
    ap (λ (s : Spot). spot_of (handover_of shape s) from) reached
    ∙ ap (λ (n : ℕ). spot_of (handover_of shape at) n) (sym count) ∙ handover_is_spot shape at begun.0

pub each_slice : EachIsItsSlice
each_slice shape pads mcus scan from to is are text order within =
    let u = upto shape pads mcus scan to is are text within in
    let p = parts_of (put_first shape pads mcus from) (further shape pads mcus from to) u.bytes u.at (sym (first_more shape pads mcus from to order) ∙ u.put) in
    let s : segment_bytes shape pads mcus scan from to ≡ p.more =
    slice_is p.before p.more u.rest scan (bytes_done shape pads mcus from) (bytes_done shape pads mcus to) (ap count_in p.first) (ap count_in u.put ∙ ap length p.joined) (u.text ∙ ap (λ (l : List ℕ). l ++ u.rest) p.joined) in
    let long : from ≤ length mcus = (let n = are.count in omega arith) in
    ap (λ (at : Spot). mcus_put shape pads at (mcus_between mcus from to)) (spot_again shape pads mcus from p.before p.at long p.first)
    ∙ p.then ∙ ap₂ (λ (l : List ℕ) (at : Spot). Ok (l, at)) (sym s) (sym (ap spot_in u.put))

pub done_rises : (shape : Shape) (pads : ℕ → Bool) (mcus : List Mcu) (scan : List ℕ) (from to : ℕ) → IsShape shape → AreMcus shape mcus → scan_bytes shape pads mcus ≡ Ok scan → from ≤ to → to ≤ shape.mcus
    → bytes_done shape pads mcus from ≤ bytes_done shape pads mcus to
done_rises shape pads mcus scan from to is are text order within =
    let u = upto shape pads mcus scan to is are text within in
    let p = parts_of (put_first shape pads mcus from) (further shape pads mcus from to) u.bytes u.at (sym (first_more shape pads mcus from to order) ∙ u.put) in
    let a : bytes_done shape pads mcus from ≡ length p.before = ap count_in p.first in
    let b : bytes_done shape pads mcus to ≡ length p.before + length p.more = ap count_in u.put ∙ ap length p.joined ∙ length-append p.before p.more in
    omega (arith, a, b)

-- ---- joined

rises : (d : ℕ → ℕ) (count i : ℕ) → ((j : ℕ) → j < i + count → d j ≤ d (j + 1)) → d i ≤ d (i + count)
rises d zero i h = let e : i + 0 ≡ i = omega arith in subst (λ (n : ℕ). d i ≤ d n) (sym e) (let r : d i ≤ d i = omega arith in r)
rises d (suc count) i h =
    let one = h i (let r : i < i + suc count = omega arith in r) in
    let rest = rises d count (i + 1) (λ j k. h j (omega (arith, k))) in
    let e : (i + 1) + count ≡ i + suc count = omega arith in
    let more : d (i + 1) ≤ d (i + suc count) = subst (λ (n : ℕ). d (i + 1) ≤ d n) e rest in
    omega (arith, one, more)

abbrev slice_by : (ℕ → ℕ) → List ℕ → ℕ → ℕ → List ℕ
slice_by d scan a b = drop (d a) (take (d b) scan)

joined_by : (d cut : ℕ → ℕ) (scan : List ℕ) (count i : ℕ) → ((j : ℕ) → j < i + count → d (cut j) ≤ d (cut (j + 1)))
    → flat_map (λ (bytes : List ℕ). bytes) (slices (slice_by d scan) cut i count) ≡ drop (d (cut i)) (take (d (cut (i + count))) scan)
joined_by d cut scan zero i h = let e : i + 0 ≡ i = omega arith in sym (ap (λ (n : ℕ). drop (d (cut i)) (take (d (cut n)) scan)) e ∙ no_slice (d (cut i)) scan)
joined_by d cut scan (suc count) i h =
    let e : (i + 1) + count ≡ i + suc count = omega arith in
    let later : (j : ℕ) → j < (i + 1) + count → d (cut j) ≤ d (cut (j + 1)) = λ j k. h j (omega (arith, k)) in
    let one = h i (let r : i < i + suc count = omega arith in r) in
    ap (λ (l : List ℕ). drop (d (cut i)) (take (d (cut (i + 1))) scan) ++ l) (joined_by d cut scan count (i + 1) later)
    ∙ join_slices (d (cut i)) (d (cut (i + 1))) (d (cut ((i + 1) + count))) scan one (rises (λ n. d (cut n)) count (i + 1) later)
    ∙ ap (λ (n : ℕ). drop (d (cut i)) (take (d (cut n)) scan)) e

below_last : (cut : ℕ → ℕ) (segments j : ℕ) → ((i : ℕ) → i < segments → cut i ≤ cut (i + 1)) → j ≤ segments → cut j ≤ cut segments
below_last cut segments j h k =
    let e : j + (segments - j) ≡ segments = omega (arith, k) in
    subst (λ (n : ℕ). cut j ≤ cut n) e (rises cut (segments - j) j (λ i m. h i (omega (arith, m, e))))

nothing_done : (shape : Shape) (pads : ℕ → Bool) (mcus : List Mcu) → bytes_done shape pads mcus 0 ≡ 0
unfolding mcus_put
nothing_done shape pads mcus = refl

pub joined_scan : JoinedAreTheScan
joined_scan shape pads mcus scan cut segments is are text first last order =
    let d : ℕ → ℕ = bytes_done shape pads mcus in
    let w = all_put shape pads mcus scan is are text in
    let all : d (cut segments) ≡ length scan = ap d last ∙ ap count_in w.1 in
    let none : d (cut 0) ≡ 0 = ap d first ∙ nothing_done shape pads mcus in
    let within : (j : ℕ) → j ≤ segments → cut j ≤ shape.mcus = λ j k. subst (λ (n : ℕ). cut j ≤ n) last (below_last cut segments j order k) in
    let grows : (j : ℕ) → j < 0 + segments → d (cut j) ≤ d (cut (j + 1)) =
    λ j k. let under : j < segments = omega (arith, k) in done_rises shape pads mcus scan (cut j) (cut (j + 1)) is are text (order j under) (within (j + 1) (omega (arith, under))) in
    let e : 0 + segments ≡ segments = omega arith in
    joined_by d cut scan segments 0 grows ∙ ap₂ (λ (a b : ℕ). drop a (take b scan)) none (ap (λ (n : ℕ). d (cut n)) e ∙ all) ∙ take-length scan
