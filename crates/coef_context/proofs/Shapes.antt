-- The number of a bin gives its shape, its class and its context back.
use Rattle.std.proofs.Common.{◌≡◌, ℕ, ◌+◌, ◌*◌, ◌-◌, ◌<◌, ◌≤◌, zero, suc, Bool, true, false, List, [], ◌∷◌, refl, ap, ◌∙◌, sym, subst, arith}
use Rattle.std.specs.Prelude.{nat_lt, if◌then◌else◌}
use Rattle.std.proofs.lemmas.Bool.Decides.{nat_tests}
use Rattle.std.proofs.Math.Nat.{mul-le-mul_right}
use Rattle.coef_context.specs.declared.context.Context.{Context}
use Rattle.coef_context.specs.declared.context.Context.TheVariants.{InnerCount, InnerStep, EdgeCount, EdgeStep, DcStep, Sign, Low}
use Rattle.coef_context.specs.declared.context.Kind.{Kind}
use Rattle.coef_context.specs.declared.context.Kind.TheVariants.{Inner, Row, Column, Dc}
use Rattle.coef_context.specs.BinNumbers.{IsContext, bin_number, digits, radices, start, written}
use Rattle.coef_context.proofs.Radix.{written_once, written_below, pair_at, pair_of, count}

-- the radices of each shape, in the order of their runs
abbrev shapes : List (List ℕ)
shapes =
    (7 ∷ 63 ∷ []) ∷
    (49 ∷ 11 ∷ 6 ∷ 10 ∷ []) ∷
    (2 ∷ 7 ∷ 7 ∷ []) ∷
    (2 ∷ 7 ∷ 11 ∷ 3 ∷ 10 ∷ []) ∷
    (17 ∷ 16 ∷ []) ∷
    (49 ∷ 10 ∷ []) ∷
    (49 ∷ 45 ∷ []) ∷
    (2 ∷ 7 ∷ 10 ∷ []) ∷
    (2 ∷ 7 ∷ 45 ∷ []) ∷
    (16 ∷ []) ∷
    (120 ∷ []) ∷ []

-- the radices of a shape; past the last none, of which no digits are below
abbrev radices_in : List (List ℕ) → ℕ → List ℕ
radices_in [] k = 0 ∷ []
radices_in (rs ∷ rss) zero = rs
radices_in (rs ∷ rss) (suc k) = radices_in rss k

-- where a shape's run begins
abbrev start_in : List (List ℕ) → ℕ → ℕ
start_in [] k = 0
start_in (rs ∷ rss) zero = 0
start_in (rs ∷ rss) (suc k) = 2 * count rs + start_in rss k

-- a number's shape: runs are walked until one holds it
abbrev shape_in : List (List ℕ) → ℕ → ℕ
shape_in [] n = 0
shape_in (rs ∷ rss) n = if nat_lt n (2 * count rs) then 0 else suc (shape_in rss (n - 2 * count rs))

-- a number within a shape's run gives the shape back
shape_back : (rss : List (List ℕ)) (k m : ℕ) → m < 2 * count (radices_in rss k) → shape_in rss (start_in rss k + m) ≡ k
shape_back [] k m below = absurd (omega arith)
shape_back (rs ∷ rss) zero m below =
    let here : nat_lt (0 + m) (2 * count rs) ≡ true = grind (arith, nat_tests) in
    rw here refl
shape_back (rs ∷ rss) (suc k) m below =
    let past : nat_lt (2 * count rs + start_in rss k + m) (2 * count rs) ≡ false = grind (arith, nat_tests) in
    let on : 2 * count rs + start_in rss k + m - 2 * count rs ≡ start_in rss k + m = omega arith in
    rw (past, on) (ap suc (shape_back rss k m below))

-- a shape by kind: each has a sign's and a lower bit's run
abbrev by_kind : Kind → ℕ → ℕ
by_kind Inner k = k
by_kind Row k = k + 2
by_kind Column k = k + 2
by_kind Dc k = k + 4

-- the shape of a context
abbrev shape : Context → ℕ
shape (InnerCount size node) = 0
shape (InnerStep place weight left step) = 1
shape (EdgeCount column size node) = 2
shape (EdgeStep column place weight left step) = 3
shape (DcStep spread step) = 4
shape (Sign kind place size) = by_kind kind 5
shape (Low kind place size bit) = by_kind kind 6

abbrev side : ℕ → Kind
side zero = Row
side (suc k) = Column

abbrev flag_at : ℕ → Bool
flag_at zero = false
flag_at (suc k) = true

abbrev first : List ℕ → ℕ
first [] = 0
first (d ∷ ds) = d

abbrev rest : List ℕ → List ℕ
rest [] = []
rest (d ∷ ds) = ds

abbrev low_at : Kind → ℕ → ℕ × ℕ → Context
low_at kind place p = Low kind place p.0 p.1

-- what stands at a shape; past the end, the last shape's
abbrev pick : List Context → Context → ℕ → Context
pick [] last k = last
pick (c ∷ cs) last zero = c
pick (c ∷ cs) last (suc k) = pick cs last k

-- the context of a shape with these digits
abbrev context_at : ℕ → List ℕ → Context
context_at k ds =
    let second = first (rest ds) in
    let third = first (rest (rest ds)) in
    let fourth = first (rest (rest (rest ds))) in
    let fifth = first (rest (rest (rest (rest ds)))) in
    pick (
    InnerCount (first ds) (second + 1) ∷
    InnerStep (first ds) second (third + 1) fourth ∷
    EdgeCount (flag_at (first ds)) second (third + 1) ∷
    EdgeStep (flag_at (first ds)) second third (fourth + 1) fifth ∷
    DcStep (first ds) second ∷
    Sign Inner (first ds) (second + 1) ∷
    low_at Inner (first ds) (pair_at 16 1 second) ∷
    Sign (side (first ds)) second (third + 1) ∷
    low_at (side (first ds)) second (pair_at 16 1 third) ∷
    Sign Dc 0 (first ds + 1) ∷ []
    ) (low_at Dc 0 (pair_at 16 1 (first ds))) k

-- a context is that of its shape and its digits, and its run is the shape's
record Shaped (c : Context) : Type 0 where
  rs : radices c ≡ radices_in shapes (shape c)
  from : start c ≡ start_in shapes (shape c)
  back : context_at (shape c) (digits c) ≡ c

up : (k : ℕ) → 1 ≤ k → k - 1 + 1 ≡ k
up k some = omega arith

shaped : (c : Context) → IsContext c → Shaped c
shaped (InnerCount size node) is = record {
  rs = refl;
  from = refl;
  back = ap (InnerCount size) (up node is.from);
}
shaped (InnerStep place weight left step) is = record {
  rs = refl;
  from = refl;
  back = ap (λ (k : ℕ). InnerStep place weight k step) (up left is.from);
}
shaped (EdgeCount true size node) is = record {
  rs = refl;
  from = refl;
  back = ap (EdgeCount true size) (up node is.from);
}
shaped (EdgeCount false size node) is = record {
  rs = refl;
  from = refl;
  back = ap (EdgeCount false size) (up node is.from);
}
shaped (EdgeStep true place weight left step) is = record {
  rs = refl;
  from = refl;
  back = ap (λ (k : ℕ). EdgeStep true place weight k step) (up left is.from);
}
shaped (EdgeStep false place weight left step) is = record {
  rs = refl;
  from = refl;
  back = ap (λ (k : ℕ). EdgeStep false place weight k step) (up left is.from);
}
shaped (DcStep spread step) is = record {
  rs = refl;
  from = refl;
  back = refl;
}
shaped (Sign Inner place size) is = record {
  rs = refl;
  from = refl;
  back = ap (Sign Inner place) (up size is.from);
}
shaped (Sign Row place size) is = record {
  rs = refl;
  from = refl;
  back = ap (Sign Row place) (up size is.from);
}
shaped (Sign Column place size) is = record {
  rs = refl;
  from = refl;
  back = ap (Sign Column place) (up size is.from);
}
shaped (Sign Dc place size) is = record {
  rs = refl;
  from = refl;
  back = ap (Sign Dc 0) (up size is.from) ∙ ap (λ (k : ℕ). Sign Dc k size) (sym is.place);
}
shaped (Low Inner place size bit) is = record {
  rs = refl;
  from = refl;
  back = ap (low_at Inner place) (pair_of size bit is.from.0 is.from.1 (omega (arith, is.from.2)));
}
shaped (Low Row place size bit) is = record {
  rs = refl;
  from = refl;
  back = ap (low_at Row place) (pair_of size bit is.from.0 is.from.1 (omega (arith, is.from.2)));
}
shaped (Low Column place size bit) is = record {
  rs = refl;
  from = refl;
  back = ap (low_at Column place) (pair_of size bit is.from.0 is.from.1 (omega (arith, is.from.2)));
}
shaped (Low Dc place size bit) is = record {
  rs = refl;
  from = refl;
  back = ap (low_at Dc 0) (pair_of size bit is.from.0 is.from.1 (omega (arith, is.from.2)))
      ∙ ap (λ (k : ℕ). Low Dc k size bit) (sym is.place);
}

-- a context's number gives its shape back
shape_at : (class : ℕ) (c : Context) → class < 2 → IsContext c → shape_in shapes (bin_number class c) ≡ shape c
shape_at class c two is =
    let s = shaped c is in
    let h = written_below (radices c) (digits c) class is.digits in
    let n = written class (radices c) (digits c) in
    let most : (class + 1) * count (radices c) ≤ 2 * count (radices c) =
    mul-le-mul_right (count (radices c)) (omega arith) in
    let below : n < 2 * count (radices c) = omega (arith, h, most) in
    let within = subst (λ (rs : List ℕ). n < 2 * count rs) s.rs below in
    ap (λ (k : ℕ). shape_in shapes (k + n)) s.from ∙ shape_back shapes (shape c) n within

-- different contexts have different numbers
pub number_once : (class other : ℕ) (c d : Context) → class < 2 → other < 2 → IsContext c → IsContext d
    → bin_number class c ≡ bin_number other d → (class ≡ other) × (c ≡ d)
number_once class other c d two also is id same =
    let s = shaped c is in
    let t = shaped d id in
    let one : shape c ≡ shape d =
    sym (shape_at class c two is) ∙ ap (shape_in shapes) same ∙ shape_at other d also id in
    let rs : radices c ≡ radices d = s.rs ∙ ap (radices_in shapes) one ∙ sym t.rs in
    let from : start c ≡ start d = s.from ∙ ap (start_in shapes) one ∙ sym t.from in
    let h : written class (radices c) (digits c) ≡ written other (radices d) (digits d) = omega (arith, same, from) in
    let once = written_once (radices d) (digits c) (digits d) class other (rw rs at is.digits) id.digits (rw rs at h) in
    (once.0, sym s.back ∙ ap (λ (k : ℕ). context_at k (digits c)) one ∙ ap (context_at (shape d)) once.1 ∙ t.back)
