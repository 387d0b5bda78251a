-- Digits of a mixed radix, and rows that grow.
use Rattle.std.proofs.Common.{◌≡◌, ℕ, ◌+◌, ◌*◌, ◌-◌, ◌/◌, ◌<◌, ◌≤◌, zero, suc, List, [], ◌∷◌, refl, ap, ◌∙◌, sym, arith, true, false}
use Rattle.std.specs.Prelude.{nat_lt, if◌then◌else◌}
use Rattle.std.proofs.lemmas.Bool.Decides.{nat_tests}
use Rattle.std.proofs.Math.Nat.{mul-le-mul_right}
use Rattle.coef_context.specs.BinNumbers.{written, AreDigits, rows_from, low_bit_index}

-- of two numbers that are equal, one digit off, the digits before are in the same order
before_le : (r m n d e : ℕ) → d < r → e < r → m * r + d ≡ n * r + e → m ≤ n
before_le r m n d e below also same = elim (nat_lt n m) as (λ b. nat_lt n m ≡ b → m ≤ n) [
  | true ↦ λ h. let less : n + 1 ≤ m = grind (arith, nat_tests) in
      let more : (n + 1) * r ≤ m * r = mul-le-mul_right r less in
      absurd (omega (arith, more, same, below, also))
  | false ↦ λ h. grind (arith, nat_tests)
] refl

-- a number has one last digit, and one number of the digits before it
last_digit : (r m n d e : ℕ) → d < r → e < r → m * r + d ≡ n * r + e → (m ≡ n) × (d ≡ e)
last_digit r m n d e below also same =
    let up = before_le r m n d e below also same in
    let down = before_le r n m e d also below (sym same) in
    let fronts : m ≡ n = omega arith in
    (fronts, let f : m * r ≡ n * r = ap (λ k. k * r) fronts in omega (arith, f, same))

-- two lists of digits that write one number are one
pub written_once : (rs ds es : List ℕ) (m n : ℕ) → AreDigits rs ds → AreDigits rs es → written m rs ds ≡ written n rs es
    → (m ≡ n) × (ds ≡ es)
written_once [] [] [] m n p q same = (same, refl)
written_once [] [] (e ∷ es) m n p q same = absurd q
written_once [] (d ∷ ds) es m n p q same = absurd p
written_once (r ∷ rs) [] es m n p q same = absurd p
written_once (r ∷ rs) (d ∷ ds) [] m n p q same = absurd q
written_once (r ∷ rs) (d ∷ ds) (e ∷ es) m n p q same =
    let rest = written_once rs ds es (m * r + d) (n * r + e) p.1 q.1 same in
    let here = last_digit r m n d e p.0 q.0 rest.0 in
    (here.0, ap (λ k. k ∷ ds) here.1 ∙ ap (λ ks. e ∷ ks) rest.1)

-- how many numbers digits write
abbrev pub count : List ℕ → ℕ
count [] = 1
count (r ∷ rs) = r * count rs

-- digits write less than the next number of the digits before them
pub written_below : (rs ds : List ℕ) (n : ℕ) → AreDigits rs ds → written n rs ds < (n + 1) * count rs
written_below [] [] n p = omega arith
written_below [] (d ∷ ds) n p = absurd p
written_below (r ∷ rs) [] n p = absurd p
written_below (r ∷ rs) (d ∷ ds) n p =
    let rest = written_below rs ds (n * r + d) p.1 in
    let more : (n * r + d + 1) * count rs ≤ (n + 1) * r * count rs = mul-le-mul_right (count rs) (omega (arith, p.0)) in
    omega (arith, rest, more)

-- the sum of an arithmetic progression
pub rows_is : (k j : ℕ) → 2 * rows_from k j + j ≡ 2 * k * j + j * j
rows_is k zero = omega arith
rows_is k (suc j) = let h = rows_is (k + 1) j in grind (arith, h)

-- the rows before a size, from one on, by half a product
pub rows_before : (size : ℕ) → 2 ≤ size → (size - 1) * (size - 2) / 2 ≡ rows_from 1 (size - 2)
rows_before size least =
    let rows = rows_is 1 (size - 2) in
    let e : size - 1 ≡ size - 2 + 1 = omega arith in
    let p : (size - 1) * (size - 2) ≡ (size - 2) * (size - 2) + (size - 2) = rw e (omega arith) in
    omega (arith, p, rows)

-- the lower bits of the sizes up to 16
pub few_rows : (s : ℕ) → 2 ≤ s → s ≤ 16 → rows_from 1 (s - 2) + 0 + (s - 1) ≤ 120
few_rows s some most =
    let j : s - 2 ≤ 14 = omega arith in
    let square : (s - 2) * (s - 2) ≤ 14 * (s - 2) = mul-le-mul_right (s - 2) j in
    let h = rows_is 1 (s - 2) in
    omega (arith, h, square, j)

-- the size and the bit at an index: rows are walked until one holds it
abbrev pub pair_at : ℕ → ℕ → ℕ → ℕ × ℕ
pair_at zero k p = (k + 1, p)
pair_at (suc f) k p = if nat_lt p k then (k + 1, p) else pair_at f (k + 1) (p - k)

pair_back : (f k j b : ℕ) → j ≤ f → b < k + j → pair_at f k (rows_from k j + b) ≡ (k + j + 1, b)
pair_back zero k zero b fuel below =
    let e : k + 0 + 1 ≡ k + 1 = omega arith in
    let z : 0 + b ≡ b = omega arith in
    rw (e, z) refl
pair_back zero k (suc j) b fuel below = absurd (omega arith)
pair_back (suc f) k zero b fuel below =
    let e : k + 0 + 1 ≡ k + 1 = omega arith in
    let z : 0 + b ≡ b = omega arith in
    let t : nat_lt b k ≡ true = grind (arith, nat_tests) in
    rw (e, z, t) refl
pair_back (suc f) k (suc j) b fuel below =
    let t : nat_lt (k + rows_from (k + 1) j + b) k ≡ false = grind (arith, nat_tests) in
    let s : k + rows_from (k + 1) j + b - k ≡ rows_from (k + 1) j + b = omega arith in
    let e : k + suc j + 1 ≡ k + 1 + j + 1 = omega arith in
    rw (t, s, e) (pair_back f (k + 1) j b (omega arith) (omega arith))

-- a lower bit's index gives the size and the bit back
pub pair_of : (size bit : ℕ) → 2 ≤ size → bit + 2 ≤ size → size ≤ 16
    → pair_at 16 1 (low_bit_index size bit) ≡ (size, bit)
pair_of size bit least below most =
    let e : 1 + (size - 2) + 1 ≡ size = omega arith in
    pair_back 16 1 (size - 2) bit (omega arith) (omega arith) ∙ ap (λ k. (k, bit)) e
