-- Bytes whose first bits lie in the interval of some bools give these bools.
use Rattle.std.proofs.Common.{◌≡◌, ℕ, ◌+◌, ◌-◌, ◌*◌, ◌/◌, ◌^◌, ◌<◌, ◌≤◌, Bool, true, false, List, [], ◌∷◌, ◌++◌, map, length, refl, sym, ap, ◌∙◌, arith, subst}
use Rattle.std.specs.Int.Digits.{number_from_digits}
use Rattle.std.specs.List.{AllByRecursion, fold}
use Rattle.std.proofs.Math.Nat.{mul-le-mul_right, mod-eq_of_lt}
use Rattle.std.proofs.lemmas.Bool.{le-leb, lt-leb}
use Rattle.std.proofs.lemmas.List.Sums.{fold-append}
use Rattle.std.proofs.lemmas.Nat.{pow_pos, pow-add, shl-shr, mod_below}
use Rattle.bool_coder.specs.BoolStream.{Interval, opening, split, chosen, after, coded, stream, stream_length, IsBool}
use Rattle.bool_coder.specs.PlainLine.{IsKept}
use Rattle.bool_coder.specs.BoolReading.{first_bits, next_bit, reading, IsReading}
use Rattle.bool_coder.proofs.Append.{below_by_product}
use Rattle.bool_coder.proofs.Bytes.{byte_power, length-bytes, number_bytes}
use Rattle.bool_coder.proofs.FirstBits.{first_bits_shr, prefix_more, prefix_whole}
use Rattle.bool_coder.proofs.Line.{shifted, split_less, doublings_are, chosen-part, after_is, after-kept, coded-kept, opening-kept}

-- the first bits lie in the interval
pub record Holds (bytes : List ℕ) (i : Interval) : Type 0 where
  pub low : i.bottom ≤ first_bits bytes (8 + i.shifts)
  pub high : first_bits bytes (8 + i.shifts) < i.bottom + i.range

unshifted : (bytes : List ℕ) (i : Interval) (k : ℕ) → Holds bytes (shifted k i) → Holds bytes i
unshifted bytes i k h =
    let now = first_bits bytes (8 + i.shifts) in
    let e : 8 + (i.shifts + k) ≡ 8 + i.shifts + k = omega arith in
    let more = ap (λ m. first_bits bytes m) e ∙ prefix_more bytes (8 + i.shifts) k in
    let rest = mod_below (first_bits bytes (8 + i.shifts + k)) (2 ^ k) (pow_pos k) in
    let low : i.bottom < now + 1 = below_by_product i.bottom (now + 1) (2 ^ k) (omega (arith, h.low, more, rest)) in
    record { low = omega arith; high = below_by_product now (i.bottom + i.range) (2 ^ k) (omega (arith, h.high, more, rest)) }

-- the interval before a choice has them too, and they tell which choice it was
pub unchosen : (bytes : List ℕ) (i : Interval) (prob : ℕ) (bit : Bool) → split i.range prob ≤ i.range → Holds bytes (chosen i prob bit)
    → Holds bytes i × (next_bit bytes i prob ≡ bit)
unchosen bytes i prob false part h =
    (record { low = h.low; high = omega (arith, h.high) }, lt-leb (split i.range prob) (first_bits bytes (8 + i.shifts) - i.bottom) (omega (arith, h.low, h.high)))
unchosen bytes i prob true part h =
    (record { low = omega (arith, h.low); high = omega (arith, h.high) }, le-leb (split i.range prob) (first_bits bytes (8 + i.shifts) - i.bottom) (omega (arith, h.low)))

one_back : (bytes : List ℕ) (i : Interval) (prob : ℕ) (bit : Bool) → prob < 256 → IsKept i → Holds bytes (after i (prob, bit))
    → Holds bytes i × (next_bit bytes i prob ≡ bit)
one_back bytes i prob bit p kept h =
    let part = chosen-part i prob bit (omega (arith, kept.wide)) p in
    let (k, _, d) = doublings_are (chosen i prob bit).range part.some (omega (arith, part.less, kept.byte)) in
    let less = split_less i.range prob (omega (arith, kept.wide)) p in
    unchosen bytes i prob bit (omega (arith, less)) (unshifted bytes (chosen i prob bit) k (rw (after_is i prob k bit d) at h))

pub reads_back : (bytes : List ℕ) (i : Interval) (bools : List (ℕ × Bool)) → AllByRecursion IsBool bools → IsKept i → Holds bytes (fold after i bools)
    → Holds bytes i × (reading bytes i (map (λ (b : ℕ × Bool). b.0) bools) ≡ map (λ (b : ℕ × Bool). b.1) bools)
reads_back bytes i [] all kept h = (h, refl)
reads_back bytes i (b ∷ bools) all kept h =
    let rest = reads_back bytes (after i b) bools all.1 (after-kept i b.0 b.1 all.0.1 kept) h in
    let one = one_back bytes i b.0 b.1 all.0.1 kept rest.0 in
    let same = one.1 in
    (one.0, rw same (ap (λ bits. b.1 ∷ bits) rest.1))

power_of : (n s pad : ℕ) → n ≡ 8 + s + pad → 2 ^ n ≡ 2 ^ 8 * 2 ^ s * 2 ^ pad
power_of n s pad e = rw (e, pow-add 2 (8 + s) pad, pow-add 2 8 s) refl

pub length-stream : (i : Interval) → length (stream i) ≡ stream_length i.shifts
unfolding stream
length-stream i = length-bytes (stream_length i.shifts) (i.bottom * 2 ^ (8 * stream_length i.shifts - (8 + i.shifts)))

-- the number of a stream is the bottom, and zero bits
pub number_stream : (i : Interval) → IsKept i → number_from_digits 256 (stream i) ≡ i.bottom * 2 ^ (8 * stream_length i.shifts - (8 + i.shifts))
unfolding stream
number_stream i kept =
    let n = stream_length i.shifts in
    let pad = 8 * n - (8 + i.shifts) in
    let value = i.bottom * 2 ^ pad in
    let wide : 2 ^ (8 * n) ≡ 2 ^ 8 * 2 ^ i.shifts * 2 ^ pad = power_of (8 * n) i.shifts pad (omega arith) in
    let bottom : i.bottom < 2 ^ 8 * 2 ^ i.shifts = omega (arith, kept.on_line, kept.wide) in
    let room = mul-le-mul_right (2 ^ pad) bottom in
    let small : value < 2 ^ (8 * n) = rw wide (omega (arith, room, pow_pos pad)) in
    number_bytes n value ∙ rw (byte_power n) (mod-eq_of_lt small)

-- the stream of an interval begins with its bottom
pub prefix_stream : (i : Interval) → IsKept i → first_bits (stream i) (8 + i.shifts) ≡ i.bottom
prefix_stream i kept =
    let pad = 8 * stream_length i.shifts - (8 + i.shifts) in
    let whole : 8 + i.shifts + pad ≡ 0 + 8 * length (stream i) = omega (arith, length-stream i) in
    let all : first_bits (stream i) (8 + i.shifts + pad) ≡ i.bottom * 2 ^ pad =
    ap (λ m. first_bits (stream i) m) whole ∙ prefix_whole (stream i) 0 ∙ omega (arith, number_stream i kept) in
    sym (first_bits_shr (stream i) (8 + i.shifts) pad) ∙ ap (λ m. m / 2 ^ pad) all ∙ shl-shr i.bottom pad

stream_holds : (bools : List (ℕ × Bool)) → AllByRecursion IsBool bools → Holds (stream (coded bools)) (coded bools)
stream_holds bools all =
    let kept = coded-kept opening bools all opening-kept in
    let e = prefix_stream (coded bools) kept in
    record { low = omega (arith, e); high = omega (arith, e, kept.wide) }

pub read_again : (bools : List (ℕ × Bool)) → AllByRecursion IsBool bools → IsReading (stream (coded bools)) bools
read_again bools all = (reads_back (stream (coded bools)) opening bools all opening-kept (stream_holds bools all)).1

all_prefix : (xs ys : List (ℕ × Bool)) → AllByRecursion IsBool (xs ++ ys) → AllByRecursion IsBool xs × AllByRecursion IsBool ys
all_prefix [] ys all = (tt, all)
all_prefix (x ∷ xs) ys all = let rest = all_prefix xs ys all.1 in ((all.0, rest.0), rest.1)

-- a bool in the middle of a stream
pub read_in_turn : (bools rest : List (ℕ × Bool)) (prob : ℕ) (bit : Bool) → AllByRecursion IsBool (bools ++ (prob, bit) ∷ rest)
    → next_bit (stream (coded (bools ++ (prob, bit) ∷ rest))) (coded bools) prob ≡ bit
read_in_turn bools rest prob bit all =
    let whole = bools ++ (prob, bit) ∷ rest in
    let parts = all_prefix bools ((prob, bit) ∷ rest) all in
    let begun = coded-kept opening bools parts.0 opening-kept in
    let next = after-kept (coded bools) prob bit parts.1.0.1 begun in
    let at_end = stream_holds whole all in
    let parted = fold-append after opening bools ((prob, bit) ∷ rest) in
    (one_back (stream (coded whole)) (coded bools) prob bit parts.1.0.1 begun
    (reads_back (stream (coded whole)) (after (coded bools) (prob, bit)) rest parts.1.1 next (subst (λ i. Holds (stream (coded whole)) i) parted at_end)).0).1

same_cons : (p q : ℕ) (a b : Bool) (xs ys : List (ℕ × Bool)) → p ≡ q → a ≡ b → xs ≡ ys → (p, a) ∷ xs ≡ (q, b) ∷ ys
same_cons p q a b xs ys e f g = rw (e, f, g) refl

same_pairs : (xs ys : List (ℕ × Bool)) → map (λ (b : ℕ × Bool). b.0) xs ≡ map (λ (b : ℕ × Bool). b.0) ys
    → map (λ (b : ℕ × Bool). b.1) xs ≡ map (λ (b : ℕ × Bool). b.1) ys → xs ≡ ys
same_pairs [] [] e f = refl
same_pairs [] (y ∷ ys) e f = absurd (cc)
same_pairs (x ∷ xs) [] e f = absurd (cc)
same_pairs (x ∷ xs) (y ∷ ys) e f =
    let p : x.0 ≡ y.0 = cc in
    let q : x.1 ≡ y.1 = cc in
    let r : map (λ (b : ℕ × Bool). b.0) xs ≡ map (λ (b : ℕ × Bool). b.0) ys = cc in
    let s : map (λ (b : ℕ × Bool). b.1) xs ≡ map (λ (b : ℕ × Bool). b.1) ys = cc in
    same_cons x.0 y.0 x.1 y.1 xs ys p q (same_pairs xs ys r s)

pub one_list : (xs ys : List (ℕ × Bool)) → AllByRecursion IsBool xs → AllByRecursion IsBool ys
    → map (λ (b : ℕ × Bool). b.0) xs ≡ map (λ (b : ℕ × Bool). b.0) ys → stream (coded xs) ≡ stream (coded ys) → xs ≡ ys
one_list xs ys all_xs all_ys probs bytes =
    same_pairs xs ys probs (sym (read_again xs all_xs) ∙ ap (λ bs. reading bs opening (map (λ (b : ℕ × Bool). b.0) xs)) bytes
    ∙ ap (λ ps. reading (stream (coded ys)) opening ps) probs ∙ read_again ys all_ys)
