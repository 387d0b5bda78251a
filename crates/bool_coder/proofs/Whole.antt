-- When the bytes are the stream of the bools that were taken.
use Rattle.std.proofs.Common.{◌≡◌, ℕ, ◌+◌, ◌-◌, ◌*◌, ◌/◌, ◌%◌, ◌^◌, ◌<◌, ◌≤◌, min, Bool, List, length, refl, sym, ap, ◌∙◌, arith, inl, inr}
use Rattle.std.specs.Int.Digits.{number_from_digits, AllBelowBase}
use Rattle.std.proofs.Math.Nat.{min-eq_left, min-eq_right, mod-eq_of_lt, div-eq_of_lt}
use Rattle.std.proofs.lemmas.Bool.{cases_lt}
use Rattle.std.proofs.lemmas.Nat.{pow_pos, pow-add, shl-shr, shr_split, mod_low}
use Rattle.bool_coder.specs.BoolStream.{Interval, opening, coded, stream, stream_length}
use Rattle.bool_coder.specs.BoolReading.{first_bits}
use Rattle.bool_coder.specs.DecoderSeen.{end_position, Reads}
use Rattle.bool_coder.specs.DecoderInside.{seen_in, IsWindow}
use Rattle.bool_coder.proofs.Bytes.{bytes_number}
use Rattle.bool_coder.proofs.FirstBits.{prefix_more, prefix_whole}
use Rattle.bool_coder.proofs.Line.{coded-kept, opening-kept}
use Rattle.bool_coder.proofs.ReadBack.{length-stream, prefix_stream, number_stream}

-- two numbers with one minimum, of which one lies below the bound
same_below : (a b end : ℕ) → min a end ≡ min b end → a < end → b ≡ a
same_below a b end e less = elim (cases_lt b end) [
  | inl under ↦
      let x : a ≤ end = omega arith in
      let y : b ≤ end = omega arith in
      sym (min-eq_left y) ∙ sym e ∙ min-eq_left x
  | inr over ↦
      let x : a ≤ end = omega arith in
      let f : a ≡ end = sym (min-eq_left x) ∙ e ∙ min-eq_right over in
      absurd (omega arith)
]

same_product : (m n k : ℕ) → m * 2 ^ k ≡ n * 2 ^ k → m ≡ n
same_product m n k e = sym (shl-shr m k) ∙ ap (λ p. p / 2 ^ k) e ∙ shl-shr n k

-- bytes of the stream's length and number are the stream
same_stream : (bytes : List ℕ) (i : Interval) → AllBelowBase 256 bytes → length bytes ≡ stream_length i.shifts
    → number_from_digits 256 bytes ≡ i.bottom * 2 ^ (8 * length bytes - (8 + i.shifts)) → bytes ≡ stream i
unfolding stream
same_stream bytes i below long number = sym (bytes_number bytes below) ∙ rw (number, long) refl

-- the bits that were fetched are all the bytes have, and zero bits
fetched_all : (bytes : List ℕ) (s f bits : ℕ) → length bytes ≡ stream_length s → 8 * f ≡ 8 + s + bits → length bytes ≤ f
    → first_bits bytes (8 + s + bits) ≡ number_from_digits 256 bytes * 2 ^ (8 * f - 8 * length bytes)
fetched_all bytes s f bits long e h =
    let d : 8 + s + bits ≡ 8 * f - 8 * length bytes + 8 * length bytes = omega (arith, e) in ap (λ m. first_bits bytes m) d ∙ prefix_whole bytes (8 * f - 8 * length bytes)

power_join : (b p q bits : ℕ) → bits ≡ p + q → b * 2 ^ p * 2 ^ q ≡ b * 2 ^ bits
power_join b p q bits e = rw (e, pow-add 2 p q) (omega arith)

shifted_number : (b s f bits l : ℕ) → 8 * f ≡ 8 + s + bits → l ≤ f → 8 + s ≤ 8 * l → b * 2 ^ (8 * l - (8 + s)) * 2 ^ (8 * f - 8 * l) ≡ b * 2 ^ bits
shifted_number b s f bits l e h g = power_join b (8 * l - (8 + s)) (8 * f - 8 * l) bits (omega (arith, e))

pub exact_from : (bytes : List ℕ) (f value bits range : ℕ) (bools : List (ℕ × Bool)) → IsWindow bytes f value bits range
    → Reads bools (seen_in bytes f value bits range) → value ≡ 0 → f - bits / 8 ≡ length bytes → bytes ≡ stream (coded bools)
exact_from bytes f value bits range bools w r none long =
    let i = coded bools in
    let s : i.shifts ≡ 8 * f - 8 - bits = same_below (8 * f - 8 - bits) i.shifts (end_position bytes) r.position (omega (arith, long, w.begun, w.some)) in
    let e : 8 * f ≡ 8 + i.shifts + bits = omega (arith, s, w.begun) in
    let size : length bytes ≡ stream_length i.shifts = omega (arith, e, long, w.begun) in
    let rest : first_bits bytes (8 + i.shifts + bits) % 2 ^ bits ≡ 0 =
    ap (λ m. first_bits bytes m % 2 ^ bits) (sym e) ∙ sym w.next ∙ ap (λ v. v % 2 ^ bits) none ∙ mod-eq_of_lt (pow_pos bits) in
    let offset : value / 2 ^ bits ≡ 0 = ap (λ v. v / 2 ^ bits) none ∙ div-eq_of_lt (pow_pos bits) in
    let low : first_bits bytes (8 + i.shifts) ≡ i.bottom = omega (arith, r.bottom, offset) in
    let more : first_bits bytes (8 + i.shifts + bits) ≡ i.bottom * 2 ^ bits = prefix_more bytes (8 + i.shifts) bits ∙ rw (low, rest) (omega arith) in
    let whole = fetched_all bytes i.shifts f bits size e (omega (arith, long)) in
    let number = same_product (number_from_digits 256 bytes) (i.bottom * 2 ^ (8 * length bytes - (8 + i.shifts))) (8 * f - 8 * length bytes)
    (sym whole ∙ more ∙ sym (shifted_number i.bottom i.shifts f bits (length bytes) e (omega (arith, long)) (omega (arith, size)))) in
    same_stream bytes i w.bytes_below size number

pub exact_to : (bytes : List ℕ) (f value bits range : ℕ) (bools : List (ℕ × Bool)) → IsWindow bytes f value bits range
    → Reads bools (seen_in bytes f value bits range) → bytes ≡ stream (coded bools) → (value ≡ 0) × (f - bits / 8 ≡ length bytes)
exact_to bytes f value bits range bools w r same =
    let i = coded bools in
    let kept = coded-kept opening bools r.probs opening-kept in
    let size : length bytes ≡ stream_length i.shifts = ap length same ∙ length-stream i in
    let s : 8 * f - 8 - bits ≡ i.shifts = same_below i.shifts (8 * f - 8 - bits) (end_position bytes) (sym r.position) (omega (arith, size)) in
    let e : 8 * f ≡ 8 + i.shifts + bits = omega (arith, s, w.begun) in
    let long : f - bits / 8 ≡ length bytes = omega (arith, e, size) in
    let low : first_bits bytes (8 + i.shifts) ≡ i.bottom = ap (λ bs. first_bits bs (8 + i.shifts)) same ∙ prefix_stream i kept in
    let offset : value / 2 ^ bits ≡ 0 = omega (arith, r.bottom, low) in
    let number : number_from_digits 256 bytes ≡ i.bottom * 2 ^ (8 * length bytes - (8 + i.shifts)) =
    ap (λ bs. number_from_digits 256 bs) same ∙ number_stream i kept ∙ ap (λ l. i.bottom * 2 ^ (8 * l - (8 + i.shifts))) (sym size) in
    let whole : first_bits bytes (8 + i.shifts + bits) ≡ i.bottom * 2 ^ bits + 0 =
    fetched_all bytes i.shifts f bits size e (omega (arith, long)) ∙ ap (λ n. n * 2 ^ (8 * f - 8 * length bytes)) number
    ∙ shifted_number i.bottom i.shifts f bits (length bytes) e (omega (arith, long)) (omega (arith, size)) ∙ omega arith in
    let rest : value % 2 ^ bits ≡ 0 =
    w.next ∙ ap (λ m. first_bits bytes m % 2 ^ bits) e ∙ ap (λ m. m % 2 ^ bits) whole ∙ mod_low i.bottom bits 0 (pow_pos bits) in
    let none : value ≡ 0 = sym (shr_split value bits) ∙ rw (offset, rest) (omega arith) in
    (none, long)
