-- The word of the decoder, and what contracts see of it.
use Rattle.std.proofs.Common.{◌≡◌, ℕ, ◌+◌, ◌-◌, ◌*◌, ◌/◌, ◌%◌, ◌^◌, ◌<◌, ◌≤◌, min, Bool, true, false, List, length, refl, sym, ap, ◌∙◌, subst, arith, inl, inr}
use Rattle.std.proofs.Math.Nat.{mul-le-mul_right, min-eq_right}
use Rattle.std.proofs.lemmas.Bool.{cases_lt, leb-false}
use Rattle.std.proofs.lemmas.Nat.{pow_pos, pow-add, shr-shr, shr_split, shr_high, mod_low, mod_below, mod-pow-add}
use Rattle.std.specs.Prelude.{nat_le}
use Rattle.bool_coder.specs.BoolStream.{split, chosen}
use Rattle.bool_coder.specs.BoolReading.{first_bits}
use Rattle.bool_coder.specs.DecoderSeen.{Seen, end_position, seen_after}
use Rattle.bool_coder.specs.DecoderInside.{seen_in, IsWindow}
use Rattle.bool_coder.proofs.FirstBits.{first_bits_shr, first_bits_past, prefix_at_position}
use Rattle.bool_coder.proofs.Line.{Doublings, split_less}
use Rattle.bool_coder.proofs.BoolsTaken.{from_zero, seen_after_is, chosen_offset, min_more}

abbrev seen_with : List ℕ → ℕ → ℕ → ℕ → Seen
seen_with bytes o r s = record { bytes = bytes; offset = o; range = r; position = s }

same_seen : (bytes : List ℕ) (o p r q s t : ℕ) → o ≡ p → r ≡ q → s ≡ t
    → seen_with bytes o r s ≡ seen_with bytes p q t
same_seen bytes o p r q s t e f g = rw (e, f, g) refl

-- a word that the next bits of n end, read at j bits from its end
record Parts (n o k j v : ℕ) : Type 0 where
  pub high : v / 2 ^ j ≡ o * 2 ^ k + n / 2 ^ j % 2 ^ k
  pub low : v % 2 ^ j ≡ n % 2 ^ j

value_parts : (n o k j v : ℕ) → v ≡ o * 2 ^ (k + j) + n % 2 ^ (k + j) → Parts n o k j v
value_parts n o k j v e =
    let rest = mod_below n (2 ^ j) (pow_pos j) in
    let top = o * 2 ^ k + n / 2 ^ j % 2 ^ k in
    let whole : v ≡ top * 2 ^ j + n % 2 ^ j = e ∙ rw (mod-pow-add n k j, pow-add 2 k j) (omega arith) in
    record { high = rw whole (shr_high top j (n % 2 ^ j) rest); low = rw whole (mod_low top j (n % 2 ^ j) rest) }

-- the word stays below the part that it lies in
chosen_below : (value bits range prob : ℕ) (bit : Bool) (value' : ℕ) → split range prob ≤ range → value < range * 2 ^ bits
    → bit ≡ nat_le (split range prob) (value / 2 ^ bits)
    → value' + (chosen (record { bottom = 0; range = range; shifts = 0 }) prob bit).bottom * 2 ^ bits ≡ value
    → value' < (chosen (record { bottom = 0; range = range; shifts = 0 }) prob bit).range * 2 ^ bits
chosen_below value bits range prob false value' part below bit e =
    let less = leb-false (split range prob) (value / 2 ^ bits) (sym bit) in
    let more : value / 2 ^ bits + 1 ≤ split range prob = omega arith in
    let product = mul-le-mul_right (2 ^ bits) more in
    omega (arith, e, product, shr_split value bits, mod_below value (2 ^ bits) (pow_pos bits))
chosen_below value bits range prob true value' part below bit e =
    let whole : range - split range prob + split range prob ≡ range = omega arith in
    let product : (range - split range prob + split range prob) * 2 ^ bits ≡ range * 2 ^ bits = ap (λ r. r * 2 ^ bits) whole in
    omega (arith, e, product, below)

same-chosen : (seen : Seen) (prob : ℕ) (bit : Bool)
    → ((chosen (from_zero seen) prob bit).bottom ≡ (chosen (record { bottom = 0; range = seen.range; shifts = 0 }) prob bit).bottom)
    × ((chosen (from_zero seen) prob bit).range ≡ (chosen (record { bottom = 0; range = seen.range; shifts = 0 }) prob bit).range)
same-chosen seen prob false = (refl, refl)
same-chosen seen prob true = (refl, refl)

-- the word less where the part begins: the offset is less by so much, and the next bits are the same
word_less : (value bits value' b : ℕ) → value' + b * 2 ^ bits ≡ value → b ≤ value / 2 ^ bits → value' ≡ (value / 2 ^ bits - b) * 2 ^ bits + value % 2 ^ bits
word_less value bits value' b e h =
    let o : value / 2 ^ bits - b + b ≡ value / 2 ^ bits = omega arith in
    let product : (value / 2 ^ bits - b + b) * 2 ^ bits ≡ value / 2 ^ bits * 2 ^ bits = ap (λ n. n * 2 ^ bits) o in
    omega (arith, e, product, shr_split value bits)

offset_less : (o b k x y : ℕ) → b ≤ o → x ≡ y → (o - b) * 2 ^ k + x ≡ o * 2 ^ k + y - b * 2 ^ k
offset_less o b k x y h e =
    let rest : o - b + b ≡ o = omega arith in
    let product : (o - b + b) * 2 ^ k ≡ o * 2 ^ k = ap (λ n. n * 2 ^ k) rest in
    omega (arith, product, e)

min_again : (s k end : ℕ) → min (s + k) end ≡ min (min s end + k) end
min_again s k end = sym (min_more s k (min s end) end refl)

-- a bool taken from the word is a bool taken from what contracts see
taken_at : (bytes : List ℕ) (fetched value j k range prob value' part : ℕ) (bit : Bool) → prob < 256
    → IsWindow bytes fetched value (k + j) range
    → bit ≡ nat_le (split range prob) (value / 2 ^ (k + j))
    → value' + (chosen (record { bottom = 0; range = range; shifts = 0 }) prob bit).bottom * 2 ^ (k + j) ≡ value
    → part ≡ (chosen (record { bottom = 0; range = range; shifts = 0 }) prob bit).range
    → Doublings part k
    → IsWindow bytes fetched value' j (part * 2 ^ k) × (seen_in bytes fetched value' j (part * 2 ^ k) ≡ seen_after (seen_in bytes fetched value (k + j) range) prob)
taken_at bytes fetched value j k range prob value' part bit p w is_bit is_value is_part d =
    let n = first_bits bytes (8 * fetched) in
    let seen = seen_in bytes fetched value (k + j) range in
    let start = (chosen (record { bottom = 0; range = range; shifts = 0 }) prob bit).bottom in
    let same = same-chosen seen prob bit in
    let within : start ≤ value / 2 ^ (k + j) = rw same.0 at (chosen_offset seen prob bit (sym is_bit)) in
    let less = split_less range prob (omega (arith, w.wide)) p in
    let below = rw (← is_part, pow-add 2 k j) at (chosen_below value (k + j) range prob bit value' (omega (arith, less)) w.below is_bit is_value) in
    let parts = value_parts n (value / 2 ^ (k + j) - start) k j value' (word_less value (k + j) value' start is_value within ∙ rw (w.next) refl) in
    let begun : 8 * fetched ≡ 8 + (8 * fetched - 8 - (k + j) + k) + j = omega (arith, w.begun) in
    let next : n / 2 ^ j ≡ first_bits bytes (8 + (8 * fetched - 8 - (k + j) + k)) = ap (λ m. first_bits bytes m / 2 ^ j) begun ∙ first_bits_shr bytes (8 + (8 * fetched - 8 - (k + j) + k)) j in
    let position : n / 2 ^ j % 2 ^ k ≡ first_bits bytes (8 + (seen.position + k)) % 2 ^ k = ap (λ m. m % 2 ^ k) next ∙ prefix_at_position bytes (8 * fetched - 8 - (k + j)) k w.some in
    let offset : value' / 2 ^ j ≡ seen.offset * 2 ^ k + first_bits bytes (8 + (seen.position + k)) % 2 ^ k - start * 2 ^ k
    = parts.high ∙ offset_less (value / 2 ^ (k + j)) start k (n / 2 ^ j % 2 ^ k) (first_bits bytes (8 + (seen.position + k)) % 2 ^ k) within position in
    let far : 8 * fetched - 8 - j ≡ 8 * fetched - 8 - (k + j) + k = omega (arith, w.begun) in
    let at_position : min (8 * fetched - 8 - j) (end_position bytes) ≡ min (seen.position + k) (end_position bytes)
    = ap (λ m. min m (end_position bytes)) far ∙ min_again (8 * fetched - 8 - (k + j)) k (end_position bytes) in
    let doubled : part * 2 ^ k ≡ (chosen (from_zero seen) prob bit).range * 2 ^ k = ap (λ r. r * 2 ^ k) (is_part ∙ sym same.1) in
    let shown = seen_after_is seen prob k bit (sym is_bit) (rw (is_part ∙ sym same.1) at d) in (
      record {
        some = w.some;
        bytes_below = w.bytes_below;
        wide = d.enough;
        byte = d.no_more;
        short = omega (arith, w.short);
        begun = omega (arith, w.begun);
        within = w.within;
        below = omega (arith, below);
        next = parts.low;
      },
      same_seen bytes _ _ _ _ _ _ (offset ∙ rw same.0 refl) doubled at_position ∙ sym shown,
    )

pub window_taken : (bytes : List ℕ) (fetched value bits k range prob value' part : ℕ) (bit : Bool) → prob < 256 → k ≤ bits
    → IsWindow bytes fetched value bits range
    → bit ≡ nat_le (split range prob) (value / 2 ^ bits)
    → value' + (chosen (record { bottom = 0; range = range; shifts = 0 }) prob bit).bottom * 2 ^ bits ≡ value
    → part ≡ (chosen (record { bottom = 0; range = range; shifts = 0 }) prob bit).range
    → Doublings part k
    → IsWindow bytes fetched value' (bits - k) (part * 2 ^ k) × (seen_in bytes fetched value' (bits - k) (part * 2 ^ k) ≡ seen_after (seen_in bytes fetched value bits range) prob)
window_taken bytes fetched value bits k range prob value' part bit p few w is_bit is_value is_part d =
    let e : bits ≡ k + (bits - k) = omega arith in
    let P : ℕ → Type 0 = λ m. IsWindow bytes fetched value m range in
    let Q : ℕ → Type 0 = λ m. bit ≡ nat_le (split range prob) (value / 2 ^ m) in
    let R : ℕ → Type 0 = λ m. value' + (chosen (record { bottom = 0; range = range; shifts = 0 }) prob bit).bottom * 2 ^ m ≡ value in
    let taken = taken_at bytes fetched value (bits - k) k range prob value' part bit p (subst P e w) (subst Q e is_bit) (subst R e is_value) is_part d in
    (taken.0, taken.1 ∙ ap (λ m. seen_after (seen_in bytes fetched value m range) prob) (sym e))

-- the bytes that were fetched, and six more, or as many as before where all before were zero
record Moved (bytes : List ℕ) (fetched fetched' bits six : ℕ) : Type 0 where
  pub begun : 8 + (bits + 48) ≤ 8 * fetched'
  pub next : first_bits bytes (8 * fetched) % 2 ^ bits * 2 ^ 48 + six ≡ first_bits bytes (8 * fetched') % 2 ^ (bits + 48)
  pub position : min (8 * fetched' - 8 - (bits + 48)) (end_position bytes) ≡ min (8 * fetched - 8 - bits) (end_position bytes)

moved_near : (bytes : List ℕ) (fetched fetched' bits six : ℕ) → 8 + bits ≤ 8 * fetched → fetched' ≡ fetched + 6
    → six ≡ first_bits bytes (8 * fetched + 48) % 2 ^ 48 → Moved bytes fetched fetched' bits six
moved_near bytes fetched fetched' bits six begun e is_six =
    let f : 8 * fetched' ≡ 8 * fetched + 48 = omega (arith, e) in
    let position : 8 * fetched' - 8 - (bits + 48) ≡ 8 * fetched - 8 - bits = omega (arith, e) in
    record {
      begun = omega (arith, e);
      next = rw f (sym (mod-pow-add (first_bits bytes (8 * fetched + 48)) bits 48 ∙ rw (first_bits_shr bytes (8 * fetched) 48, ← is_six) refl));
      position = ap (λ m. min m (end_position bytes)) position;
    }

moved_far : (bytes : List ℕ) (fetched fetched' bits six : ℕ) → bits < 7 → length bytes + 8 ≤ fetched → fetched' ≡ fetched
    → six ≡ first_bits bytes (8 * fetched + 48) % 2 ^ 48 → Moved bytes fetched fetched' bits six
moved_far bytes fetched fetched' bits six few far e is_six =
    let none : first_bits bytes (8 * fetched) % 2 ^ bits ≡ 0 = first_bits_past bytes (8 * fetched - bits) bits (8 * fetched) (omega arith) (omega arith) in
    let all : first_bits bytes (8 * fetched') % 2 ^ (bits + 48) ≡ 0 = first_bits_past bytes (8 * fetched' - (bits + 48)) (bits + 48) (8 * fetched') (omega (arith, e)) (omega (arith, e)) in
    let zero : six ≡ 0 = is_six ∙ first_bits_past bytes (8 * fetched) 48 (8 * fetched + 48) refl (omega arith) in
    let now : end_position bytes ≤ 8 * fetched' - 8 - (bits + 48) = omega (arith, e) in
    let before : end_position bytes ≤ 8 * fetched - 8 - bits = omega arith in
    record { begun = omega (arith, e); next = rw (none, all, zero) refl; position = min-eq_right now ∙ sym (min-eq_right before) }

-- the word and six bytes more
pub window_filled : (bytes : List ℕ) (fetched value bits range six fetched' : ℕ) → IsWindow bytes fetched value bits range → bits < 7
    → six ≡ first_bits bytes (8 * fetched + 48) % 2 ^ 48 → (fetched < length bytes + 8 → fetched' ≡ fetched + 6) → (length bytes + 8 ≤ fetched → fetched' ≡ fetched)
    → IsWindow bytes fetched' (value * 2 ^ 48 + six) (bits + 48) range × (seen_in bytes fetched' (value * 2 ^ 48 + six) (bits + 48) range ≡ seen_in bytes fetched value bits range)
window_filled bytes fetched value bits range six fetched' w few is_six on still =
    let word = value * 2 ^ 48 + six in
    let small : six < 2 ^ 48 = omega (arith, is_six) in
    let top : word / 2 ^ 48 ≡ value = shr_high value 48 six small in
    let low : word % 2 ^ 48 ≡ six = mod_low value 48 six small in
    let turned : bits + 48 ≡ 48 + bits = omega arith in
    let offset : word / 2 ^ (bits + 48) ≡ value / 2 ^ bits = ap (λ m. word / 2 ^ m) turned ∙ sym (shr-shr word 48 bits) ∙ ap (λ m. m / 2 ^ bits) top in
    let rest : word % 2 ^ (bits + 48) ≡ first_bits bytes (8 * fetched) % 2 ^ bits * 2 ^ 48 + six = mod-pow-add word bits 48 ∙ rw (top, low, w.next) refl in
    let more : value + 1 ≤ range * 2 ^ bits = omega (arith, w.below) in
    let below = mul-le-mul_right (2 ^ 48) more in
    let moved = elim (cases_lt fetched (length bytes + 8)) as (λ _. Moved bytes fetched fetched' bits six) [
      | inl near ↦ moved_near bytes fetched fetched' bits six w.begun (on near) is_six
      | inr far ↦ moved_far bytes fetched fetched' bits six few far (still far) is_six
    ] in (
      record {
        some = w.some;
        bytes_below = w.bytes_below;
        wide = w.wide;
        byte = w.byte;
        short = omega arith;
        begun = moved.begun;
        within = elim (cases_lt fetched (length bytes + 8)) [ inl near ↦ omega (arith, on near) | inr far ↦ omega (arith, still far, w.within) ];
        below = rw (pow-add 2 bits 48) (omega (arith, below, small));
        next = rest ∙ moved.next;
      },
      same_seen bytes _ _ _ _ _ _ offset refl moved.position,
    )
