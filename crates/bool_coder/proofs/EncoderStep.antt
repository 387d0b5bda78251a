-- A bool coded in the word is a bool coded in the whole interval.
use Rattle.std.proofs.Common.{◌≡◌, ℕ, ◌+◌, ◌*◌, ◌^◌, ◌<◌, ◌≤◌, Bool, true, false, List, refl, sym, ap, ◌∙◌, arith, lit≤}
use Rattle.std.proofs.Math.Nat.{mul-le-mul_right, pow-le-pow_right, le-mul_of_pos_right}
use Rattle.std.proofs.lemmas.Nat.{pow_pos, pow-add}
use Rattle.bool_coder.specs.BoolStream.{Interval, chosen, after}
use Rattle.bool_coder.specs.EncoderInside.{bits_of, low_of, kept}
use Rattle.bool_coder.proofs.MarkedWord.{word-marked, marked_bits, bits_begun, bits_short, low_carry}
use Rattle.bool_coder.proofs.EncoderWord.{kept_at, kept_marked}
use Rattle.bool_coder.proofs.Line.{shifted, same_interval, Doublings, after_is, chosen-part}

-- the word as an interval of its own
abbrev in_word : ℕ → ℕ → Interval
in_word low range = record { bottom = low; range = range; shifts = 0 }

-- choosing in the word is choosing in the whole
kept-chosen : (written : List ℕ) (low bits range prob : ℕ) (bit : Bool)
    → chosen (kept_at written low bits range) prob bit ≡ kept_at written (chosen (in_word low range) prob bit).bottom bits (chosen (in_word low range) prob bit).range
kept-chosen written low bits range prob false = refl
kept-chosen written low bits range prob true = same_interval _ _ (omega arith) refl refl

-- shifting the word is shifting the whole
kept-shifted : (written : List ℕ) (low bits range k : ℕ) → 8 ≤ bits
    → kept_at written (low * 2 ^ k) (bits + k) (range * 2 ^ k) ≡ shifted k (kept_at written low bits range)
kept-shifted written low bits range k begun =
    same_interval (kept_at written (low * 2 ^ k) (bits + k) (range * 2 ^ k)) (shifted k (kept_at written low bits range)) (rw pow-add (omega arith)) refl (omega arith)

-- a bool coded in the word
after_at : (written : List ℕ) (low bits range prob k : ℕ) (bit : Bool) → 8 ≤ bits → Doublings (chosen (in_word low range) prob bit).range k
    → kept_at written ((chosen (in_word low range) prob bit).bottom * 2 ^ k) (bits + k) ((chosen (in_word low range) prob bit).range * 2 ^ k)
    ≡ after (kept_at written low bits range) (prob, bit)
after_at written low bits range prob k bit begun d =
    let i = chosen (in_word low range) prob bit in
    let e = kept-chosen written low bits range prob bit in
    let same : i.range ≡ (chosen (kept_at written low bits range) prob bit).range = ap (λ (j : Interval). j.range) (sym e) in
    kept-shifted written i.bottom bits i.range k begun ∙ ap (shifted k) (sym e) ∙ sym (after_is (kept_at written low bits range) prob k bit (rw same at d))

kept-after : (written : List ℕ) (low bits range prob k : ℕ) (bit : Bool) (low' range' : ℕ) → 8 ≤ bits
    → low' ≡ (chosen (in_word low range) prob bit).bottom → range' ≡ (chosen (in_word low range) prob bit).range → Doublings range' k
    → kept_at written (low' * 2 ^ k) (bits + k) (range' * 2 ^ k) ≡ after (kept_at written low bits range) (prob, bit)
kept-after written low bits range prob k bit low' range' begun l r d = rw (l, r) (after_at written low bits range prob k bit begun (rw r at d))

-- a choice takes no carry more
chosen_word : (low bits range prob : ℕ) (bit : Bool) (low' range' : ℕ) → 128 ≤ range → range ≤ 255 → prob < 256 → low + range ≤ 2 ^ (bits + 1)
    → low' ≡ (chosen (in_word low range) prob bit).bottom → range' ≡ (chosen (in_word low range) prob bit).range → (0 < range') × (range' < 256) × (low' + range' ≤ 2 ^ (bits + 1))
chosen_word low bits range prob bit low' range' wide byte p most l r =
    let part = chosen-part (in_word low range) prob bit (omega arith) p in
    rw (l, r) (part.some, omega (arith, part.less), omega (arith, part.top))

-- nor does a shift
one_carry_more : (low bits range k : ℕ) → low + range ≤ 2 ^ (bits + 1) → low * 2 ^ k + range * 2 ^ k ≤ 2 ^ (bits + k + 1)
one_carry_more low bits range k most =
    let e : bits + k + 1 ≡ bits + 1 + k = omega arith in rw (e, pow-add 2 (bits + 1) k) (omega (arith, mul-le-mul_right (2 ^ k) most))

-- the part that a bool keeps lies as far above the word's beginning as it lies above the low bits'
choice_above : (top low range prob : ℕ) (bit : Bool)
    → ((chosen (in_word (top + low) range) prob bit).bottom ≡ top + (chosen (in_word low range) prob bit).bottom)
    × ((chosen (in_word (top + low) range) prob bit).range ≡ (chosen (in_word low range) prob bit).range)
    × (low ≤ (chosen (in_word low range) prob bit).bottom)
choice_above top low range prob false = (refl, refl, omega arith)
choice_above top low range prob true = (omega arith, refl, omega arith)

-- a word and a range after a bool
pub record Stepped (word range prob : ℕ) (bit : Bool) (word' range' : ℕ) : Type 0 where
  pub coded : (written : List ℕ) → kept written word' range' ≡ after (kept written word range) (prob, bit)
  pub no_less : word ≤ word'
  pub few_more : word' < 2 ^ 48
  pub one_carry : word' + range' ≤ 2 ^ (bits_of word' + 2)

-- the product is a word of so many bits more
record Shifted (low bits k : ℕ) (word' : ℕ) : Type 0 where
  is : word' ≡ 2 ^ (bits + k + 1) + low * 2 ^ k
  below : low * 2 ^ k < 2 ^ (bits + k + 1)
  few : bits + k ≤ 62
  few_more : word' < 2 ^ 48

word_shifted : (low bits range k : ℕ) → bits < 40 → k ≤ 7 → 0 < range → low + range ≤ 2 ^ (bits + 1) → Shifted low bits k ((2 ^ (bits + 1) + low) * 2 ^ k)
word_shifted low bits range k short few some most =
    let e : bits + k + 1 ≡ bits + 1 + k = omega arith in
    let power : 2 ^ (bits + k + 1) ≡ 2 ^ (bits + 1) * 2 ^ k = rw e (pow-add 2 (bits + 1) k) in
    let under : low + 1 ≤ 2 ^ (bits + 1) = omega arith in
    let product = mul-le-mul_right (2 ^ k) under in
    let less : bits + k + 1 ≤ 47 = omega arith in
    let all : 2 ^ (bits + k + 1) ≤ 2 ^ 47 = pow-le-pow_right {n = 2} (lit≤ tt) less in
    let positive = pow_pos k in
    let below : low * 2 ^ k < 2 ^ (bits + k + 1) = omega (arith, power, product, positive) in
    record { is = omega (arith, power); below = below; few = omega arith; few_more = omega (arith, power, below, all) }

pub stepped : (word range prob k : ℕ) (bit : Bool) (low' range' : ℕ) → 2 ^ 9 ≤ word → word < 2 ^ 41 → 128 ≤ range → range ≤ 255 → prob < 256
    → word + range ≤ 2 ^ (bits_of word + 2)
    → low' ≡ (chosen (in_word word range) prob bit).bottom → range' ≡ (chosen (in_word word range) prob bit).range → Doublings range' k
    → Stepped word range prob bit (low' * 2 ^ k) (range' * 2 ^ k)
stepped word range prob k bit low' range' begun short wide byte p most l r d =
    let m = word-marked word (omega arith) (omega (arith, short)) in
    let bits = bits_of word in
    let low = low_of word in
    let top = 2 ^ (bits + 1) in
    let above = choice_above top low range prob bit in
    let c = chosen (in_word low range) prob bit in
    let part = chosen_word low bits range prob bit c.bottom c.range wide byte p (low_carry word range m most) refl refl in
    let is_low : low' ≡ top + c.bottom = l ∙ ap (λ w. (chosen (in_word w range) prob bit).bottom) m.is ∙ above.0 in
    let is_range : range' ≡ c.range = r ∙ ap (λ w. (chosen (in_word w range) prob bit).range) m.is ∙ above.1 in
    let moved = word_shifted c.bottom bits c.range k (bits_short word m short) d.few part.0 part.2 in
    let is_word : low' * 2 ^ k ≡ 2 ^ (bits + k + 1) + c.bottom * 2 ^ k = ap (λ w. w * 2 ^ k) is_low ∙ moved.is in
    let carry = one_carry_more c.bottom bits c.range k part.2 in
    let doubled : range' * 2 ^ k ≡ c.range * 2 ^ k = ap (λ n. n * 2 ^ k) is_range in
    let least : word ≤ low' = omega (arith, is_low, m.is, above.2) in
    let more : low' ≤ low' * 2 ^ k = le-mul_of_pos_right low' (pow_pos k) in
    let twice = pow-add 2 (bits + k) 2 in
    let once = pow-add 2 (bits + k) 1 in
    record {
      coded = λ written. rw is_word (kept_marked written (bits + k) (c.bottom * 2 ^ k) (range' * 2 ^ k) moved.few moved.below)
          ∙ kept-after written low bits range prob k bit c.bottom range' (bits_begun word m begun) refl is_range d;
      no_less = omega (arith, least, more);
      few_more = rw is_low moved.few_more;
      one_carry = rw (is_word, marked_bits (bits + k) (c.bottom * 2 ^ k) moved.few moved.below) (omega (arith, carry, doubled, twice, once));
    }
