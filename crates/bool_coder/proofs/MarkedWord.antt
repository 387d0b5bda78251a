-- A word whose highest one is above its bits and the carry.
use Rattle.std.proofs.Common.{◌≡◌, ℕ, suc, ◌+◌, ◌-◌, ◌*◌, ◌%◌, ◌^◌, ◌<◌, ◌≤◌, refl, arith, lit≤, inl, inr}
use Rattle.std.proofs.Math.Nat.{pow-le-pow_right}
use Rattle.std.proofs.lemmas.Bool.{cases_lt}
use Rattle.std.proofs.lemmas.Nat.{pow_pos, pow-add, leading_top, shl_whole}
use lib.Count.{count_leading_zeros}
use Rattle.bool_coder.specs.EncoderInside.{bits_of, low_of}

-- a highest one has one place
one_place : (n i j : ℕ) → 2 ^ i ≤ n → n < 2 ^ (j + 1) → i ≤ j
one_place n i j least most = elim (cases_lt j i) [
  | inl below ↦ let high : j + 1 ≤ i = omega arith in absurd (omega (arith, pow-le-pow_right {n = 2} (lit≤ tt) high))
  | inr fine ↦ fine
]

-- a word has so many bits if its highest one is two places above them
pub bits_are : (word bits : ℕ) → bits ≤ 62 → 2 ^ (bits + 1) ≤ word → word < 2 ^ (bits + 2) → bits_of word ≡ bits
unfolding bits_of
bits_are word bits few least most =
    let highest : bits + 2 ≤ 64 = omega arith in
    let fits = pow-le-pow_right {n = 2} (lit≤ tt) highest in
    let top = leading_top 64 word (omega (arith, least, pow_pos (bits + 1))) (omega (arith, most, fits)) in
    let turned : bits + 2 ≡ bits + 1 + 1 = omega arith in
    let more : suc top.0 ≡ top.0 + 1 = omega arith in
    let no_less = one_place word (bits + 1) top.0 least (rw more at top.3) in
    let no_more = one_place word top.0 (bits + 1) top.2 (rw turned at most) in
    omega (arith, top.1, no_less, no_more)

-- a word is its bits and the carry, and a one above them
pub record IsMarked (word : ℕ) : Type 0 where
  pub is : word ≡ 2 ^ (bits_of word + 1) + low_of word
  pub below : low_of word < 2 ^ (bits_of word + 1)
  pub few : bits_of word ≤ 62
  pub zeros : count_leading_zeros 64 word + bits_of word ≡ 62

pub word-marked : (word : ℕ) → 2 ≤ word → word < 2 ^ 64 → IsMarked word
unfolding bits_of
word-marked word some fits =
    let top = leading_top 64 word (omega arith) fits in
    let more : suc top.0 ≡ top.0 + 1 = omega arith in
    let high : 1 ≤ top.0 = one_place word 1 top.0 (omega arith) (rw more at top.3) in
    let place : top.0 ≡ 62 - count_leading_zeros 64 word + 1 = omega (arith, top.1) in
    let least = rw place at top.2 in
    let most = rw (more, place, pow-add 2 (62 - count_leading_zeros 64 word + 1) 1) at top.3 in
    record { is = omega (arith, least); below = omega (arith, least, most); few = omega arith; zeros = omega (arith, top.1, high) }

-- how a word is taken apart
pub record IsApart (word zeros : ℕ) : Type 0 where
  pub few : zeros ≤ 62
  pub bits : 62 - zeros ≡ bits_of word
  pub one : 2 * 2 ^ (62 - zeros) % 2 ^ 64 ≡ 2 ^ (bits_of word + 1)
  pub within : 2 ^ (bits_of word + 1) ≤ word

pub word_apart : (word : ℕ) → 2 ≤ word → word < 2 ^ 64 → IsApart word (count_leading_zeros 64 word)
word_apart word some fits =
    let m = word-marked word some fits in
    let bits : 62 - count_leading_zeros 64 word ≡ bits_of word = omega (arith, m.zeros) in
    record {
      few = omega (arith, m.zeros);
      bits = bits;
      one = rw (bits, shl_whole 2 2 (bits_of word) 64 (lit≤ tt) (omega (arith, m.few)), pow-add 2 (bits_of word) 1) (omega arith);
      within = omega (arith, m.is);
    }

-- a number of so many bits and a carry, with a one above, is a word of so many bits
pub marked_bits : (bits low : ℕ) → bits ≤ 62 → low < 2 ^ (bits + 1) → bits_of (2 ^ (bits + 1) + low) ≡ bits
marked_bits bits low few below =
    let turned : bits + 2 ≡ bits + 1 + 1 = omega arith in
    bits_are (2 ^ (bits + 1) + low) bits few (omega arith) (rw (turned, pow-add 2 (bits + 1) 1) (omega (arith, below)))

pub marked_low : (bits low : ℕ) → bits ≤ 62 → low < 2 ^ (bits + 1) → low_of (2 ^ (bits + 1) + low) ≡ low
marked_low bits low few below = rw (marked_bits bits low few below) (omega arith)

-- a word of at least eight bits, of less than forty, and of at least forty
pub bits_begun : (word : ℕ) → IsMarked word → 2 ^ 9 ≤ word → 8 ≤ bits_of word
bits_begun word m begun =
    let most : word < 2 ^ (bits_of word + 1 + 1) = rw (pow-add 2 (bits_of word + 1) 1) (omega (arith, m.is, m.below)) in
    omega (arith, one_place word 9 (bits_of word + 1) begun most)

pub bits_short : (word : ℕ) → IsMarked word → word < 2 ^ 41 → bits_of word < 40
bits_short word m short = omega (arith, one_place word (bits_of word + 1) 40 (omega (arith, m.is)) short)

pub bits_full : (word : ℕ) → IsMarked word → 2 ^ 41 ≤ word → 40 ≤ bits_of word
bits_full word m full =
    let most : word < 2 ^ (bits_of word + 1 + 1) = rw (pow-add 2 (bits_of word + 1) 1) (omega (arith, m.is, m.below)) in
    omega (arith, one_place word 41 (bits_of word + 1) full most)

-- the one above the carry adds nothing to it
pub low_carry : (word range : ℕ) → IsMarked word → word + range ≤ 2 ^ (bits_of word + 2) → low_of word + range ≤ 2 ^ (bits_of word + 1)
low_carry word range m most =
    let twice = pow-add 2 (bits_of word) 2 in
    let once = pow-add 2 (bits_of word) 1 in
    let is = m.is in
    omega (arith, most, twice, once, is)

-- the word of a new encoder
pub bits_of-first : bits_of 512 ≡ 8
unfolding bits_of count_leading_zeros
bits_of-first = refl
