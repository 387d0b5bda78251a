-- The word and the whole bytes, as one interval.
use Rattle.std.proofs.Common.{◌≡◌, ℕ, ◌+◌, ◌-◌, ◌*◌, ◌/◌, ◌%◌, ◌^◌, ◌<◌, ◌≤◌, Bool, List, [], length, refl, sym, ap, ◌∙◌, arith, lit≤, subst, None, Some, Option, is_some, if◌then◌else◌}
use Rattle.std.specs.Prelude.{bit_and}
use Rattle.std.specs.Int.{div_ceil}
use Rattle.std.specs.Int.Digits.{number_from_digits, AllBelowBase}
use Rattle.std.proofs.Math.Nat.{mul-le-mul_right, pow-le-pow_right}
use Rattle.std.proofs.lemmas.Nat.{pow_pos, pow-add, shr_split, shr_below, shl_whole, shl_below, one_shl, and_mask, mod_below}
use Rattle.bool_coder.specs.BoolStream.{Interval, opening, after, stream, stream_length, IsOnLine}
use Rattle.bool_coder.specs.PlainLine.{IsKept}
use Rattle.bool_coder.specs.EncoderInside.{bits_of, low_of, kept, IsLonger, IsWord}
use Rattle.allocation.specs.declared.no_memory.NoMemory.{NoMemory}
use Rattle.bool_coder.proofs.Bytes.{byte_power, bytes_number}
use Rattle.bool_coder.proofs.Append.{below_by_product}
use Rattle.bool_coder.proofs.MarkedWord.{word-marked, marked_bits, marked_low, bits_begun, bits_short, low_carry, bits_of-first}
use Rattle.bool_coder.proofs.Line.{same_interval, after-kept}

-- the interval of whole bytes and a number of so many bits
abbrev pub kept_at : List ℕ → ℕ → ℕ → ℕ → Interval
kept_at written low bits range = record {
  bottom = number_from_digits 256 written * 2 ^ bits + low;
  range = range;
  shifts = 8 * length written + bits - 8;
}

-- with a one above, it is a word
pub kept_marked : (written : List ℕ) (bits low range : ℕ) → bits ≤ 62 → low < 2 ^ (bits + 1)
    → kept written (2 ^ (bits + 1) + low) range ≡ kept_at written low bits range
kept_marked written bits low range few below =
    let b = marked_bits bits low few below in
    let l = marked_low bits low few below in
    same_interval (kept written (2 ^ (bits + 1) + low) range) (kept_at written low bits range) (rw (l, b) refl) refl (rw b refl)

-- no bit of the last bytes is lost
pub word_fits : (low bits range k : ℕ) → bits < 40 → k ≤ 7 → 0 < range → low + range ≤ 2 ^ (bits + 1) → low * 2 ^ k % 2 ^ 64 ≡ low * 2 ^ k
word_fits low bits range k short few some most =
    let less : bits + 1 ≤ 40 = omega arith in
    let power : 2 ^ (bits + 1) ≤ 2 ^ 40 = pow-le-pow_right {n = 2} (lit≤ tt) less in
    shl_whole low 40 k 64 (omega (arith, power)) (omega arith)

-- the bottom fits its bits: no carry leaves the first byte
pub bottom_below : (written : List ℕ) (low bits range : ℕ) → 8 ≤ bits → 0 < range → IsOnLine (kept_at written low bits range)
    → number_from_digits 256 written * 2 ^ bits + low < 2 ^ (8 * length written + bits)
bottom_below written low bits range begun some line =
    let e : 8 * length written + bits ≡ 8 * length written + bits - 8 + 8 = omega arith in
    rw (e, pow-add) (omega (arith, line))

-- there is room for four bytes of the word
room_at : (written : List ℕ) (low left range : ℕ) → 0 < range → IsOnLine (kept_at written low (left + 32) range)
    → number_from_digits 256 written * 4294967296 + low / 2 ^ left < 256 ^ (length written + 4)
room_at written low left range some line =
    let below = bottom_below written low (left + 32) range (omega arith) some line in
    let e : 8 * length written + (left + 32) ≡ 8 * (length written + 4) + left = omega arith in
    let f : left + 32 ≡ 32 + left = omega arith in
    let wide = rw (e, pow-add 2 (8 * (length written + 4)) left, f, pow-add 2 32 left) at below in
    let split = shr_split low left in
    rw byte_power (below_by_product (number_from_digits 256 written * 4294967296 + low / 2 ^ left) (2 ^ (8 * (length written + 4))) (2 ^ left) (omega (arith, wide, split)))

pub flush_room : (written : List ℕ) (low bits range : ℕ) → 40 ≤ bits → 0 < range → IsOnLine (kept_at written low bits range)
    → number_from_digits 256 written * 4294967296 + low / 2 ^ (bits - 32) < 256 ^ (length written + 4)
flush_room written low bits range full some line =
    let e : bits ≡ bits - 32 + 32 = omega arith in room_at written low (bits - 32) range some (rw e at line)

-- the four bytes are written, and the interval is the same
flushed_at : (xs ys : List ℕ) (low left range : ℕ) → length ys ≡ length xs + 4
    → number_from_digits 256 ys ≡ number_from_digits 256 xs * 4294967296 + low / 2 ^ left
    → kept_at ys (low % 2 ^ left) left range ≡ kept_at xs low (left + 32) range
flushed_at xs ys low left range longer number =
    let e : left + 32 ≡ 32 + left = omega arith in
    let split = shr_split low left in
    same_interval (kept_at ys (low % 2 ^ left) left range) (kept_at xs low (left + 32) range) (rw (number, e, pow-add) (omega (arith, split))) refl (omega arith)

-- the bits below the bytes
mask_is : (low left : ℕ) → left < 64 → bit_and low (1 * 2 ^ left % 2 ^ 64 - 1) ≡ low % 2 ^ left
mask_is low left small = let e = one_shl left 64 small in rw e (and_mask low left)

-- and a one above them and their carry, which is none
left_is : (low left : ℕ) → left < 63 → low % 2 ^ left + 2 * 2 ^ left % 2 ^ 64 ≡ 2 ^ (left + 1) + low % 2 ^ left
left_is low left small = rw (shl_whole 2 2 left 64 (lit≤ tt) (omega arith), pow-add 2 left 1) (omega arith)

pub word_left : (low left : ℕ) → left < 62 → bit_and low (1 * 2 ^ left % 2 ^ 64 - 1) + 2 * 2 ^ left % 2 ^ 64 ≡ 2 ^ (left + 1) + low % 2 ^ left
word_left low left small = rw (mask_is low left (omega arith)) (left_is low left (omega arith))

-- the interval of a word, from its parts
pub kept-parts : (written : List ℕ) (word range low bits : ℕ) → low ≡ low_of word → bits ≡ bits_of word → kept written word range ≡ kept_at written low bits range
kept-parts written word range low bits l b = rw (l, b) refl

-- a word without four bytes that were written is the same interval
pub kept-flushed : (xs ys : List ℕ) (word range low bits : ℕ) → low ≡ low_of word → bits ≡ bits_of word → 40 ≤ bits → bits ≤ 62 → length ys ≡ length xs + 4
    → number_from_digits 256 ys ≡ number_from_digits 256 xs * 4294967296 + low / 2 ^ (bits - 32)
    → kept ys (2 ^ (bits - 32 + 1) + low % 2 ^ (bits - 32)) range ≡ kept xs word range
kept-flushed xs ys word range low bits l b full few longer number =
    let left = bits - 32 in
    let e : left + 32 ≡ bits = omega arith in
    let rest = mod_below low (2 ^ left) (pow_pos left) in
    let below : low % 2 ^ left < 2 ^ (left + 1) = omega (arith, rest, pow-add 2 left 1) in
    kept_marked ys left (low % 2 ^ left) range (omega arith) below ∙ flushed_at xs ys low left range longer number
    ∙ ap (λ n. kept_at xs low n range) e ∙ sym (kept-parts xs word range low bits l b)

-- what is left is a word again
pub flushed-word : (xs ys : List ℕ) (word range low bits : ℕ) → low ≡ low_of word → bits ≡ bits_of word → 40 ≤ bits → bits ≤ 62 → length ys ≡ length xs + 4
    → number_from_digits 256 ys ≡ number_from_digits 256 xs * 4294967296 + low / 2 ^ (bits - 32)
    → IsKept (kept xs word range) → IsWord ys (2 ^ (bits - 32 + 1) + low % 2 ^ (bits - 32)) range
flushed-word xs ys word range low bits l b full short longer number k =
    let left = bits - 32 in
    let few : 8 ≤ left = omega arith in
    let least : 2 ^ 8 ≤ 2 ^ left = pow-le-pow_right {n = 2} (lit≤ tt) few in
    let no_more : left ≤ 30 = omega arith in
    let most : 2 ^ left ≤ 2 ^ 30 = pow-le-pow_right {n = 2} (lit≤ tt) no_more in
    let rest = mod_below low (2 ^ left) (pow_pos left) in
    let once = pow-add 2 left 1 in
    let twice = pow-add 2 left 2 in
    let below : low % 2 ^ left < 2 ^ (left + 1) = omega (arith, rest, once) in
    record {
      wide = k.wide;
      byte = k.byte;
      begun = omega (arith, least, once);
      short = omega (arith, most, once, rest);
      one_carry = rw (marked_bits left (low % 2 ^ left) (omega arith) below) (omega (arith, k.byte, least, rest, once, twice));
      on_line = let P : Interval → Type 0 = λ i. IsOnLine i in subst P (sym (kept-flushed xs ys word range low bits l b full short longer number)) k.on_line;
    }

-- the parts of a word
pub record IsLow (written : List ℕ) (low bits range : ℕ) : Type 0 where
  pub begun : 8 ≤ bits
  pub short : bits < 40
  pub one_carry : low + range ≤ 2 ^ (bits + 1)
  pub on_line : IsOnLine (kept_at written low bits range)

pub word_parts : (written : List ℕ) (word range low bits : ℕ) → IsWord written word range → low ≡ low_of word → bits ≡ bits_of word → IsLow written low bits range
word_parts written word range low bits w l b =
    let m = word-marked word (omega (arith, w.begun)) (omega (arith, w.short)) in
    rw (l, b) (record { begun = bits_begun word m w.begun; short = bits_short word m w.short; one_carry = low_carry word range m w.one_carry; on_line = w.on_line })

-- and of one with four bytes to write
pub record IsFull (written : List ℕ) (low bits range : ℕ) : Type 0 where
  pub some : 0 < range
  pub one_carry : low + range ≤ 2 ^ (bits + 1)
  pub on_line : IsOnLine (kept_at written low bits range)

pub full_parts : (written : List ℕ) (word range low bits : ℕ) → 2 ≤ word → word < 2 ^ 64 → word + range ≤ 2 ^ (bits_of word + 2) → IsKept (kept written word range)
    → low ≡ low_of word → bits ≡ bits_of word → IsFull written low bits range
full_parts written word range low bits some fits most k l b =
    let m = word-marked word some fits in
    rw (l, b) (record { some = omega (arith, k.wide); one_carry = low_carry word range m most; on_line = k.on_line })

pub kept-longer : (written : List ℕ) (word range : ℕ) → IsLonger written word range → IsKept (kept written word range)
kept-longer written word range w = record { wide = w.wide; byte = w.byte; on_line = w.on_line }

-- the word of a new encoder
pub first-word : (written : List ℕ) → written ≡ [] → IsWord written 512 255
first-word written e =
    rw e (record { wide = lit≤ tt; byte = lit≤ tt; begun = lit≤ tt; short = lit≤ tt; one_carry = rw bits_of-first (lit≤ tt); on_line = rw bits_of-first (lit≤ tt) })

pub first-kept : (written : List ℕ) → written ≡ [] → kept written 512 255 ≡ opening
first-kept written e = rw (e, bits_of-first) refl

-- there is room for the last bits, with zero bits up to a whole byte
pub last_room : (written : List ℕ) (low bits range count p : ℕ) → 8 ≤ bits → 0 < range → bits + p ≡ 8 * count → IsOnLine (kept_at written low bits range)
    → number_from_digits 256 written * 256 ^ count + low * 2 ^ p < 256 ^ (length written + count)
last_room written low bits range count p begun some whole line =
    let below = mul-le-mul_right (2 ^ p) (bottom_below written low bits range begun some line) in
    let e : 8 * (length written + count) ≡ 8 * length written + bits + p = omega arith in
    let f : 8 * count ≡ bits + p = omega arith in
    rw (byte_power count, byte_power (length written + count), f, e, pow-add 2 bits p, pow-add 2 (8 * length written + bits) p) (omega (arith, below, pow_pos p))

pub whole_bytes : (bits count : ℕ) → count ≡ div_ceil bits 8 → bits + (8 * count - bits) ≡ 8 * count
whole_bytes bits count c = omega (arith, c)

stream_value : (a low bits count p : ℕ) → 8 * count ≡ bits + p → (a * 2 ^ bits + low) * 2 ^ p ≡ a * 256 ^ count + low * 2 ^ p
stream_value a low bits count p whole = rw (byte_power, whole, pow-add) (omega arith)

-- the written bytes are the stream
pub stream_is : (xs ys : List ℕ) (low bits range count : ℕ) → 8 ≤ bits → count ≡ div_ceil bits 8 → AllBelowBase 256 ys
    → length ys ≡ length xs + count → number_from_digits 256 ys ≡ number_from_digits 256 xs * 256 ^ count + low * 2 ^ (8 * count - bits)
    → ys ≡ stream (kept_at xs low bits range)
unfolding stream
stream_is xs ys low bits range count begun c bytes long number =
    let whole : 8 * count ≡ bits + (8 * count - bits) = omega (arith, c) in
    let size : stream_length (8 * length xs + bits - 8) ≡ length ys = omega (arith, c, long) in
    let pad : 8 * length ys - (8 + (8 * length xs + bits - 8)) ≡ 8 * count - bits = omega (arith, c, long) in
    let value : (number_from_digits 256 xs * 2 ^ bits + low) * 2 ^ (8 * count - bits) ≡ number_from_digits 256 ys
    = stream_value (number_from_digits 256 xs) low bits count (8 * count - bits) whole ∙ sym number in
    sym (bytes_number ys bytes) ∙ rw (size, pad, value) refl

-- at most one carry stands above the last bytes, and above four bytes of a full word
pub last_carry : (low bits range count p : ℕ) → 0 < range → low + range ≤ 2 ^ (bits + 1) → bits + p ≡ 8 * count → low * 2 ^ p < 2 * 256 ^ count
last_carry low bits range count p some most whole =
    let e : 8 * count ≡ bits + p = omega arith in
    let f : bits + 1 + p ≡ bits + p + 1 = omega arith in
    let below = shl_below low (bits + 1) p (omega arith) in
    rw (byte_power, e) (omega (arith, pow-add 2 (bits + p) 1, rw f at below))

pub flush_carry : (low bits range : ℕ) → 40 ≤ bits → 0 < range → low + range ≤ 2 ^ (bits + 1) → low / 2 ^ (bits - 32) < 8589934592
flush_carry low bits range full some most =
    let e : bits + 1 ≡ 33 + (bits - 32) = omega arith in
    let below : low < 2 ^ (bits + 1) = omega arith in
    shr_below low 33 (bits - 32) (rw e at below)

-- what holds between two bools holds after one more
pub step-kept : (written : List ℕ) (word range prob : ℕ) (bit : Bool) (word' range' : ℕ) → IsWord written word range → prob < 256
    → kept written word' range' ≡ after (kept written word range) (prob, bit) → IsKept (kept written word' range')
step-kept written word range prob bit word' range' w p e =
    rw e (after-kept (kept written word range) prob bit p (record { wide = w.wide; byte = w.byte; on_line = w.on_line }))

-- what contracts see of an encoder that isn't spent
pub shown : (spent : Option NoMemory) (i : Interval) → spent ≡ None → (if is_some spent then None else Some i) ≡ Some i
shown spent i e = rw e refl

-- and the word is longer by a few bits
pub step-longer : (written : List ℕ) (word range prob : ℕ) (bit : Bool) (word' range' : ℕ) → IsWord written word range → prob < 256
    → kept written word' range' ≡ after (kept written word range) (prob, bit) → word ≤ word' → word' < 2 ^ 48
    → word' + range' ≤ 2 ^ (bits_of word' + 2) → IsLonger written word' range'
step-longer written word range prob bit word' range' w p e no_less few_more one_carry =
    let k = step-kept written word range prob bit word' range' w p e in
    record { wide = k.wide; byte = k.byte; begun = omega (arith, w.begun, no_less); long = few_more; one_carry = one_carry; on_line = k.on_line }
