-- Units that are fetched: the cursor stays, and what always holds goes on to hold.
use Rattle.std.proofs.Common.{◌≡◌, ℕ, zero, suc, ◌+◌, ◌-◌, ◌*◌, ◌/◌, ◌^◌, ◌%◌, ◌<◌, ◌≤◌, ◌≢◌, List, length, get_or, Ok, refl, sym, ap, subst, ◌∙◌, arith, lit≤}
use Rattle.bit_list.specs.BitsInside.{place_before, cursor_of_fetched, IsFetched, IsPlain, ArePlain}
use Rattle.bit_list.specs.Units.{unit_at}
use Rattle.bit_list.specs.declared.fetched.Fetched.{Fetched}
use Rattle.bit_list.proofs.Ahead.{none_before, place_shifts, same_cursor, one_unit_ahead}
use Rattle.bit_list.proofs.Spanning.{unit_spans}
use Rattle.bit_list.proofs.Stuffing.{unit_plain}

-- with one unit more
abbrev pub grown : Fetched → ℕ → ℕ → Fetched
grown at byte next = record at {
  word = at.word * 2 ^ 8 % 2 ^ 64 + byte;
  count = at.count + 8;
  stuffed = at.stuffed * 2 ^ 1 % 2 ^ 8 + (next - at.end - 1);
  end = next;
}

-- what one more leaves as it was
pub record Stays (bytes : List ℕ) (at more : Fetched) : Type 0 where
  pub cursor : cursor_of_fetched more ≡ cursor_of_fetched at
  pub kept : IsFetched bytes more

pub one_more : (bytes : List ℕ) (at : Fetched) (byte next : ℕ) → IsFetched bytes at → at.skip ≡ 0 → at.count ≤ 55
    → byte < 256 → unit_at bytes at.end ≡ Ok (byte, next) → Stays bytes at (grown at byte next)
one_more bytes at byte next kept fresh room small unit =
    let after = unit_spans bytes at.end byte next unit in
    let stuffed = at.stuffed * 2 ^ 1 % 2 ^ 8 + (next - at.end - 1) in
    let word = at.word * 2 ^ 8 % 2 ^ 64 + byte in
    let shifts : (n : ℕ) → n ≤ 7 → place_before next stuffed (n + 1) ≡ place_before at.end at.stuffed n = λ n few. place_shifts at.end at.stuffed next stuffed n after.0 after.1 few refl in
    let more : (at.count + 8) / 8 ≡ at.count / 8 + 1 = omega arith in
    record {
      cursor = same_cursor (place_before at.end at.stuffed) (place_before next stuffed) at.word byte word at.skip at.last at.first at.count shifts small room refl;
      kept = record {
        few = omega (arith, room);
        skip = kept.skip;
        fresh = λ h. fresh;
        run = rw (more, shifts (at.count / 8) (omega (arith, room))) kept.run;
        units = one_unit_ahead bytes (place_before at.end at.stuffed) (place_before next stuffed) at.word byte word at.count shifts
            (rw (none_before at.end at.stuffed, none_before next stuffed) unit) small room refl kept.units;
      };
    }

-- one more byte
plain_more : (bytes : List ℕ) (from at : Fetched) (byte : ℕ) → Stays bytes from at → at.skip ≡ 0 → at.count ≤ 55 → byte < 256
    → at.end < length bytes → IsPlain bytes at.end byte → Stays bytes from (grown at byte (at.end + 1))
plain_more bytes from at byte stays fresh room small within plain =
    let other : get_or bytes at.end 0 ≢ 255 = λ full. plain.1 (sym plain.0 ∙ full) in
    let unit = subst (λ (b : ℕ). unit_at bytes at.end ≡ Ok (b, at.end + 1)) plain.0 (unit_plain bytes at.end within other) in
    let one = one_more bytes at byte (at.end + 1) stays.kept fresh room small unit in
    record { cursor = one.cursor ∙ stays.cursor; kept = one.kept }

-- a word that grew by some bits grows by a byte
word_on : (word k whole some byte : ℕ) → 1 ≤ k → k ≤ 5 → some < 256 ^ k → byte < 256 → whole ≡ word * 256 ^ k % 2 ^ 64 + some
    → whole * 2 ^ 8 % 2 ^ 64 + byte ≡ word * 256 ^ (k + 1) % 2 ^ 64 + (some * 256 + byte)
word_on word zero whole some byte some_bytes few small byte_small is = absurd (omega arith)
word_on word (suc zero) whole some byte some_bytes few small byte_small is = omega arith
word_on word (suc (suc zero)) whole some byte some_bytes few small byte_small is = omega arith
word_on word (suc (suc (suc zero))) whole some byte some_bytes few small byte_small is = omega arith
word_on word (suc (suc (suc (suc zero)))) whole some byte some_bytes few small byte_small is = omega arith
word_on word (suc (suc (suc (suc (suc zero))))) whole some byte some_bytes few small byte_small is = omega arith
word_on word (suc (suc (suc (suc (suc (suc k)))))) whole some byte some_bytes few small byte_small is = absurd (omega arith)

-- with six bytes more
pub six_more : (bytes : List ℕ) (at : Fetched) (six : ℕ) → IsFetched bytes at → at.skip ≡ 0 → at.count ≤ 15
    → ArePlain bytes at.end six → Stays bytes at (record at {
      word = at.word * 2 ^ 48 % 2 ^ 64 + six;
      count = at.count + 48;
      stuffed = at.stuffed * 2 ^ 6 % 2 ^ 8;
      end = at.end + 6;
    })
six_more bytes at six kept fresh room plain =
    let zero : Stays bytes at at = record { cursor = refl; kept = kept } in
    let long = plain.within in
    let b0 = six / 2 ^ 40 % 256 in
    let b1 = six / 2 ^ 32 % 256 in
    let b2 = six / 2 ^ 24 % 256 in
    let b3 = six / 2 ^ 16 % 256 in
    let b4 = six / 2 ^ 8 % 256 in
    let b5 = six % 256 in
    let f1 = grown at b0 (at.end + 1) in
    let f2 = grown f1 b1 (f1.end + 1) in
    let f3 = grown f2 b2 (f2.end + 1) in
    let f4 = grown f3 b3 (f3.end + 1) in
    let f5 = grown f4 b4 (f4.end + 1) in
    let f6 = grown f5 b5 (f5.end + 1) in
    let one = plain_more bytes at at b0 zero fresh (omega (arith, room)) (omega arith) (omega (arith, long)) plain.first in
    let two = plain_more bytes at f1 b1 one fresh (omega (arith, room)) (omega arith) (omega (arith, long)) plain.second in
    let three = plain_more bytes at f2 b2 two fresh (omega (arith, room)) (omega arith) (omega (arith, long))
    (let e : at.end + 1 + 1 ≡ at.end + 2 = omega arith in rw e plain.third) in
    let four = plain_more bytes at f3 b3 three fresh (omega (arith, room)) (omega arith) (omega (arith, long))
    (let e : at.end + 1 + 1 + 1 ≡ at.end + 3 = omega arith in rw e plain.fourth) in
    let five = plain_more bytes at f4 b4 four fresh (omega (arith, room)) (omega arith) (omega (arith, long))
    (let e : at.end + 1 + 1 + 1 + 1 ≡ at.end + 4 = omega arith in rw e plain.fifth) in
    let all = plain_more bytes at f5 b5 five fresh (omega (arith, room)) (omega arith) (omega (arith, long))
    (let e : at.end + 1 + 1 + 1 + 1 + 1 ≡ at.end + 5 = omega arith in rw e plain.sixth) in
    let w = at.word in
    let s2 = b0 * 256 + b1 in
    let s3 = s2 * 256 + b2 in
    let s4 = s3 * 256 + b3 in
    let s5 = s4 * 256 + b4 in
    let e2 = word_on w 1 f1.word b0 b1 (lit≤ tt) (lit≤ tt) (omega arith) (omega arith) refl in
    let e3 = word_on w 2 f2.word s2 b2 (lit≤ tt) (lit≤ tt) (omega arith) (omega arith) e2 in
    let e4 = word_on w 3 f3.word s3 b3 (lit≤ tt) (lit≤ tt) (omega arith) (omega arith) e3 in
    let e5 = word_on w 4 f4.word s4 b4 (lit≤ tt) (lit≤ tt) (omega arith) (omega arith) e4 in
    let e6 = word_on w 5 f5.word s5 b5 (lit≤ tt) (lit≤ tt) (omega arith) (omega arith) e5 in
    let digits : s5 * 256 + b5 ≡ six = let below = plain.below in omega (arith, below) in
    let word : f6.word ≡ w * 2 ^ 48 % 2 ^ 64 + six = e6 ∙ ap (λ (s : ℕ). w * 2 ^ 48 % 2 ^ 64 + s) digits in
    let count : f6.count ≡ at.count + 48 = omega arith in
    let stuffed : f6.stuffed ≡ at.stuffed * 2 ^ 6 % 2 ^ 8 = omega arith in
    let end : f6.end ≡ at.end + 6 = omega arith in
    rw (sym word, sym count, sym stuffed, sym end) all
