-- Bits that were fetched ahead: one after the other they are those that stand at the cursor.
use Rattle.std.proofs.Common.{◌≡◌, ℕ, zero, suc, ◌+◌, ◌-◌, ◌*◌, ◌/◌, ◌%◌, ◌^◌, ◌<◌, ◌≤◌, Bool, false, ◌==◌, nat_eq, nat_lt, if◌then◌else◌, List, [], ◌∷◌, drop, get_or, Result, Ok, Err, inl, inr, refl, sym, ap, ap₂, subst, ◌∙◌, arith}
use Rattle.std.specs.Int.RustNames.{count_ones}
use Rattle.std.proofs.Math.Pow.{mod-mod-pow}
use Rattle.std.proofs.lemmas.Bool.{cases_lt, cond_below, cond_above}
use Rattle.std.proofs.lemmas.Nat.{shr-shr, field_of, mod-pow-add, ones_cat, mod_below, pow_pos}
use Rattle.bit_list.specs.NumbersOfBits.{mod_small}
use Rattle.bit_list.specs.Bits.{low_bits}
use Rattle.bit_list.specs.BitsInside.{place_before, cursor_at, AreUnits}
use Rattle.bit_list.specs.Units.{Cursor, and_then, unit_at, filled, bit_at, bits_at}
use Rattle.bit_list.specs.declared.fault.BitFault.{BitFault}
use Rattle.bit_list.proofs.LowBits.{low_bits-same}
use Rattle.bit_list.proofs.Cursors.{after_bit, filled_now, bit_filled, bit_left}
use Rattle.bit_list.proofs.Machine.{bit_is}
use Rattle.bit_list.proofs.Spanning.{is_both, unit_spans}

abbrev pub one_bit : Bool → Cursor → Result (Bool × Cursor) BitFault
one_bit bit cursor = Ok (bit, cursor)

abbrev pub some_bits : List Bool → Cursor → Result (List Bool × Cursor) BitFault
some_bits bits cursor = Ok (bits, cursor)

abbrev full : Cursor → Result Cursor BitFault
full cursor = Ok cursor

abbrev pub with_left : List Bool → ℕ → ℕ → ℕ → Cursor
with_left left skip last next = record { left = left; skip = skip; last = last; next = next }

-- a place, by a test
abbrev pub place_by : Bool → ℕ → ℕ → ℕ
place_by t a b = if t then a else b

-- a digit of the upper part
digit : (word q r : ℕ) → word / 2 ^ (8 * q) / 2 ^ r % 2 ≡ word / 2 ^ (8 * q + r) % 2
digit word q r = ap (λ (n : ℕ). n % 2) (shr-shr word (8 * q) r)

-- the next bit stands in the unit begun
bit_within : (bytes : List ℕ) (word skip last next q r : ℕ) → (cursor : Cursor)
    → cursor ≡ with_left (low_bits (suc r) (word / 2 ^ (8 * q))) skip last next
    → bit_at bytes cursor ≡ one_bit (word / 2 ^ (8 * q + r) % 2 == 1) (with_left (low_bits r (word / 2 ^ (8 * q))) skip last next)
bit_within bytes word skip last next q r cursor e =
    ap (bit_at bytes) e
    ∙ bit_left (word / 2 ^ (8 * q) / 2 ^ r % 2 == 1) (low_bits r (word / 2 ^ (8 * q))) bytes skip last next
    ∙ ap (λ (d : ℕ). one_bit (d == 1) (with_left (low_bits r (word / 2 ^ (8 * q))) skip last next)) (digit word q r)

-- the next bit is the first one of the next unit
unit_bits : (x : ℕ) → low_bits 8 (x % 256) ≡ low_bits 8 x
unit_bits x = low_bits-same 8 (x % 256) x (omega arith)

bit_after : (bytes : List ℕ) (word last place next q : ℕ) (cursor : Cursor)
    → cursor ≡ with_left [] 0 last place
    → unit_at bytes place ≡ Ok (word / 2 ^ (8 * q) % 256, next)
    → bit_at bytes cursor ≡ one_bit (word / 2 ^ (8 * q + 7) % 2 == 1) (with_left (low_bits 7 (word / 2 ^ (8 * q))) 0 place next)
bit_after bytes word last place next q cursor e unit =
    let from = with_left [] 0 last place in
    let to = with_left (low_bits 8 (word / 2 ^ (8 * q))) 0 place next in
    let got : filled bytes from ≡ full to =
    filled_now bytes from refl
    ∙ ap (λ (r : Result (ℕ × ℕ) BitFault). and_then {A = ℕ × ℕ} {B = Cursor} r (λ u. Ok (with_left (drop 0 (low_bits 8 u.0)) 0 place u.1))) unit
    ∙ ap (λ (l : List Bool). full (with_left l 0 place next)) (unit_bits (word / 2 ^ (8 * q))) in
    ap (bit_at bytes) e ∙ bit_filled bytes from to got (omega arith)
    ∙ bit_within bytes word 0 place next q 7 to refl

-- one bit
abbrev IsOneAhead : List ℕ → (ℕ → ℕ) → ℕ → ℕ → ℕ → ℕ → ℕ → Type 0
IsOneAhead bytes place word skip last first m =
    bit_at bytes (cursor_at place word skip last first (suc m)) ≡ one_bit (word / 2 ^ m % 2 == 1) (cursor_at place word skip last first m)

one_within : (bytes : List ℕ) (place : ℕ → ℕ) (word skip last first m q r : ℕ) → m / 8 ≡ q → m % 8 ≡ r → suc m / 8 ≡ q → suc m % 8 ≡ suc r → m ≡ 8 * q + r
    → IsOneAhead bytes place word skip last first m
one_within bytes place word skip last first m q r a b c d e =
    rw (c, d, a, b) (rw e (bit_within bytes word skip (place_by (nat_lt first (place q)) (place (q + 1)) last) (place q) q r _ refl))

one_after : (bytes : List ℕ) (place : ℕ → ℕ) (word skip last first m q : ℕ) → m / 8 ≡ q → m % 8 ≡ 7 → suc m / 8 ≡ q + 1 → suc m % 8 ≡ 0 → m ≡ 8 * q + 7 → skip ≡ 0
    → first ≤ place (suc m / 8) → AreUnits bytes place word (suc m) → IsOneAhead bytes place word skip last first m
one_after bytes place word skip last first m q a b c d e fresh run units =
    let unit = units q (omega arith) in
    let run : first ≤ place (q + 1) = rw c at run in
    let begun : place_by (nat_lt first (place q)) (place (q + 1)) last ≡ place (q + 1) =
    sym (cond_below first (place q) (place (q + 1)) last (omega (arith, unit_spans bytes (place (q + 1)) _ (place q) unit))) in
    let before = place_by (nat_lt first (place (q + 1))) (place (q + 1 + 1)) last in
    rw (c, d, a, b, fresh, begun)
    (rw e (bit_after bytes word before (place (q + 1)) (place q) q _ refl unit))

pub one_ahead : (bytes : List ℕ) (place : ℕ → ℕ) (word skip last first m : ℕ) → (8 ≤ suc m → skip ≡ 0) → first ≤ place (suc m / 8) → AreUnits bytes place word (suc m)
    → IsOneAhead bytes place word skip last first m
one_ahead bytes place word skip last first m fresh run units =
    elim (cases_lt (m % 8) 7) [
      | inl h ↦ one_within bytes place word skip last first m (m / 8) (m % 8) refl refl (omega arith) (omega arith) (omega arith)
      | inr h ↦ one_after bytes place word skip last first m (m / 8) refl (omega arith) (omega arith) (omega arith) (omega arith) (fresh (omega arith)) run units
    ]

-- the units among fewer of the bits, and where they begin
pub fewer_units : (bytes : List ℕ) (place : ℕ → ℕ) (word most count : ℕ) → count ≤ most → AreUnits bytes place word most → AreUnits bytes place word count
fewer_units bytes place word most count h units = λ i few. units i (omega arith)

one_fewer : (bytes : List ℕ) (place : ℕ → ℕ) (word first m : ℕ) → AreUnits bytes place word (suc m) → first ≤ place (suc m / 8) → first ≤ place (m / 8)
one_fewer bytes place word first m units run =
    elim (cases_lt (m % 8) 7) [
      | inl h ↦ (let e : suc m / 8 ≡ m / 8 = omega arith in rw e at run)
      | inr h ↦ (
          let e : suc m / 8 ≡ m / 8 + 1 = omega arith in
          let run : first ≤ place (m / 8 + 1) = rw e at run in
          omega (arith, unit_spans bytes (place (m / 8 + 1)) _ (place (m / 8)) (units (m / 8) (omega arith)))
          )
    ]

some_fewer : (n m : ℕ) (bytes : List ℕ) (place : ℕ → ℕ) (word first : ℕ) → AreUnits bytes place word (m + n) → first ≤ place ((m + n) / 8) → first ≤ place (m / 8)
some_fewer zero m bytes place word first units run = let e : m + 0 ≡ m = omega arith in rw e at run
some_fewer (suc n) m bytes place word first units run =
    let e : m + suc n ≡ suc (m + n) = omega arith in
    let run : first ≤ place (suc (m + n) / 8) = rw e at run in
    some_fewer n m bytes place word first (fewer_units bytes place word (m + suc n) (m + n) (omega arith) units)
    (one_fewer bytes place word first (m + n) (fewer_units bytes place word (m + suc n) (suc (m + n)) (omega arith) units) run)

pub where_fewer : (bytes : List ℕ) (place : ℕ → ℕ) (word first most count : ℕ) → count ≤ most → AreUnits bytes place word most → first ≤ place (most / 8) → first ≤ place (count / 8)
where_fewer bytes place word first most count few units run =
    let e : most ≡ count + (most - count) = omega arith in
    some_fewer (most - count) count bytes place word first (fewer_units bytes place word most (count + (most - count)) (omega arith) units) (subst (λ (k : ℕ). first ≤ place (k / 8)) e run)

-- the first of the bits, as a number
pub some_ahead : (n m : ℕ) (bytes : List ℕ) (place : ℕ → ℕ) (word skip last first : ℕ) → (8 ≤ m + n → skip ≡ 0) → first ≤ place ((m + n) / 8) → AreUnits bytes place word (m + n)
    → bits_at n bytes (cursor_at place word skip last first (m + n)) ≡ some_bits (low_bits n (word / 2 ^ m)) (cursor_at place word skip last first m)
unfolding bits_at
some_ahead zero m bytes place word skip last first fresh run units =
    let e : m + 0 ≡ m = omega arith in
    ap (λ (k : ℕ). some_bits [] (cursor_at place word skip last first k)) e
some_ahead (suc n) m bytes place word skip last first fresh run units =
    let e : m + suc n ≡ suc (m + n) = omega arith in
    let run : first ≤ place (suc (m + n) / 8) = rw e at run in
    let units : AreUnits bytes place word (suc (m + n)) = fewer_units bytes place word (m + suc n) (suc (m + n)) (omega arith) units in
    let one = one_ahead bytes place word skip last first (m + n) (λ h. fresh (omega arith)) run units in
    let more = some_ahead n m bytes place word skip last first (λ h. fresh (omega arith)) (one_fewer bytes place word first (m + n) units run)
    (fewer_units bytes place word (suc (m + n)) (m + n) (omega arith) units) in
    let top : word / 2 ^ (m + n) % 2 ≡ word / 2 ^ m / 2 ^ n % 2 = ap (λ (x : ℕ). x % 2) (sym (shr-shr word m n)) in
    rw e (
    ap (λ (r : Result (Bool × Cursor) BitFault). and_then r (λ first. after_bit first.0 (bits_at n bytes first.1))) one
    ∙ ap (after_bit (word / 2 ^ (m + n) % 2 == 1)) more
    ∙ ap (λ (x : ℕ). some_bits ((x == 1) ∷ low_bits n (word / 2 ^ m)) (cursor_at place word skip last first m)) top
    )

-- the number that they spell
pub number_ahead : (bytes : List ℕ) (place : ℕ → ℕ) (word skip last first count n number : ℕ) → n ≤ count → (8 ≤ count → skip ≡ 0) → first ≤ place (count / 8)
    → AreUnits bytes place word count → number ≡ word / 2 ^ (count - n) % 2 ^ n
    → bits_at n bytes (cursor_at place word skip last first count) ≡ some_bits (low_bits n number) (cursor_at place word skip last first (count - n))
number_ahead bytes place word skip last first count n number few fresh run units is =
    let m = count - n in
    let e : count ≡ m + n = omega arith in
    let start : first ≤ place ((m + n) / 8) = subst (λ (k : ℕ). first ≤ place (k / 8)) e run in
    let taken = some_ahead n m bytes place word skip last first (λ h. fresh (omega arith)) start (fewer_units bytes place word count (m + n) (omega arith) units) in
    let x = word / 2 ^ m in
    let small : number < 2 ^ n = rw is (mod_below x (2 ^ n) (pow_pos n)) in
    let same : low_bits n x ≡ low_bits n number = low_bits-same n x number (sym is ∙ sym (mod_small n number small)) in
    ap (λ (k : ℕ). bits_at n bytes (cursor_at place word skip last first k)) e ∙ taken
    ∙ ap (λ (l : List Bool). some_bits l (cursor_at place word skip last first m)) same

-- a number below two has as many ones
ones_of_bit : (bit : ℕ) → bit ≤ 1 → count_ones bit ≡ bit
unfolding count_ones
ones_of_bit zero h = refl
ones_of_bit (suc zero) h = refl
ones_of_bit (suc (suc n)) h = absurd (omega arith)

-- where the units end
pub none_before : (end stuffed : ℕ) → place_before end stuffed 0 ≡ end
none_before end stuffed =
    let none : stuffed % 2 ^ 0 ≡ 0 = omega arith in
    omega (arith, ap count_ones none ∙ ones_of_bit 0 (omega arith))

-- one unit more: where the others begin
pub place_shifts : (end stuffed next grown n : ℕ) → end < next → next ≤ end + 2 → n ≤ 7 → grown ≡ stuffed * 2 ^ 1 % 2 ^ 8 + (next - end - 1) → place_before next grown (n + 1) ≡ place_before end stuffed n
place_shifts end stuffed next grown n after near few is =
    let bit = next - end - 1 in
    let e : 7 ≡ 7 - n + n = omega arith in
    let half : grown / 2 ^ 1 ≡ stuffed % 2 ^ 7 = omega arith in
    let low : grown % 2 ^ 1 ≡ bit = omega arith in
    let kept : stuffed % 2 ^ 7 % 2 ^ n ≡ stuffed % 2 ^ n = ap (λ (k : ℕ). stuffed % 2 ^ k % 2 ^ n) e ∙ mod-mod-pow stuffed (7 - n) n in
    let split : grown % 2 ^ (n + 1) ≡ stuffed % 2 ^ n * 2 ^ 1 + bit =
    mod-pow-add grown n 1 ∙ ap₂ (λ (x y : ℕ). x * 2 ^ 1 + y) (ap (λ (x : ℕ). x % 2 ^ n) half ∙ kept) low in
    let counted : count_ones (grown % 2 ^ (n + 1)) ≡ count_ones (stuffed % 2 ^ n) + bit =
    ap count_ones split ∙ ones_cat 1 (stuffed % 2 ^ n) bit (omega arith) ∙ ap (λ (k : ℕ). count_ones (stuffed % 2 ^ n) + k) (ones_of_bit bit (omega arith)) in
    omega (arith, counted)

-- a word that grew by a byte: what stood above it
grown_above : (word byte next k j : ℕ) → byte < 256 → k + j ≤ 56 → next ≡ word * 2 ^ 8 % 2 ^ 64 + byte → next / 2 ^ (8 + k) % 2 ^ j ≡ word / 2 ^ k % 2 ^ j
grown_above word byte next k j small few is =
    let up : next / 2 ^ 8 ≡ word % 2 ^ 56 = omega arith in
    let a = 56 - (j + k) in
    let e : 56 ≡ a + (j + k) = omega arith in
    let low : word % 2 ^ 56 % 2 ^ (j + k) ≡ word % 2 ^ (j + k) = ap (λ (x : ℕ). word % 2 ^ x % 2 ^ (j + k)) e ∙ mod-mod-pow word a (j + k) in
    ap (λ (x : ℕ). x % 2 ^ j) (sym (shr-shr next 8 k) ∙ ap (λ (x : ℕ). x / 2 ^ k) up)
    ∙ sym (field_of (word % 2 ^ 56) j k) ∙ ap (λ (x : ℕ). x / 2 ^ k) low ∙ field_of word j k

-- the cursor stays
pub same_cursor : (before after : ℕ → ℕ) (word byte next skip last first count : ℕ) → ((n : ℕ) → n ≤ 7 → after (n + 1) ≡ before n) → byte < 256 → count ≤ 55
    → next ≡ word * 2 ^ 8 % 2 ^ 64 + byte → cursor_at after next skip last first (count + 8) ≡ cursor_at before word skip last first count
same_cursor before after word byte next skip last first count shifts small few is =
    let q = count / 8 in
    let r = count % 8 in
    let a : (count + 8) % 8 ≡ r = omega arith in
    let b : (count + 8) / 8 ≡ q + 1 = omega arith in
    let d : 8 * (q + 1) ≡ 8 + 8 * q = omega arith in
    let left : low_bits r (next / 2 ^ (8 + 8 * q)) ≡ low_bits r (word / 2 ^ (8 * q)) =
    low_bits-same r _ _ (grown_above word byte next (8 * q) r small (omega arith) is) in
    rw (a, b, d, left, shifts q (omega arith), shifts (q + 1) (omega arith)) refl

-- the new unit stands, and those before it
pub one_unit_ahead : (bytes : List ℕ) (before after : ℕ → ℕ) (word byte next count : ℕ) → ((n : ℕ) → n ≤ 7 → after (n + 1) ≡ before n)
    → unit_at bytes (before 0) ≡ Ok (byte, after 0) → byte < 256 → count ≤ 55 → next ≡ word * 2 ^ 8 % 2 ^ 64 + byte → AreUnits bytes before word count
    → AreUnits bytes after next (count + 8)
one_unit_ahead bytes before after word byte next count shifts unit small few is units = λ i h. elim i as (λ (i : ℕ). i < (count + 8) / 8 → unit_at bytes (after (i + 1)) ≡ Ok (next / 2 ^ (8 * i) % 256, after i)) [
  | zero ↦ λ h. (
      let b : next / 2 ^ (8 * 0) % 256 ≡ byte = omega arith in
      rw (shifts 0 (omega arith), b) unit
      )
  | suc j ↦ λ h. (
      let a : suc j ≡ j + 1 = omega arith in
      let b : 8 * (j + 1) ≡ 8 + 8 * j = omega arith in
      let d : next / 2 ^ (8 + 8 * j) % 256 ≡ word / 2 ^ (8 * j) % 256 = grown_above word byte next (8 * j) 8 small (omega arith) is in
      rw (a, shifts (j + 1) (omega arith), shifts j (omega arith), b, d) (units j (omega arith))
      )
] h

-- the unit begun, and the places
pub begun_of : (place : ℕ → ℕ) (word skip last first count number before next : ℕ) → next ≡ place (count / 8) → number ≡ word / 2 ^ (8 * (count / 8)) % 2 ^ (count % 8)
    → before ≡ place_by (nat_lt first (place (count / 8))) (place (count / 8 + 1)) last
    → with_left (low_bits (count % 8) number) skip before next ≡ cursor_at place word skip last first count
begun_of place word skip last first count number before next a b d =
    let k = count % 8 in
    let x = word / 2 ^ (8 * (count / 8)) in
    let small : number < 2 ^ k = rw b (mod_below x (2 ^ k) (pow_pos k)) in
    let same : low_bits k number ≡ low_bits k x = low_bits-same k number x (mod_small k number small ∙ b) in
    rw (a, d, same) refl

pub last_begun : (first next place last before : ℕ) → first < next → before ≡ place → before ≡ place_by (nat_lt first next) place last
last_begun first next place last before h e = e ∙ cond_below first next place last h

pub last_before : (first next place last before : ℕ) → next ≤ first → before ≡ last → before ≡ place_by (nat_lt first next) place last
last_before first next place last before h e = cond_above first next place last before h e

-- one bit of some is the bit
abbrev some_then : Result (Bool × Cursor) BitFault → Result (List Bool × Cursor) BitFault
some_then r = and_then {A = Bool × Cursor} {B = List Bool × Cursor} r (λ first. Ok (first.0 ∷ [], first.1))

abbrev pub no_bits : BitFault → Result (List Bool × Cursor) BitFault
no_bits fault = Err fault

heads : (a b : Bool) (from to : Cursor) → some_bits (a ∷ []) from ≡ some_bits (b ∷ []) to → (a ≡ b) × (from ≡ to)
heads a b from to e = let h = is_both {A = List Bool} {B = Cursor} (a ∷ [], from) (b ∷ [], to) e in (ap (λ (l : List Bool). get_or l 0 false) h.0, h.1)

pub not_both : (bits : List Bool) (to : Cursor) (fault : BitFault) → no_bits fault ≡ some_bits bits to → ⊥
not_both bits to fault e = cc

one_fault : (a b : BitFault) → no_bits a ≡ no_bits b → a ≡ b
one_fault a b e = cc

pub one_of : (r : Result (Bool × Cursor) BitFault) (bit : Bool) (to : Cursor) → some_then r ≡ some_bits (bit ∷ []) to → r ≡ one_bit bit to
one_of (Ok x) bit to e = let h = heads x.0 bit x.1 to e in ap₂ (λ (b : Bool) (c : Cursor). one_bit b c) h.0 h.1
one_of (Err fault) bit to e = absurd (not_both (bit ∷ []) to fault e)

none_of : (r : Result (Bool × Cursor) BitFault) (fault : BitFault) → some_then r ≡ no_bits fault → r ≡ Err fault
none_of (Ok x) fault e = absurd (not_both (x.0 ∷ []) x.1 fault (sym e))
none_of (Err other) fault e = ap (λ (f : BitFault). let r : Result (Bool × Cursor) BitFault = Err f in r) (one_fault other fault e)

pub as_bits : (bytes : List ℕ) (from : Cursor) → bits_at 1 bytes from ≡ some_then (bit_at bytes from)
unfolding bits_at
as_bits bytes from = refl

pub bit_of_bits : (bytes : List ℕ) (from to : Cursor) (number : ℕ) → number < 2 → bits_at 1 bytes from ≡ some_bits (low_bits 1 number) to → bit_at bytes from ≡ one_bit (nat_eq number 1) to
bit_of_bits bytes from to number h e =
    one_of (bit_at bytes from) (number / 2 ^ 0 % 2 == 1) to (sym (as_bits bytes from) ∙ e)
    ∙ ap (λ (b : Bool). one_bit b to) (bit_is number h)

pub fault_of_bits : (bytes : List ℕ) (from : Cursor) (fault : BitFault) → bits_at 1 bytes from ≡ Err fault → bit_at bytes from ≡ Err fault
fault_of_bits bytes from fault e = none_of (bit_at bytes from) fault (sym (as_bits bytes from) ∙ e)
