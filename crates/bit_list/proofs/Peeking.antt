-- Bits that are looked at, and not taken.
use Rattle.std.proofs.Common.{◌≡◌, ℕ, zero, suc, ◌+◌, ◌-◌, ◌*◌, ◌%◌, ◌^◌, ◌<◌, ◌≤◌, Bool, false, List, [], ◌∷◌, ◌++◌, length, replicate, Result, Ok, Err, refl, sym, ap, ap₂, ◌∙◌, append_assoc, append-nil, zero-add, arith}
use Rattle.std.proofs.lemmas.List.{length-replicate}
use Rattle.std.proofs.lemmas.Nat.{pow_pos, shl_whole, shl_below}
use Rattle.bit_list.specs.Bits.{low_bits, number_of}
use Rattle.bit_list.specs.BitLaws.{ArePeeked, PeekedAreAsMany}
use Rattle.bit_list.specs.Units.{Cursor, and_then, filled, bit_at, bits_at}
use Rattle.bit_list.specs.Peeked.{bit_or, peeked}
use Rattle.bit_list.specs.NumbersOfBits.{number_again}
use Rattle.bit_list.specs.declared.fault.BitFault.{BitFault}
use Rattle.bit_list.proofs.LowBits.{low_bits-join}
use Rattle.bit_list.proofs.Machine.{joined_below, none_yet, number_taken, zeros_are}
use Rattle.bit_list.proofs.Cursors.{after_bit, bit_fault}
use Rattle.bit_list.proofs.Spanning.{is_both}
use Rattle.bit_list.proofs.Ahead.{some_bits, not_both}

peeked_none : (m : ℕ) (bytes : List ℕ) (from : Cursor) (fault : BitFault) → bit_at bytes from ≡ Err fault → peeked (suc m) bytes from ≡ replicate (m + 1) false
unfolding peeked
peeked_none m bytes from fault e = ap (λ (r : Result (Bool × Cursor) BitFault). bit_or m r (λ next. peeked m bytes next)) e

-- as many bits as are wanted are seen
length-bit_or : (n : ℕ) (r : Result (Bool × Cursor) BitFault) (rest : Cursor → List Bool) → ((at : Cursor) → length (rest at) ≡ n) → length (bit_or n r rest) ≡ suc n
length-bit_or n (Ok first) rest h = ap suc (h first.1)
length-bit_or n (Err fault) rest h = length-replicate (n + 1) false ∙ omega arith

pub length-peeked : PeekedAreAsMany
unfolding peeked
length-peeked zero bytes from = refl
length-peeked (suc n) bytes from = length-bit_or n (bit_at bytes from) (λ next. peeked n bytes next) (length-peeked n bytes)

-- bits that are there are seen first
seen_after : (n : ℕ) (bytes : List ℕ) (bit : Bool) (seen bits : List Bool) (to : Cursor) (r : Result (List Bool × Cursor) BitFault)
    → ((more : List Bool) (end : Cursor) → r ≡ some_bits more end → seen ≡ more ++ peeked n bytes end) → after_bit bit r ≡ some_bits bits to → bit ∷ seen ≡ bits ++ peeked n bytes to
seen_after n bytes bit seen bits to (Ok y) h e =
    let both = is_both {A = List Bool} {B = Cursor} (bit ∷ y.0, y.1) (bits, to) e in
    ap (λ (l : List Bool). bit ∷ l) (h y.0 y.1 refl) ∙ ap₂ (λ (l : List Bool) (c : Cursor). l ++ peeked n bytes c) both.0 both.1
seen_after n bytes bit seen bits to (Err fault) h e = absurd (not_both bits to fault e)

seen_first : (n more : ℕ) (bytes : List ℕ) (bits : List Bool) (to : Cursor) (r : Result (Bool × Cursor) BitFault)
    → ((from : Cursor) (bits : List Bool) (end : Cursor) → bits_at n bytes from ≡ some_bits bits end → peeked (n + more) bytes from ≡ bits ++ peeked more bytes end)
    → and_then r (λ first. after_bit first.0 (bits_at n bytes first.1)) ≡ some_bits bits to → bit_or (n + more) r (λ next. peeked (n + more) bytes next) ≡ bits ++ peeked more bytes to
seen_first n more bytes bits to (Ok x) h e = seen_after more bytes x.0 (peeked (n + more) bytes x.1) bits to (bits_at n bytes x.1) (h x.1) e
seen_first n more bytes bits to (Err fault) h e = absurd (not_both bits to fault e)

pub peeked_first : ArePeeked
unfolding bits_at peeked
peeked_first zero more bytes from to bits e =
    let both = is_both {A = List Bool} {B = Cursor} ([], from) (bits, to) e in
    ap (λ (n : ℕ). peeked n bytes from) (zero-add more) ∙ ap₂ (λ (l : List Bool) (c : Cursor). l ++ peeked more bytes c) both.0 both.1
peeked_first (suc n) more bytes from to bits e =
    let s : suc n + more ≡ suc (n + more) = omega arith in
    ap (λ (k : ℕ). peeked k bytes from) s ∙ seen_first n more bytes bits to (bit_at bytes from) (λ at bits end. peeked_first n more bytes at end bits) e

seen : (n : ℕ) (bytes : List ℕ) (from : Cursor) (bits : List Bool) (to : Cursor) → bits_at n bytes from ≡ some_bits bits to → peeked n bytes from ≡ bits
unfolding peeked
seen n bytes from bits to e =
    let s : n ≡ n + 0 = omega arith in
    ap (λ (k : ℕ). peeked k bytes from) s ∙ peeked_first n 0 bytes from to bits e ∙ append-nil bits

-- the number that is seen
pub number_seen : (bytes : List ℕ) (from : Cursor) (number : ℕ) → number < 512 → low_bits 9 number ≡ peeked 9 bytes from → number ≡ number_of (peeked 9 bytes from)
number_seen bytes from number h e = sym (number_again 9 number h) ∙ ap number_of e

pub taken_seen : (bytes : List ℕ) (from to : Cursor) (number : ℕ) → number < 512 → bits_at 9 bytes from ≡ some_bits (low_bits 9 number) to → number ≡ number_of (peeked 9 bytes from)
taken_seen bytes from to number h e = number_seen bytes from number h (sym (seen 9 bytes from (low_bits 9 number) to e))

-- some bits of a unit more
unit_taken : (bytes : List ℕ) (at full next : Cursor) (k prefix : ℕ) (ys : List Bool) → filled bytes at ≡ Ok full → 0 < k → prefix < 2 ^ k
    → full.left ≡ low_bits k prefix ++ ys → next ≡ record full { left = ys } → bits_at k bytes at ≡ some_bits (low_bits k prefix) next
unit_taken bytes at full next k prefix ys unit some below split e =
    let n : k ≡ 0 + k = omega arith in
    let number : 0 * 2 ^ k + prefix ≡ prefix = omega arith in
    ap (λ (j : ℕ). bits_at j bytes at) n ∙ number_taken bytes at at full next 0 k 0 prefix ys (none_yet bytes at) unit some below split e
    ∙ ap₂ (λ (j v : ℕ). some_bits (low_bits j v) next) (sym n) number

pub seen_more : (k w number prefix next : ℕ) (bytes : List ℕ) (at full to : Cursor) (ys whole : List Bool) → 0 < k → k ≤ w → w ≤ 9 → number < 2 ^ (9 - w) → prefix < 2 ^ k
    → filled bytes at ≡ Ok full → full.left ≡ low_bits k prefix ++ ys → to ≡ record full { left = ys } → next ≡ number * 2 ^ k % 2 ^ 16 + prefix
    → low_bits (9 - w) number ++ peeked w bytes at ≡ whole → (next < 2 ^ (9 - (w - k))) × (low_bits (9 - (w - k)) next ++ peeked (w - k) bytes to ≡ whole)
seen_more k w number prefix next bytes at full to ys whole some few nine below small unit split e is h =
    let m = 9 - w in
    let rest = w - k in
    let wide : 9 - rest ≡ m + k = omega arith in
    let all : w ≡ k + rest = omega arith in
    let grown : next ≡ number * 2 ^ k + prefix = is ∙ ap (λ (x : ℕ). x + prefix) (shl_whole number m k 16 below (omega arith)) in
    let taken = unit_taken bytes at full to k prefix ys unit some small split e in (
      rw (wide, grown) (joined_below m k number prefix below small),
      rw (wide, grown) (
          ap (λ (l : List Bool). l ++ peeked rest bytes to) (low_bits-join m k number prefix small)
          ∙ append_assoc (low_bits m number) (low_bits k prefix) (peeked rest bytes to)
          ∙ ap (λ (l : List Bool). low_bits m number ++ l) (sym (ap (λ (n : ℕ). peeked n bytes at) all ∙ peeked_first k rest bytes at to (low_bits k prefix) taken)) ∙ h
          ),
    )

-- no bit more
seen_end : (k w number : ℕ) (bytes : List ℕ) (at : Cursor) (fault : BitFault) (whole : List Bool) → 0 < w → filled bytes at ≡ Err fault
    → low_bits k number ++ peeked w bytes at ≡ whole → low_bits (k + w) (number * 2 ^ w) ≡ whole
seen_end k zero number bytes at fault whole some e h = absurd (omega arith)
seen_end k (suc m) number bytes at fault whole some e h =
    let w = suc m in
    let plain : number * 2 ^ w ≡ number * 2 ^ w + 0 = omega arith in
    let one : m + 1 ≡ suc m = omega arith in
    let none : peeked w bytes at ≡ replicate w false = peeked_none m bytes at fault (bit_fault bytes at fault e) ∙ ap (λ (n : ℕ). replicate n false) one in
    ap (low_bits (k + w)) plain ∙ low_bits-join k w number 0 (pow_pos w)
    ∙ ap (λ (l : List Bool). low_bits k number ++ l) (zeros_are w ∙ sym none) ∙ h

-- what is seen when no bit is missing
pub seen_all : (k w number : ℕ) (bytes : List ℕ) (at : Cursor) (whole : List Bool) → w ≡ 0 → k ≡ 9 → low_bits k number ++ peeked w bytes at ≡ whole → low_bits 9 number ≡ whole
unfolding peeked
seen_all k w number bytes at whole none all h =
    sym (append-nil (low_bits 9 number)) ∙ ap₂ (λ (a b : ℕ). low_bits a number ++ peeked b bytes at) (sym all) (sym none) ∙ h

-- zeros after some bits
pub with_zeros : (w number next : ℕ) → w ≤ 9 → number < 2 ^ (9 - w) → next ≡ number * 2 ^ w % 2 ^ 16 → (next ≡ number * 2 ^ w) × (next < 512)
with_zeros w number next few below is =
    let e : 9 - w + w ≡ 9 = omega arith in
    let same : next ≡ number * 2 ^ w = is ∙ shl_whole number (9 - w) w 16 below (omega arith) in
    let h : number * 2 ^ w < 2 ^ (9 - w + w) = shl_below number (9 - w) w below in
    (same, rw same (rw e at h))

pub ended_seen : (w number next : ℕ) (bytes : List ℕ) (at : Cursor) (fault : BitFault) (whole : List Bool) → 0 < w → w ≤ 9 → number < 2 ^ (9 - w) → next ≡ number * 2 ^ w % 2 ^ 16
    → filled bytes at ≡ Err fault → low_bits (9 - w) number ++ peeked w bytes at ≡ whole → low_bits 9 next ≡ whole
ended_seen w number next bytes at fault whole some few below is e h =
    let same = (with_zeros w number next few below is).0 in
    let nine : 9 ≡ 9 - w + w = omega arith in
    ap₂ low_bits nine same ∙ seen_end (9 - w) w number bytes at fault whole some e h
