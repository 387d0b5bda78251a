-- Long code words: the ends that are kept, and a word that is read by sixteen bits.
use Rattle.std.proofs.Common.{◌≡◌, ℕ, ◌+◌, ◌-◌, ◌*◌, ◌/◌, ◌^◌, ◌<◌, ◌≤◌, List, [], ◌∷◌, ◌++◌, length, take, drop, set, get_or, Some, Ok, refl, sym, ap, ap₂, ◌∙◌, subst, arith, rules, append-nil, append_assoc, take_at, take_all}
use Rattle.std.proofs.lemmas.List.{take_more_set, length-set}
use Rattle.std.proofs.lemmas.Nat.{pow-add}
use Rattle.std.proofs.Math.Nat.{mul-le-mul_right}
use Rattle.bit_list.specs.Bits.{low_bits}
use Rattle.bit_list.specs.NumbersOfBits.{length-low_bits}
use Rattle.bit_list.specs.Peeked.{peeked}
use Rattle.bit_list.specs.Units.{Cursor, bits_at}
use Rattle.bit_list.proofs.LowBits.{take-low_bits}
use Rattle.bit_list.proofs.Peeking.{peeked_first}
use Rattle.jpeg_marker.specs.HuffmanTables.{TableFields, IsTable}
use Rattle.huff_table.specs.CodeWords.{word_of}
use Rattle.huff_table.specs.Decoding.{value_at}
use Rattle.huff_table.specs.LongWords.{word_ends, value_ends}
use Rattle.huff_table.proofs.Fits.{HasRoom, room_of_size, room_next, room_of_table}
use Rattle.huff_table.proofs.Decoded.{drop_next, all_dropped}
use Rattle.huff_table.proofs.WordReading.{word_is_read}

-- the ends of the words of the first sizes are made
pub record WordEnds (ends : List ℕ) (index first : ℕ) (counts : List ℕ) : Type 0 where
  pub size : length ends ≡ 16
  pub room : HasRoom (index + 1) first (drop index counts)
  pub made : take index ends ++ word_ends (15 - index) first (drop index counts) ≡ word_ends 15 0 counts

pub word_ends_start : (table : TableFields) → IsTable table → (ends : List ℕ) → length ends ≡ 16 → WordEnds ends 0 0 table.counts
word_ends_start table is ends size = record { size = size; room = room_of_table table is; made = refl }

turn : (counts : List ℕ) (index count : ℕ) → index < length counts → count ≡ get_or counts index 0 → drop index counts ≡ count ∷ drop (index + 1) counts
turn counts index count within is = drop_next counts index within ∙ ap (λ n. n ∷ drop (index + 1) counts) (sym is)

pub end_fits : {ends : List ℕ} {index first : ℕ} {counts : List ℕ} (count : ℕ) → WordEnds ends index first counts → index < length counts → count ≡ get_or counts index 0 → (first + count) * 2 ^ (15 - index) ≤ 65536
end_fits {ends} {index} {first} {counts} count at within is =
    let room = subst (HasRoom (index + 1) first) (turn counts index count within is) at.room in
    let few = room_of_size (index + 1) first count (drop (index + 1) counts) room in
    let sizes : index + 1 + (15 - index) ≡ 16 = omega (arith, room.sizes) in
    let whole : 2 ^ (index + 1) * 2 ^ (15 - index) ≡ 65536 = sym (pow-add 2 (index + 1) (15 - index)) ∙ ap (λ n. 2 ^ n) sizes in
    let most : (first + count) * 2 ^ (15 - index) ≤ 2 ^ (index + 1) * 2 ^ (15 - index) = mul-le-mul_right (2 ^ (15 - index)) few in
    omega (arith, most, whole)

pub end_below : {ends : List ℕ} {index first : ℕ} {counts : List ℕ} (count : ℕ) → WordEnds ends index first counts → index < length counts → count ≡ get_or counts index 0 → first + count ≤ 65536
end_below {ends} {index} {first} {counts} count at within is =
    let most = end_fits count at within is in
    let some : 1 ≤ 2 ^ (15 - index) = search rules in
    let least : 1 * (first + count) ≤ 2 ^ (15 - index) * (first + count) = mul-le-mul_right (first + count) some in
    omega (arith, most, least)

pub word_end_made : {ends : List ℕ} {index first : ℕ} {counts : List ℕ} (count end : ℕ) → WordEnds ends index first counts → length counts ≡ 16 → index < 16 → count ≡ get_or counts index 0 → end ≡ (first + count) * 2 ^ (15 - index)
    → WordEnds (set ends index end) (index + 1) (2 * (first + count)) counts
word_end_made {ends} {index} {first} {counts} count end at long below is value =
    let within : index < length counts = omega (arith, long, below) in
    let here = turn counts index count within is in
    let rest = drop (index + 1) counts in
    let one : 15 - index - 1 ≡ 15 - (index + 1) = omega arith in
    record {
      size = length-set ends index end ∙ at.size;
      room = room_next (index + 1) first count rest (subst (HasRoom (index + 1) first) here at.room);
      made = ap (λ l. l ++ word_ends (15 - (index + 1)) (2 * (first + count)) rest) (take_more_set ends index end (omega (arith, at.size, below)))
          ∙ append_assoc (take index ends) (end ∷ []) (word_ends (15 - (index + 1)) (2 * (first + count)) rest)
          ∙ ap₂ (λ x n. take index ends ++ x ∷ word_ends n (2 * (first + count)) rest) value (sym one)
          ∙ ap (λ l. take index ends ++ word_ends (15 - index) first l) (sym here)
          ∙ at.made;
    }

pub word_ends_made : {ends : List ℕ} {index first : ℕ} {counts : List ℕ} → WordEnds ends index first counts → length counts ≡ 16 → 16 ≤ index → ends ≡ word_ends 15 0 counts
word_ends_made {ends} {index} {first} {counts} at long past =
    sym (append-nil ends) ∙ ap (λ l. l ++ []) (sym (take_all index ends (omega (arith, at.size, past))))
    ∙ ap (λ l. take index ends ++ word_ends (15 - index) first l) (sym (all_dropped counts index (omega (arith, long, past)))) ∙ at.made

-- the ends of the values of the first sizes are made
pub record ValueEnds (ends : List ℕ) (index end : ℕ) (counts : List ℕ) : Type 0 where
  pub size : length ends ≡ 16
  pub few : end ≤ 255 * index
  pub made : take index ends ++ value_ends end (drop index counts) ≡ value_ends 0 counts

pub value_ends_start : (counts ends : List ℕ) → length ends ≡ 16 → ValueEnds ends 0 0 counts
value_ends_start counts ends size = record { size = size; few = omega arith; made = refl }

pub value_end_made : {ends : List ℕ} {index end : ℕ} {counts : List ℕ} (count next : ℕ) → ValueEnds ends index end counts → length counts ≡ 16 → index < 16 → count ≡ get_or counts index 0 → count ≤ 255 → next ≡ end + count
    → ValueEnds (set ends index next) (index + 1) next counts
value_end_made {ends} {index} {end} {counts} count next at long below is byte value =
    let within : index < length counts = omega (arith, long, below) in
    let here = turn counts index count within is in
    let rest = drop (index + 1) counts in
    record {
      size = length-set ends index next ∙ at.size;
      few = omega (arith, at.few, byte, value);
      made = ap (λ l. l ++ value_ends next rest) (take_more_set ends index next (omega (arith, at.size, below)))
          ∙ append_assoc (take index ends) (next ∷ []) (value_ends next rest)
          ∙ ap (λ n. take index ends ++ n ∷ value_ends n rest) value
          ∙ ap (λ l. take index ends ++ value_ends end l) (sym here)
          ∙ at.made;
    }

pub value_ends_made : {ends : List ℕ} {index end : ℕ} {counts : List ℕ} → ValueEnds ends index end counts → length counts ≡ 16 → 16 ≤ index → ends ≡ value_ends 0 counts
value_ends_made {ends} {index} {end} {counts} at long past =
    sym (append-nil ends) ∙ ap (λ l. l ++ []) (sym (take_all index ends (omega (arith, at.size, past))))
    ∙ ap (λ l. take index ends ++ value_ends end l) (sym (all_dropped counts index (omega (arith, long, past)))) ∙ at.made

-- a word that sixteen bits begin with
pub begins : (number code size : ℕ) → 1 ≤ size → size ≤ 16 → code ≡ number / 2 ^ (16 - size) → low_bits size code ≡ take size (low_bits 16 number)
begins number code size some few is =
    let whole : 16 ≡ size + (16 - size) = omega (arith, few) in
    ap (low_bits size) is ∙ sym (ap (λ n. take size (low_bits n number)) whole ∙ take-low_bits size (16 - size) number)

-- its bits, if they are taken
pub long_taken : (bytes : List ℕ) (from ahead to : Cursor) (number size taken : ℕ) → size ≤ 16 → bits_at 16 bytes from ≡ Ok (low_bits 16 number, ahead) → bits_at size bytes from ≡ Ok (low_bits size taken, to)
    → take size (low_bits 16 number) ≡ low_bits size taken
unfolding peeked
long_taken bytes from ahead to number size taken few seen read =
    let rest = 16 - size in
    let whole : 16 ≡ size + rest = omega (arith, few) in
    let all : peeked 16 bytes from ≡ low_bits 16 number = peeked_first 16 0 bytes from ahead (low_bits 16 number) seen ∙ append-nil (low_bits 16 number) in
    ap (take size) (sym all) ∙ ap (λ n. take size (peeked n bytes from)) whole ∙ ap (take size) (peeked_first size rest bytes from to (low_bits size taken) read)
    ∙ take_at (low_bits size taken) (peeked rest bytes to) size (length-low_bits size taken)

-- it is read then
pub long_is_read : (table : TableFields) (bytes : List ℕ) (from ahead to : Cursor) (number value size taken : ℕ) → IsTable table → size ≤ 16 → word_of table value ≡ Some (take size (low_bits 16 number))
    → bits_at 16 bytes from ≡ Ok (low_bits 16 number, ahead) → bits_at size bytes from ≡ Ok (low_bits size taken, to) → value_at table bytes from ≡ Ok (value, to)
long_is_read table bytes from ahead to number value size taken is few word seen read =
    word_is_read table bytes from to value (low_bits size taken) is (word ∙ ap Some (long_taken bytes from ahead to number size taken few seen read))
    (ap (λ n. bits_at n bytes from) (length-low_bits size taken) ∙ read)
