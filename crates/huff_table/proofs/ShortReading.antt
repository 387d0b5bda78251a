-- Short code words by the next nine bits, and how the table of them is made.
use Rattle.std.proofs.Common.{◌≡◌, ◌≢◌, ℕ, zero, suc, ◌+◌, ◌-◌, ◌*◌, ◌/◌, ◌^◌, ◌<◌, ◌≤◌, Bool, true, List, ◌∷◌, ◌++◌, length, map, take, drop, get_or, Option, Some, None, Result, Ok, Err, IfOk, inl, inr, refl, sym, ap, ap₂, ◌∙◌, subst, arith, zero-add}
use Rattle.std.specs.Result.{is_ok}
use Rattle.std.specs.List.{range_with_len}
use Rattle.std.proofs.lemmas.Bool.{cases_lt, false≢true}
use Rattle.std.proofs.lemmas.Nat.{shr_below}
use Rattle.std.proofs.lemmas.List.{take_at, same_lists}
use Rattle.std.proofs.lemmas.List.FromFn.{get_or-map-range_with_len, length-map-range_with_len}
use Rattle.bit_list.specs.Bits.{low_bits, number_of}
use Rattle.bit_list.specs.NumbersOfBits.{length-low_bits, number_again}
use Rattle.bit_list.specs.Peeked.{peeked}
use Rattle.bit_list.specs.Units.{Cursor, bits_at}
use Rattle.bit_list.specs.declared.fault.BitFault.{BitFault}
use Rattle.bit_list.proofs.LowBits.{bits_again, take-low_bits}
use Rattle.bit_list.proofs.Peeking.{peeked_first, length-peeked}
use Rattle.jpeg_marker.specs.HuffmanTables.{TableFields, IsTable}
use Rattle.huff_table.specs.CodeWords.{word_of, value_of}
use Rattle.huff_table.specs.Decoding.{value_at}
use Rattle.huff_table.specs.Levels.{levels, value_among}
use Rattle.huff_table.specs.ShortWords.{no_short, short_or, short_from, by_bits}
use Rattle.huff_table.specs.declared.word.ShortWord.{ShortWord}
use Rattle.huff_table.proofs.Fits.{HasRoom, room_of_table, room_next}
use Rattle.huff_table.proofs.Found.{value_by, found_now, found_later, found_in_table}
use Rattle.huff_table.proofs.Lookup.{words_of_values, values_of_words, word_size}
use Rattle.huff_table.proofs.WordReading.{word_is_read}
use Rattle.huff_table.proofs.Decoded.{Turn, counts_left}

abbrev pub short_word : ℕ → ℕ → ShortWord
short_word value size = record { value = value; size = size }

-- what is found stands at its size
record IsFound (table : TableFields) (bits : List Bool) (size more : ℕ) (word : ShortWord) : Type 0 where
  from : size ≤ word.size
  upto : word.size < size + more
  value : value_of table (take word.size bits) ≡ Some word.value

short_found : (table : TableFields) (bits : List Bool) (size more : ℕ) → (short_from table bits size more).size ≢ 0 → IsFound table bits size more (short_from table bits size more)
unfolding short_from
short_found table bits size zero some = absurd (some refl)
short_found table bits size (suc more) some =
    let later = short_from table bits (size + 1) more in
    let P : Option ℕ → Type 0 = λ o. value_of table (take size bits) ≡ o → (short_or o size later).size ≢ 0 → IsFound table bits size (suc more) (short_or o size later) in
    (elim (value_of table (take size bits)) as P [
      | Some value ↦ λ is _. record { from = omega arith; upto = omega arith; value = is }
      | None ↦ λ _ h. let rest = short_found table bits (size + 1) more h in record { from = omega (arith, rest.from); upto = omega (arith, rest.upto); value = rest.value }
    ]) refl some

-- where nothing is found, no size has a word
short_none : (table : TableFields) (bits : List Bool) (size more k : ℕ) → 1 ≤ size → (short_from table bits size more).size ≡ 0 → size ≤ k → k < size + more → value_of table (take k bits) ≡ None
unfolding short_from
short_none table bits size zero k some none low high = absurd (omega arith)
short_none table bits size (suc more) k some none low high =
    let later = short_from table bits (size + 1) more in
    let P : Option ℕ → Type 0 = λ o. value_of table (take size bits) ≡ o → (short_or o size later).size ≡ 0 → value_of table (take k bits) ≡ None in
    (elim (value_of table (take size bits)) as P [
      | Some value ↦ λ _ h. absurd (omega (arith, h))
      | None ↦ λ is h. elim (cases_lt size k) [
        | inl above ↦ short_none table bits (size + 1) more k (omega arith) h (omega arith) (omega arith)
        | inr below ↦ let same : k ≡ size = omega arith in ap (λ n. value_of table (take n bits)) same ∙ is
      ]
    ]) refl none

-- what stands at an index of the table
pub short_at : (table : TableFields) (index : ℕ) → index < 512 → get_or (by_bits table) index no_short ≡ short_from table (low_bits 9 index) 1 9
unfolding by_bits
short_at table index below = get_or-map-range_with_len (λ i. short_from table (low_bits 9 i) 1 9) 0 512 index index no_short below (zero-add index)

-- a word that is found
pub record IsQuick (table : TableFields) (bits : List Bool) (word : ShortWord) : Type 0 where
  pub some : 1 ≤ word.size
  pub few : word.size ≤ 9
  pub is : word_of table word.value ≡ Some (take word.size bits)

pub quick_found : (table : TableFields) (index : ℕ) (found : ShortWord) → IsTable table → index < 512 → found ≡ get_or (by_bits table) index no_short → found.size ≢ 0 → IsQuick table (low_bits 9 index) found
quick_found table index found is below e some =
    let bits = low_bits 9 index in
    let same : found ≡ short_from table bits 1 9 = e ∙ short_at table index below in
    let at = short_found table bits 1 9 (subst (λ (w : ShortWord). w.size ≢ 0) same some) in
    subst (IsQuick table bits) (sym same) (record {
      some = at.from;
      few = omega (arith, at.upto);
      is = values_of_words table _ _ is at.value;
    })

-- no word that could be found
pub quick_none : (table : TableFields) (index : ℕ) (found : ShortWord) → IsTable table → index < 512 → found ≡ get_or (by_bits table) index no_short → found.size ≡ 0
    → (value : ℕ) (word more : List Bool) → word_of table value ≡ Some word → length word ≤ 9 → low_bits 9 index ≡ word ++ more → ⊥
quick_none table index found is below e nothing value word more its few begins =
    let bits = low_bits 9 index in
    let same : found ≡ short_from table bits 1 9 = e ∙ short_at table index below in
    let size = word_size table value word is its in
    let none = short_none table bits 1 9 (length word) (omega arith) (ap (λ (w : ShortWord). w.size) (sym same) ∙ nothing) size.0 (omega (arith, few)) in
    let first : take (length word) bits ≡ word = ap (take (length word)) begins ∙ take_at word more (length word) refl in
    let clash = sym none ∙ ap (value_of table) first ∙ words_of_values table value word is its in
    absurd (cc)

-- what was taken, where something was
pub taken_value : (r : Result ℕ BitFault) (P : ℕ → Type 0) → is_ok r ≡ true → IfOk r P → (v : ℕ) × P v
taken_value (Ok v) P t p = (v, p)
taken_value (Err fault) P t p = absurd (false≢true t)

-- a quick word whose bits are taken is read
pub quick_is_read : (table : TableFields) (bytes : List ℕ) (from to : Cursor) (index value size number : ℕ) → IsTable table → index ≡ number_of (peeked 9 bytes from) → size ≤ 9
    → word_of table value ≡ Some (take size (low_bits 9 index)) → bits_at size bytes from ≡ Ok (low_bits size number, to) → value_at table bytes from ≡ Ok (value, to)
quick_is_read table bytes from to index value size number is peek few word taken =
    let seen = peeked 9 bytes from in
    let rest = 9 - size in
    let whole : 9 ≡ size + rest = omega arith in
    let bits : low_bits 9 index ≡ seen = ap (low_bits 9) peek ∙ ap (λ n. low_bits n (number_of seen)) (sym (length-peeked 9 bytes from)) ∙ bits_again seen in
    let long = length-low_bits size number in
    let first : take size (low_bits 9 index) ≡ low_bits size number = ap (take size) bits ∙ ap (λ n. take size (peeked n bytes from)) whole
    ∙ ap (take size) (peeked_first size rest bytes from to (low_bits size number) taken) ∙ take_at (low_bits size number) (peeked rest bytes to) size long in
    word_is_read table bytes from to value (low_bits size number) is (word ∙ ap Some first) (ap (λ n. bits_at n bytes from) long ∙ taken)

-- Smaller sizes were passed, and none has a word that these bits begin with.
pub record Passes (table : TableFields) (bits : List Bool) (index first : ℕ) (counts values : List ℕ) : Type 0 where
  pub later : (word : List Bool) → index < length word → value_of table word ≡ value_by (length word) (number_of word) (levels (index + 1) first counts values)
  pub room : HasRoom (index + 1) first counts
  pub rest : short_from table bits 1 9 ≡ short_from table bits (index + 1) (9 - index)

pub passes_start : (table : TableFields) (bits : List Bool) → IsTable table → Passes table bits 0 0 table.counts table.values
passes_start table bits is = record { later = λ word _. found_in_table table is word; room = room_of_table table is; rest = refl }

-- the value of the first bits
value_now : (table : TableFields) (number index first count : ℕ) (counts values : List ℕ) → number < 512 → index < 9 → Passes table (low_bits 9 number) index first (count ∷ counts) values
    → value_of table (take (index + 1) (low_bits 9 number)) ≡ value_among (take count values) first (number / 2 ^ (8 - index))
value_now table number index first count counts values below few at =
    let size = index + 1 in
    let more = 8 - index in
    let code = number / 2 ^ more in
    let whole : 9 ≡ size + more = omega arith in
    let power : 2 ^ (size + more) ≡ 512 = ap (λ n. 2 ^ n) (sym whole) in
    let fits : number < 2 ^ (size + more) = omega (arith, power, below) in
    let bits : take size (low_bits 9 number) ≡ low_bits size code = ap (λ n. take size (low_bits n number)) whole ∙ take-low_bits size more number in
    let long : length (low_bits size code) ≡ size = length-low_bits size code in
    ap (value_of table) bits ∙ at.later (low_bits size code) (omega arith)
    ∙ ap₂ (λ s c. value_by s c (levels (index + 1) first (count ∷ counts) values)) long (number_again size code (shr_below number size more fits))
    ∙ found_now size code first count counts values

short_step : (table : TableFields) (bits : List Bool) (size more : ℕ) (found : Option ℕ) → value_of table (take size bits) ≡ found → short_from table bits size (suc more) ≡ short_or found size (short_from table bits (size + 1) more)
unfolding short_from
short_step table bits size more found e = ap (λ o. short_or o size (short_from table bits (size + 1) more)) e

passes_step : (table : TableFields) (number index first count : ℕ) (counts values : List ℕ) (found : Option ℕ) → number < 512 → index < 9 → Passes table (low_bits 9 number) index first (count ∷ counts) values
    → value_among (take count values) first (number / 2 ^ (8 - index)) ≡ found
    → short_from table (low_bits 9 number) 1 9 ≡ short_or found (index + 1) (short_from table (low_bits 9 number) (index + 1 + 1) (9 - (index + 1)))
passes_step table number index first count counts values found below few at e =
    let turns : 9 - index ≡ suc (9 - (index + 1)) = omega arith in
    at.rest ∙ ap (short_from table (low_bits 9 number) (index + 1)) turns
    ∙ short_step table (low_bits 9 number) (index + 1) (9 - (index + 1)) found (value_now table number index first count counts values below few at ∙ e)

pub passes_found : (table : TableFields) (number index first count value : ℕ) (counts values : List ℕ) → number < 512 → index < 9 → Passes table (low_bits 9 number) index first (count ∷ counts) values
    → value_among (take count values) first (number / 2 ^ (8 - index)) ≡ Some value → short_from table (low_bits 9 number) 1 9 ≡ record { value = value; size = index + 1 }
passes_found table number index first count value counts values below few at e = passes_step table number index first count counts values (Some value) below few at e

pub passes_more : (table : TableFields) (number index first count : ℕ) (counts values : List ℕ) → number < 512 → index < 9 → Passes table (low_bits 9 number) index first (count ∷ counts) values
    → value_among (take count values) first (number / 2 ^ (8 - index)) ≡ None → Passes table (low_bits 9 number) (index + 1) (2 * (first + count)) counts (drop count values)
passes_more table number index first count counts values below few at e = record {
  later = λ word more. at.later word (omega arith) ∙ found_later (length word) (index + 1) (number_of word) first count counts values more;
  room = room_next (index + 1) first count counts at.room;
  rest = passes_step table number index first count counts values None below few at e;
}

pub passes_end : (table : TableFields) (bits : List Bool) (index first : ℕ) (counts values : List ℕ) → 9 ≤ index → Passes table bits index first counts values → short_from table bits 1 9 ≡ no_short
unfolding short_from
passes_end table bits index first counts values past at =
    let none : 9 - index ≡ 0 = omega arith in
    at.rest ∙ ap (short_from table bits (index + 1)) none

-- what a turn comes to
turn_passes : {table : TableFields} {bits : List Bool} {index first count : ℕ} {counts values these longer : List ℕ} → Turn index count counts values these longer
    → Passes table bits index first (drop index counts) values → Passes table bits index first (count ∷ drop (index + 1) counts) values
turn_passes {table} {bits} {index} {first} {count} {counts} {values} {these} {longer} turn at =
    subst (λ (l : List ℕ). Passes table bits index first l values) (counts_left index count counts values these longer turn) at

pub short_is : {table : TableFields} {index first count : ℕ} {counts values these longer : List ℕ} (number code value : ℕ) → number < 512 → index < 9 → code ≡ number / 2 ^ (8 - index)
    → Turn index count counts values these longer → Passes table (low_bits 9 number) index first (drop index counts) values
    → value_among these first code ≡ Some value → short_word value (index + 1) ≡ short_from table (low_bits 9 number) 1 9
short_is {table} {index} {first} {count} {counts} {values} {these} {longer} number code value below few e turn at found =
    sym (passes_found table number index first count value (drop (index + 1) counts) values below few (turn_passes turn at) (ap₂ (λ vs c. value_among vs first c) (sym turn.prefix) (sym e) ∙ found))

pub short_later : {table : TableFields} {index first count : ℕ} {counts values these longer : List ℕ} (number code : ℕ) → number < 512 → index < 9 → code ≡ number / 2 ^ (8 - index)
    → Turn index count counts values these longer → Passes table (low_bits 9 number) index first (drop index counts) values
    → value_among these first code ≡ None → Passes table (low_bits 9 number) (index + 1) (2 * (first + count)) (drop (index + 1) counts) longer
short_later {table} {index} {first} {count} {counts} {values} {these} {longer} number code below few e turn at none =
    subst (λ (l : List ℕ). Passes table (low_bits 9 number) (index + 1) (2 * (first + count)) (drop (index + 1) counts) l) (sym turn.back)
    (passes_more table number index first count (drop (index + 1) counts) values below few (turn_passes turn at) (ap₂ (λ vs c. value_among vs first c) (sym turn.prefix) (sym e) ∙ none))

-- the first entries of the table are made
abbrev pub AreMade : TableFields → ℕ → List ShortWord → Type 0
AreMade table index words = (k : ℕ) (d : ShortWord) → k < index → get_or words k d ≡ short_from table (low_bits 9 k) 1 9

pub made_all : (table : TableFields) (index : ℕ) (words : List ShortWord) → length words ≡ 512 → 512 ≤ index → AreMade table index words → words ≡ by_bits table
unfolding by_bits
made_all table index words size past made =
    let f = λ (i : ℕ). short_from table (low_bits 9 i) 1 9 in
    same_lists words (map f (range_with_len 0 512)) (size ∙ sym (length-map-range_with_len f 0 512))
    (λ k d h. made k d (omega arith) ∙ sym (get_or-map-range_with_len f 0 512 k k d (omega arith) (zero-add k)))
