-- What stands at a cursor is what is read there.
use Rattle.std.proofs.Common.{◌≡◌, ℕ, zero, suc, ◌+◌, ◌-◌, ◌<◌, Bool, List, [], ◌∷◌, ◌++◌, length, Option, Some, None, Result, Ok, Err, refl, sym, ap, ap₂, ◌∙◌, subst, arith, append-nil, append_assoc, length-append, get_or, drop, zero-add}
use Rattle.std.proofs.lemmas.Option.{same_Some}
use Rattle.bit_list.specs.Units.{Cursor, bit_at, bits_at, and_then}
use Rattle.bit_list.specs.declared.fault.BitFault.{BitFault}
use Rattle.jpeg_marker.specs.HuffmanTables.{TableFields, IsTable}
use Rattle.huff_table.specs.CodeWords.{word_of, value_of}
use Rattle.huff_table.specs.Decoding.{value_after, value_at, AreNoWord, IsFaultAt}
use Rattle.huff_table.specs.declared.fault.CodeFault.{CodeFault}
use Rattle.huff_table.specs.declared.fault.CodeFault.TheVariants.{Bits, NoWord}
use Rattle.huff_table.proofs.Decoded.{taken_more, after_bit, after_fault, after_none, length_more}
use Rattle.huff_table.proofs.Lookup.{words_of_values, values_of_words, one_begins, word_size}

-- the next bits are a next one and those after it
abbrev Read : Type 0
Read = Result (List Bool × Cursor) BitFault

abbrev Value : Type 0
Value = Result (ℕ × Cursor) CodeFault

-- what there is, or else this
abbrev or_this : {A E : Type 0} → A → Result A E → A
or_this a (Ok x) = x
or_this a (Err e) = a

abbrev fault_or : CodeFault → Value → CodeFault
fault_or a (Ok x) = a
fault_or a (Err e) = e

same_bits : (a b : List Bool) (x y : Cursor) → ◌≡◌ {A = Read} (Ok (a, x)) (Ok (b, y)) → (a ≡ b) × (x ≡ y)
same_bits a b x y e = (ap (λ (r : Read). (or_this (a, x) r).0) e, ap (λ (r : Read). (or_this (a, x) r).1) e)

-- the parts of a value and a cursor
same_Ok : (a b : ℕ) (x y : Cursor) → ◌≡◌ {A = Result (ℕ × Cursor) CodeFault} (Ok (a, x)) (Ok (b, y)) → (a ≡ b) × (x ≡ y)
same_Ok a b x y e = (ap (λ (r : Value). (or_this (a, x) r).0) e, ap (λ (r : Value). (or_this (a, x) r).1) e)

-- the first bit of some bits
first_of : (b bit : Bool) (bits : List Bool) (to : Cursor) (r : Read) → and_then {A = List Bool × Cursor} {B = List Bool × Cursor} r (λ more. Ok (b ∷ more.0, more.1)) ≡ Ok (bit ∷ bits, to)
    → (b ≡ bit) × (r ≡ Ok (bits, to))
first_of b bit bits to (Err fault) e = absurd (cc)
first_of b bit bits to (Ok more) e =
    let same = same_bits (b ∷ more.0) (bit ∷ bits) more.1 to e in
    (ap (λ (l : List Bool). get_or l 0 b) same.0, ap₂ (λ (l : List Bool) (c : Cursor). Ok (l, c)) (ap (drop 1) same.0) same.1)

bits_first : (n : ℕ) (bytes : List ℕ) (at to : Cursor) (bit : Bool) (bits : List Bool) → bits_at (suc n) bytes at ≡ Ok (bit ∷ bits, to)
    → (next : Cursor) × (bit_at bytes at ≡ Ok (bit, next)) × (bits_at n bytes next ≡ Ok (bits, to))
unfolding bits_at
bits_first n bytes at to bit bits e =
    let Rest : Bool × Cursor → Read → Type 0 = λ first r. and_then {A = List Bool × Cursor} {B = List Bool × Cursor} r (λ more. Ok (first.0 ∷ more.0, more.1)) ≡ Ok (bit ∷ bits, to)
    → (first.0 ≡ bit) × (r ≡ Ok (bits, to)) in
    let P : Result (Bool × Cursor) BitFault → Type 0 = λ r. bit_at bytes at ≡ r → and_then {A = Bool × Cursor} {B = List Bool × Cursor} r (λ first. and_then (bits_at n bytes first.1) (λ more. Ok (first.0 ∷ more.0, more.1))) ≡ Ok (bit ∷ bits, to)
    → (next : Cursor) × (bit_at bytes at ≡ Ok (bit, next)) × (bits_at n bytes next ≡ Ok (bits, to)) in
    (elim (bit_at bytes at) as P [
      | Err fault ↦ λ _ bad. absurd (cc)
      | Ok first ↦ λ here whole.
          let parts : (first.0 ≡ bit) × (bits_at n bytes first.1 ≡ Ok (bits, to)) = first_of first.0 bit bits to (bits_at n bytes first.1) whole in
          (first.1, here ∙ ap (λ (b : Bool). Ok (b, first.1)) parts.0, parts.1)
    ]) refl e

-- what is read is the word of its value
pub value_read : (table : TableFields) (bytes : List ℕ) (from at to : Cursor) (more : ℕ) (prefix : List Bool) (value : ℕ) → IsTable table → bits_at (length prefix) bytes from ≡ Ok (prefix, at)
    → value_after table more bytes prefix at ≡ Ok (value, to) → (word : List Bool) × (word_of table value ≡ Some word) × (bits_at (length word) bytes from ≡ Ok (word, to))
value_read table bytes from at to zero prefix value is taken e = let none = sym (after_none table bytes prefix at) ∙ e in absurd (cc)
value_read table bytes from at to (suc more) prefix value is taken e =
    let Goal = (word : List Bool) × (word_of table value ≡ Some word) × (bits_at (length word) bytes from ≡ Ok (word, to)) in
    let P : Result (Bool × Cursor) BitFault → Type 0 = λ r. bit_at bytes at ≡ r → Goal in
    (elim (bit_at bytes at) as P [
      | Err fault ↦ λ bad. let clash = sym (after_fault table more bytes prefix at fault bad) ∙ e in absurd (cc)
      | Ok first ↦ λ here.
          let next = taken_more bytes from at first.1 prefix first.0 taken here in
          let Q : Option ℕ → Type 0 = λ o. value_of table (prefix ++ first.0 ∷ []) ≡ o → Goal in
          (elim (value_of table (prefix ++ first.0 ∷ [])) as Q [
            | None ↦ λ none. value_read table bytes from first.1 to more (prefix ++ first.0 ∷ []) value is next (sym (after_bit table more bytes prefix at first.1 first.0 None here none) ∙ e)
            | Some found ↦ λ some.
                let same = sym (after_bit table more bytes prefix at first.1 first.0 (Some found) here some) ∙ e in
                let pair = same_Ok found value first.1 to same in
                (prefix ++ first.0 ∷ [], values_of_words table value (prefix ++ first.0 ∷ []) is (some ∙ ap Some pair.0), next ∙ ap (λ (c : Cursor). Ok (prefix ++ first.0 ∷ [], c)) pair.1)
          ]) refl
    ]) refl

no_bits : (bytes : List ℕ) (at to : Cursor) → bits_at 0 bytes at ≡ Ok ([], to) → at ≡ to
unfolding bits_at
no_bits bytes at to e = (same_bits [] [] at to e).1

same_Err : (a b : CodeFault) → ◌≡◌ {A = Value} (Err a) (Err b) → a ≡ b
same_Err a b e = ap (fault_or a) e

-- no word is empty
no_empty_word : (table : TableFields) (value : ℕ) (more : List Bool) (word : List Bool) → IsTable table → word_of table value ≡ Some word → [] ≡ word ++ more → ⊥
no_empty_word table value more word is e f =
    let n = word_size table value word is e in
    omega (arith, n.0, ap length f, length-append word more)

none_yet : (table : TableFields) (bytes : List ℕ) (from : Cursor) → IsTable table → AreNoWord table bytes from [] from
unfolding bits_at
none_yet table bytes from is = record { stand = refl; none = λ value word more e f. no_empty_word table value more word is e f }

pub value_is_read : (table : TableFields) (bytes : List ℕ) (from to : Cursor) (value : ℕ) → IsTable table → value_at table bytes from ≡ Ok (value, to)
    → (word : List Bool) × (word_of table value ≡ Some word) × (bits_at (length word) bytes from ≡ Ok (word, to))
value_is_read table bytes from to value is e = value_read table bytes from from to 16 [] value is (none_yet table bytes from is).stand e

-- bits that no word begins, and their first ones, are no word
never_value : (table : TableFields) (bits prefix rest : List Bool) → IsTable table → ((value : ℕ) (word more : List Bool) → word_of table value ≡ Some word → bits ≡ word ++ more → ⊥)
    → bits ≡ prefix ++ rest → value_of table prefix ≡ None
never_value table bits prefix rest is none whole =
    let P : Option ℕ → Type 0 = λ o. value_of table prefix ≡ o → o ≡ None in
    (elim (value_of table prefix) as P [ None ↦ λ _. refl | Some x ↦ λ some. absurd (none x prefix rest (values_of_words table x prefix is some) whole) ]) refl

-- a word that goes on isn't one yet
no_value_yet : (table : TableFields) (value : ℕ) (prefix rest : List Bool) (bit : Bool) → IsTable table → word_of table value ≡ Some (prefix ++ bit ∷ rest) → value_of table prefix ≡ None
no_value_yet table value prefix rest bit is e =
    let P : Option ℕ → Type 0 = λ o. value_of table prefix ≡ o → o ≡ None in
    (elim (value_of table prefix) as P [
      | None ↦ λ _. refl
      | Some x ↦ λ some.
          let word = values_of_words table x prefix is some in
          let same = one_begins table x value prefix (bit ∷ rest) is word e in
          let both : prefix ≡ prefix ++ bit ∷ rest = same_Some _ _ (sym word ∙ ap (word_of table) same ∙ e) in
          absurd (omega (arith, ap length both, length-append prefix (bit ∷ rest)))
    ]) refl

-- the word of a value is read
word_read : (table : TableFields) (bytes : List ℕ) (at to : Cursor) (more : ℕ) (prefix rest : List Bool) (bit : Bool) (value : ℕ) → IsTable table → word_of table value ≡ Some (prefix ++ bit ∷ rest)
    → length rest < more → bits_at (suc (length rest)) bytes at ≡ Ok (bit ∷ rest, to) → value_after table more bytes prefix at ≡ Ok (value, to)
word_read table bytes at to zero prefix rest bit value is word room stand = absurd (omega arith)
word_read table bytes at to (suc more) prefix [] bit value is word room stand =
    let first = bits_first 0 bytes at to bit [] stand in
    let last = no_bits bytes first.0 to first.2 in
    after_bit table more bytes prefix at first.0 bit (Some value) first.1 (words_of_values table value (prefix ++ bit ∷ []) is word) ∙ ap (λ (c : Cursor). Ok (value, c)) last
word_read table bytes at to (suc more) prefix (next ∷ rest) bit value is word room stand =
    let first = bits_first (suc (length rest)) bytes at to bit (next ∷ rest) stand in
    let whole : word_of table value ≡ Some ((prefix ++ bit ∷ []) ++ next ∷ rest) = word ∙ ap Some (sym (append_assoc prefix (bit ∷ []) (next ∷ rest))) in
    after_bit table more bytes prefix at first.0 bit None first.1 (no_value_yet table value (prefix ++ bit ∷ []) rest next is whole)
    ∙ word_read table bytes first.0 to more (prefix ++ bit ∷ []) rest next value is whole (omega arith) first.2

pub word_is_read : (table : TableFields) (bytes : List ℕ) (from to : Cursor) (value : ℕ) (word : List Bool) → IsTable table → word_of table value ≡ Some word
    → bits_at (length word) bytes from ≡ Ok (word, to) → value_at table bytes from ≡ Ok (value, to)
word_is_read table bytes from to value [] is e stand = absurd (let n = word_size table value [] is e in omega (arith, n.0))
word_is_read table bytes from to value (bit ∷ rest) is e stand = word_read table bytes from to 16 [] rest bit value is e (let n = word_size table value (bit ∷ rest) is e in omega (arith, n.1)) stand

-- bits that are no word, and one more that makes none
push_begins : (prefix : List Bool) (bit m : Bool) (word ms : List Bool) → prefix ++ bit ∷ [] ≡ word ++ m ∷ ms → (rest : List Bool) × (prefix ≡ word ++ rest)
push_begins prefix bit m [] ms e = (prefix, refl)
push_begins [] bit m (x ∷ word) ms e = absurd (omega (arith, ap length e, length-append word (m ∷ ms)))
push_begins (f ∷ prefix) bit m (x ∷ word) ms e =
    let rest = push_begins prefix bit m word ms (ap (drop 1) e) in
    (rest.0, ap₂ (λ (b : Bool) (bs : List Bool). b ∷ bs) (ap (λ (l : List Bool). get_or l 0 f) e) rest.1)

push_none : (table : TableFields) (prefix : List Bool) (bit : Bool) → IsTable table → value_of table (prefix ++ bit ∷ []) ≡ None
    → ((value : ℕ) (word more : List Bool) → word_of table value ≡ Some word → prefix ≡ word ++ more → ⊥)
    → (value : ℕ) (word more : List Bool) → word_of table value ≡ Some word → prefix ++ bit ∷ [] ≡ word ++ more → ⊥
push_none table prefix bit is none before value word [] e f =
    let whole : word_of table value ≡ Some (prefix ++ bit ∷ []) = e ∙ ap Some (sym (append-nil word) ∙ sym f) in
    let clash = sym none ∙ words_of_values table value (prefix ++ bit ∷ []) is whole in
    absurd (cc)
push_none table prefix bit is none before value word (m ∷ ms) e f = let rest = push_begins prefix bit m word ms f in before value word rest.0 e rest.1

-- a fault is one of bits that are no word
fault_read : (table : TableFields) (bytes : List ℕ) (from at : Cursor) (more : ℕ) (prefix : List Bool) (fault : CodeFault) → IsTable table → AreNoWord table bytes from prefix at
    → length prefix + more ≡ 16 → value_after table more bytes prefix at ≡ Err fault → IsFaultAt table bytes from fault
fault_read table bytes from at zero prefix fault is missing many e =
    subst (IsFaultAt table bytes from) (same_Err (NoWord at.last) fault (sym (after_none table bytes prefix at) ∙ e)) (prefix, at, omega arith, missing, refl)
fault_read table bytes from at (suc more) prefix fault is missing many e =
    let P : Result (Bool × Cursor) BitFault → Type 0 = λ r. bit_at bytes at ≡ r → IsFaultAt table bytes from fault in
    (elim (bit_at bytes at) as P [
      | Err cause ↦ λ bad.
          subst (IsFaultAt table bytes from) (same_Err (Bits cause) fault (sym (after_fault table more bytes prefix at cause bad) ∙ e)) (prefix, at, omega arith, missing, bad)
      | Ok first ↦ λ here.
          let Q : Option ℕ → Type 0 = λ o. value_of table (prefix ++ first.0 ∷ []) ≡ o → IsFaultAt table bytes from fault in
          (elim (value_of table (prefix ++ first.0 ∷ [])) as Q [
            | None ↦ λ none.
                let one = length_more prefix first.0 in
                fault_read table bytes from first.1 more (prefix ++ first.0 ∷ []) fault is
                (record { stand = taken_more bytes from at first.1 prefix first.0 missing.stand here; none = push_none table prefix first.0 is none missing.none })
                (omega (arith, one)) (sym (after_bit table more bytes prefix at first.1 first.0 None here none) ∙ e)
            | Some found ↦ λ some. let clash = sym (after_bit table more bytes prefix at first.1 first.0 (Some found) here some) ∙ e in absurd (cc)
          ]) refl
    ]) refl

pub fault_is_read : (table : TableFields) (bytes : List ℕ) (from : Cursor) (fault : CodeFault) → IsTable table → value_at table bytes from ≡ Err fault → IsFaultAt table bytes from fault
fault_is_read table bytes from fault is e = fault_read table bytes from from 16 [] fault is (none_yet table bytes from is) refl e

-- bits that are no word are passed
passed : (table : TableFields) (bytes : List ℕ) (at to : Cursor) (more : ℕ) (bits prefix rest : List Bool) → IsTable table → ((value : ℕ) (word more : List Bool) → word_of table value ≡ Some word → bits ≡ word ++ more → ⊥)
    → bits ≡ prefix ++ rest → bits_at (length rest) bytes at ≡ Ok (rest, to) → value_after table (length rest + more) bytes prefix at ≡ value_after table more bytes bits to
passed table bytes at to more bits prefix [] is none whole stand =
    let last = no_bits bytes at to stand in
    ap₂ (λ (f : List Bool) (c : Cursor). value_after table (0 + more) bytes f c) (sym (append-nil prefix) ∙ sym whole) last ∙ ap (λ (n : ℕ). value_after table n bytes bits to) (zero-add more)
passed table bytes at to more bits prefix (bit ∷ rest) is none whole stand =
    let first = bits_first (length rest) bytes at to bit rest stand in
    let next : bits ≡ (prefix ++ bit ∷ []) ++ rest = whole ∙ sym (append_assoc prefix (bit ∷ []) rest) in
    let turns : suc (length rest) + more ≡ suc (length rest + more) = omega arith in
    ap (λ (n : ℕ). value_after table n bytes prefix at) turns
    ∙ after_bit table (length rest + more) bytes prefix at first.0 bit None first.1 (never_value table bits (prefix ++ bit ∷ []) rest is none next)
    ∙ passed table bytes first.0 to more bits (prefix ++ bit ∷ []) rest is none next first.2

pub fault_comes : (table : TableFields) (bytes : List ℕ) (from : Cursor) (fault : CodeFault) → IsTable table → IsFaultAt table bytes from fault → value_at table bytes from ≡ Err fault
fault_comes table bytes from (Bits fault) is at =
    let bits = at.0 in
    let left = 15 - length bits in
    let turns : 16 ≡ length bits + suc left = omega (arith, at.2) in
    ap (λ (n : ℕ). value_after table n bytes [] from) turns ∙ passed table bytes from at.1 (suc left) bits [] bits is at.3.none refl at.3.stand ∙ after_fault table left bytes bits at.1 fault at.4
fault_comes table bytes from (NoWord place) is at =
    let bits = at.0 in
    let turns : 16 ≡ length bits + 0 = omega (arith, at.2) in
    ap (λ (n : ℕ). value_after table n bytes [] from) turns ∙ passed table bytes from at.1 0 bits [] bits is at.3.none refl at.3.stand ∙ after_none table bytes bits at.1 ∙ ap (λ (n : ℕ). Err (NoWord n)) (sym at.4)
