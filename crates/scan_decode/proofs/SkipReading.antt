-- What twelve bits of a block go past: one symbol, two of them, and the bits that are looked at; and what a value goes past.
use Rattle.std.proofs.Common.{◌≡◌, ℕ, ◌+◌, ◌-◌, ◌*◌, ◌%◌, ◌^◌, ◌<◌, ◌≤◌, Bool, true, false, if◌then◌else◌, List, [], ◌++◌, length, take, drop, set, get_or, ℤ, Some, Result, Ok, Err, refl, sym, ap, ◌∙◌, subst, arith, inl, inr, rules, take_at, take_all, take-take, mul-le-mul_right, suc-mul, suc, pow-add, replicate}
use Rattle.std.proofs.lemmas.Bool.{cases_lt}
use Rattle.std.proofs.lemmas.List.{drop-take, drop_at}
use Rattle.bit_list.specs.Bits.{low_bits}
use Rattle.bit_list.specs.NumbersOfBits.{length-low_bits}
use Rattle.bit_list.specs.Units.{Cursor, bits_at, and_then}
use Rattle.bit_list.specs.declared.fault.BitFault.{BitFault}
use Rattle.bit_list.proofs.Cursors.{in_parts}
use Rattle.bit_list.proofs.LowBits.{low_bits-join, low_bits-same, drop-low_bits}
use Rattle.coef_block.specs.Zigzag.{zigzag}
use Rattle.huff_table.specs.CodeWords.{word_of}
use Rattle.jpeg_marker.specs.HuffmanTables.{TableFields, IsTable}
use Rattle.scan_spec.specs.ScanReading.{symbol_at, extended_at, refused_as, acs_at}
use Rattle.scan_spec.specs.ScanReading as reading
use Rattle.scan_spec.specs.ScanSymbols.{Value, bits_refusal, symbol_of}
use Rattle.scan_spec.specs.ValueBits.{extend}
use Rattle.scan_spec.specs.declared.refusal.ScanRefusal.{ScanRefusal}
use Rattle.scan_spec.proofs.AcsAgain.{symbol_read, kind_value}
use Rattle.scan_spec.proofs.BitsTaken.{takes_of}
use Rattle.scan_decode.specs.BlockSteps.{Going}
use Rattle.scan_decode.specs.SkipWords.{GoesOn, IsSkipped, blank, index_after, Skips, AreSkips}
use Rattle.scan_decode.specs.declared.skip_word.SkipWord.{SkipWord}
use Rattle.scan_decode.proofs.WordLists.{set_word, one_word}
use Rattle.scan_decode.proofs.BlockStepLemmas.{value_comes, end_comes, none_left}

abbrev pub Bits : Type 0
Bits = Result (List Bool × Cursor) BitFault

abbrev there : List Bool × Cursor → Bits
there x = Ok x

abbrev missing : BitFault → Bits
missing fault = Err fault

not_both : (fault : BitFault) (x : List Bool × Cursor) → missing fault ≡ there x → ⊥
not_both fault x e = cc

same_bits : (x y : List Bool × Cursor) → there x ≡ there y → (x.0 ≡ y.0) × (x.1 ≡ y.1)
same_bits x y e = (cc, cc)

first_there : (r : Bits) (f : List Bool × Cursor → Bits) (x : List Bool × Cursor) → and_then r f ≡ Ok x → (a : List Bool × Cursor) × (r ≡ Ok a) × (f a ≡ Ok x)
first_there (Ok a) f x e = (a, refl, e)
first_there (Err fault) f x e = absurd (not_both fault x e)

-- bits that are read, in two parts
pub record InParts (m n : ℕ) (bytes : List ℕ) (from to : Cursor) (taken : List Bool) : Type 0 where
  pub front : List Bool
  pub back : List Bool
  pub mid : Cursor
  pub first : bits_at m bytes from ≡ Ok (front, mid)
  pub second : bits_at n bytes mid ≡ Ok (back, to)
  pub whole : taken ≡ front ++ back
  pub front_long : length front ≡ m
  pub back_long : length back ≡ n

pub parts_of : (m n : ℕ) (bytes : List ℕ) (from to : Cursor) (taken : List Bool) → bits_at (m + n) bytes from ≡ Ok (taken, to) → InParts m n bytes from to taken
parts_of m n bytes from to taken e =
    let a = first_there (bits_at m bytes from) (λ prefix. and_then (bits_at n bytes prefix.1) (λ more. Ok (prefix.0 ++ more.0, more.1))) (taken, to) (sym (in_parts m n bytes from) ∙ e) in
    let b = first_there (bits_at n bytes a.0.1) (λ more. Ok (a.0.0 ++ more.0, more.1)) (taken, to) a.2 in
    let s = same_bits (a.0.0 ++ b.0.0, b.0.1) (taken, to) b.2 in
    let second : bits_at n bytes a.0.1 ≡ Ok (b.0.0, to) = b.1 ∙ ap (λ (c : Cursor). there (b.0.0, c)) s.1 in
    record {
      front = a.0.0;
      back = b.0.0;
      mid = a.0.1;
      first = a.1;
      second = second;
      whole = sym s.0;
      front_long = (takes_of m bytes from a.0.1 a.0.0 a.1).0;
      back_long = (takes_of n bytes a.0.1 to b.0.0 second).0;
    }

-- where bits are read twice from one cursor, one of the readings begins as the other
pub reads_agree : (m n : ℕ) (bytes : List ℕ) (from one two : Cursor) (a b : List Bool) → bits_at m bytes from ≡ Ok (a, one) → bits_at n bytes from ≡ Ok (b, two) → take m b ≡ take n a
reads_agree m n bytes from one two a b d e =
    let a_long = (takes_of m bytes from one a d).0 in
    let b_long = (takes_of n bytes from two b e).0 in
    elim (cases_lt n m) [
      | inl few ↦
          let rest = m - n in
          let whole : m ≡ n + rest = omega (arith, few) in
          let p = parts_of n rest bytes from one a (subst (λ (k : ℕ). bits_at k bytes from ≡ there (a, one)) whole d) in
          let same = same_bits (p.front, p.mid) (b, two) (sym p.first ∙ e) in
          take_all m b (omega (arith, b_long, few)) ∙ sym same.0 ∙ sym (ap (take n) p.whole ∙ take_at p.front p.back n p.front_long)
      | inr many ↦
          let rest = n - m in
          let whole : n ≡ m + rest = omega (arith, many) in
          let p = parts_of m rest bytes from two b (subst (λ (k : ℕ). bits_at k bytes from ≡ there (b, two)) whole e) in
          let same = same_bits (p.front, p.mid) (a, one) (sym p.first ∙ d) in
          ap (take m) p.whole ∙ take_at p.front p.back m p.front_long ∙ same.0 ∙ sym (take_all n a (omega (arith, a_long, many)))
    ]

-- no word: more coefficients than a block has
abbrev pub no_skip : SkipWord
no_skip = record { bits = 0; coefficients = 65; ends = false }

abbrev pub skip_word : ℕ → ℕ → Bool → SkipWord
skip_word bits coefficients ends = record { bits = bits; coefficients = coefficients; ends = ends }

-- a code word that the twelve bits begin with
first_symbol : (table : TableFields) (twelve front back : List Bool) (bytes : List ℕ) (from mid : Cursor) (symbol size more : ℕ) → IsTable table → size ≤ 12 → word_of table symbol ≡ Some (take size twelve)
    → bits_at size bytes from ≡ Ok (front, mid) → length front ≡ size → take 12 (front ++ back) ≡ take (size + more) twelve → Ok (symbol, mid) ≡ symbol_at table bytes from
first_symbol table twelve front back bytes from mid symbol size more is few word read long agree =
    let same : take size twelve ≡ front =
    sym (take-take size (size + more) twelve (omega arith)) ∙ ap (take size) (sym agree) ∙ take-take size 12 (front ++ back) few ∙ take_at front back size long in
    sym (symbol_read table bytes from mid symbol front is (word ∙ ap Some same) (ap (λ (n : ℕ). bits_at n bytes from) long ∙ read))

-- no word
pub skips_nothing : (table : TableFields) (twelve : List Bool) → Skips table twelve no_skip
skips_nothing table twelve = record {
  few = omega arith;
  some = omega arith;
  count = omega arith;
  does = λ bytes from to taken index room read agree whole gone. absurd (omega (arith, room));
}

-- the end of the block
pub skips_end : (table : TableFields) (twelve : List Bool) (size : ℕ) → IsTable table → size ≤ 12 → word_of table 0 ≡ Some (take size twelve) → Skips table twelve (skip_word size 1 true)
skips_end table twelve size is few word = record {
  few = omega (arith, few);
  some = omega arith;
  count = omega arith;
  does = λ bytes from to taken index room read agree whole gone.
      let long = (takes_of size bytes from to taken read).0 in
      let same : size ≡ size + 0 = omega arith in
      let all : taken ++ [] ≡ taken = search rules in
      let bits : take 12 (taken ++ []) ≡ take (size + 0) twelve = ap (take 12) all ∙ agree ∙ ap (λ (n : ℕ). take n twelve) same in
      let read_symbol = first_symbol table twelve taken [] bytes from to 0 size 0 is few word read long bits in
      (gone.0, tt, end_comes whole table bytes gone.0 index false from to 0 (omega (arith, room)) read_symbol refl gone.2);
}

-- a value after its code word
pub value_goes_on : (table : TableFields) (bytes : List ℕ) (from mid to : Cursor) (index symbol zeros more : ℕ) (bits : List Bool) → Ok (symbol, mid) ≡ symbol_at table bytes from → bits_at more bytes mid ≡ Ok (bits, to)
    → symbol ≡ 16 * zeros + more → zeros < 16 → 1 ≤ more → more ≤ 10 → index + (zeros + 1) ≤ 64 → GoesOn table bytes index from (index + (zeros + 1)) to
value_goes_on table bytes from mid to index symbol zeros more bits read follow split byte some most room whole gone =
    let says : Value zeros more ≡ symbol_of (64 - index) false symbol = sym (ap (symbol_of (64 - index) false) split ∙ kind_value (64 - index) zeros more false (omega (arith, room)) byte some most) in
    let value = extend bits in
    let there : Ok (value, to) ≡ extended_at more bytes mid = sym (ap (λ (r : Bits). reading.and_then (refused_as bits_refusal r) (λ bits. Ok (extend bits.0, bits.1))) follow) in
    let comes = value_comes whole table bytes gone.0 index false from mid to symbol zeros more value (omega (arith, room)) read says there gone.2 in
    let after : index + zeros + 1 ≡ index + (zeros + 1) = omega arith in
    (set gone.0 (get_or zigzag (index + zeros) 0) value, tt, subst (λ (n : ℕ). Going whole table bytes (set gone.0 (get_or zigzag (index + zeros) 0) value) n false to) after comes)

-- a value whose code word the twelve bits begin with
pub skips_value : (table : TableFields) (twelve : List Bool) (symbol size zeros more : ℕ) → IsTable table → size ≤ 12 → word_of table symbol ≡ Some (take size twelve) → symbol ≡ 16 * zeros + more → zeros < 16 → 1 ≤ more → more ≤ 10
    → size + more ≤ 16 → Skips table twelve (skip_word (size + more) (zeros + 1) false)
skips_value table twelve symbol size zeros more is few word split byte some most fits = record {
  few = fits;
  some = omega arith;
  count = omega (arith, byte);
  does = λ bytes from to taken index room read agree.
      let p = parts_of size more bytes from to taken read in
      let read_symbol = first_symbol table twelve p.front p.back bytes from p.mid symbol size more is few word p.first p.front_long (ap (take 12) (sym p.whole) ∙ agree) in
      value_goes_on table bytes from p.mid to index symbol zeros more p.back read_symbol p.second split byte some most room;
}

-- one symbol, and another one that the rest of the twelve bits begins with
pub skips_both : (table : TableFields) (twelve rest : List Bool) (word more : SkipWord) → Skips table twelve word → word.ends ≡ false → Skips table rest more → word.bits + more.bits ≤ 12 → word.coefficients + more.coefficients ≤ 64
    → take more.bits rest ≡ take more.bits (drop word.bits twelve) → Skips table twelve (skip_word (word.bits + more.bits) (word.coefficients + more.coefficients) more.ends)
skips_both table twelve rest word more first continues second within few same = record {
  few = omega (arith, within);
  some = let s = first.some in omega (arith, s);
  count = omega (arith, few);
  does = λ bytes from to taken index room read agree whole gone.
      let p = parts_of word.bits more.bits bytes from to taken read in
      let long = (takes_of (word.bits + more.bits) bytes from to taken read).0 in
      let all : taken ≡ take (word.bits + more.bits) twelve = sym (take_all 12 taken (omega (arith, long, within))) ∙ agree in
      let front : p.front ≡ take word.bits twelve = sym (take_at p.front p.back word.bits p.front_long) ∙ ap (take word.bits) (sym p.whole ∙ all) ∙ take-take word.bits (word.bits + more.bits) twelve (omega arith) in
      let back : p.back ≡ take more.bits (drop word.bits twelve) = sym (drop_at p.front p.back word.bits p.front_long) ∙ ap (drop word.bits) (sym p.whole ∙ all) ∙ drop-take word.bits more.bits twelve in
      let at_front : take 12 p.front ≡ take word.bits twelve = take_all 12 p.front (let l = p.front_long in omega (arith, l, within)) ∙ front in
      let at_back : take 12 p.back ≡ take more.bits rest = take_all 12 p.back (let l = p.back_long in omega (arith, l, within)) ∙ back ∙ sym same in
      let one = first.does bytes from p.mid p.front index (omega (arith, room)) p.first at_front whole gone in
      let there : IsSkipped whole table bytes (index + word.coefficients) false p.mid =
      subst (λ (t : Bool). IsSkipped whole table bytes (if t then 64 else index + word.coefficients) false p.mid) continues one in
      let two = second.does bytes p.mid to p.back (index + word.coefficients) (omega (arith, room)) p.second at_back whole there in
      let sum : index + word.coefficients + more.coefficients ≡ index + (word.coefficients + more.coefficients) = omega arith in
      subst (λ (n : ℕ). IsSkipped whole table bytes (if more.ends then 64 else n) false to) sum two;
}

-- the rest of twelve bits, with zeros after it
pub rest_bits : (index rest bits k : ℕ) → bits + k ≤ 12 → rest ≡ index * 2 ^ bits % 4096 → take k (low_bits 12 rest) ≡ take k (drop bits (low_bits 12 index))
rest_bits index rest bits k within is =
    let left = 12 - bits in
    let whole : 12 ≡ left + bits = omega (arith, within) in
    let turned : 12 ≡ bits + left = omega (arith, within) in
    let shifted : low_bits 12 rest ≡ low_bits 12 (index * 2 ^ bits) = ap (low_bits 12) is ∙ low_bits-same 12 (index * 2 ^ bits % 4096) (index * 2 ^ bits) (omega arith) in
    let none : index * 2 ^ bits ≡ index * 2 ^ bits + 0 = omega arith in
    let joined : low_bits 12 (index * 2 ^ bits) ≡ low_bits left index ++ low_bits bits 0 =
    ap (λ (n : ℕ). low_bits 12 n) none ∙ ap (λ (n : ℕ). low_bits n (index * 2 ^ bits + 0)) whole ∙ low_bits-join left bits index 0 (search rules) in
    let prefix : take left (low_bits 12 rest) ≡ low_bits left index = ap (take left) (shifted ∙ joined) ∙ take_at (low_bits left index) (low_bits bits 0) left (length-low_bits left index) in
    let tail : drop bits (low_bits 12 index) ≡ low_bits left index = ap (λ (n : ℕ). drop bits (low_bits n index)) turned ∙ drop-low_bits bits left index in
    let upto : k ≤ left = omega (arith, within) in
    sym (take-take k left (low_bits 12 rest) upto) ∙ ap (take k) (prefix ∙ sym tail)

-- twelve bits that begin with a code word
pub begins : (code size count index : ℕ) → size ≤ 12 → count ≡ 2 ^ (12 - size) → code * count ≤ index → index < code * count + count → low_bits size code ≡ take size (low_bits 12 index)
begins code size count index few is from below =
    let n = 12 - size in
    let rest = index - code * count in
    let whole : 12 ≡ size + n = omega (arith, few) in
    let sum : index ≡ code * count + rest = omega (arith, from) in
    let left : rest < count = omega (arith, from, below) in
    let joined : low_bits 12 index ≡ low_bits size code ++ low_bits n rest =
    ap (low_bits 12) (sum ∙ ap (λ (k : ℕ). code * k + rest) is) ∙ ap (λ (k : ℕ). low_bits k (code * 2 ^ n + rest)) whole
    ∙ low_bits-join size n code rest (subst (λ (k : ℕ). rest < k) is left) in
    sym (ap (take size) joined ∙ take_at (low_bits size code) (low_bits n rest) size (length-low_bits size code))

-- and as many of them are below 4096 as begin with it
pub within_all : (code size count : ℕ) → size ≤ 12 → count ≡ 2 ^ (12 - size) → code < 2 ^ size → code * count + count ≤ 4096
within_all code size count few is below =
    let n = 12 - size in
    let sum : size + n ≡ 12 = omega (arith, few) in
    let whole : 2 ^ size * count ≡ 4096 = ap (λ (k : ℕ). 2 ^ size * k) is ∙ sym (pow-add 2 size n) ∙ ap (λ (k : ℕ). 2 ^ k) sum in
    let most : suc code * count ≤ 2 ^ size * count = mul-le-mul_right count (omega (arith, below)) in
    let more : suc code * count ≡ code * count + count = suc-mul code count in
    omega (arith, whole, more, most)

-- one word more in place of another
pub set_skips : (table : TableFields) (words : List SkipWord) (index : ℕ) (word : SkipWord) → AreSkips table words → Skips table (low_bits 12 index) word → AreSkips table (set words index word)
set_skips table words index word are is = set_word (λ k w. Skips table (low_bits 12 k) w) blank words index word are is

-- no words
pub no_skips : (table : TableFields) (n : ℕ) → AreSkips table (replicate n no_skip)
no_skips table n = one_word (λ k w. Skips table (low_bits 12 k) w) blank n no_skip (λ k. skips_nothing table (low_bits 12 k))

-- what the word of twelve bits goes past
pub word_skips : (table : TableFields) (words : List SkipWord) (bytes : List ℕ) (from mid to : Cursor) (seen number index : ℕ) → AreSkips table words → seen < length words → bits_at 12 bytes from ≡ Ok (low_bits 12 seen, mid)
    → index + (get_or words seen blank).coefficients ≤ 64 → bits_at (get_or words seen blank).bits bytes from ≡ Ok (low_bits (get_or words seen blank).bits number, to)
    → (whole : Result (List ℤ × Cursor) ScanRefusal) → IsSkipped whole table bytes index false from → IsSkipped whole table bytes (index_after index (get_or words seen blank)) false to
word_skips table words bytes from mid to seen number index are below look room read whole gone =
    let word = get_or words seen blank in
    let agree = reads_agree 12 word.bits bytes from mid to (low_bits 12 seen) (low_bits word.bits number) look read in
    (are seen below).does bytes from to (low_bits word.bits number) index room read agree whole gone

-- where nothing is left, it doesn't matter what came last
pub none_loose : (whole : Result (List ℤ × Cursor) ScanRefusal) (table : TableFields) (bytes : List ℕ) (index : ℕ) (loose : Bool) (cursor : Cursor) → 64 ≤ index → IsSkipped whole table bytes index loose cursor
    → IsSkipped whole table bytes index false cursor
none_loose whole table bytes index loose cursor past gone =
    let g = gone.2 in
    let none : 64 - index ≡ 0 = omega (arith, past) in
    let same : acs_at g.symbols table (64 - index) loose bytes cursor ≡ acs_at g.symbols table (64 - index) false bytes cursor =
    ap (λ (k : ℕ). acs_at g.symbols table k loose bytes cursor) none ∙ none_left loose table bytes cursor g.symbols ∙ sym (ap (λ (k : ℕ). acs_at g.symbols table k false bytes cursor) none ∙ none_left false table bytes cursor g.symbols) in
    (gone.0, tt, record { prefix = g.prefix; symbols = g.symbols; enough = g.enough; long = g.long; count = g.count; kept = g.kept; rest = g.rest ∙ ap (reading.prefixed_values g.prefix) same })
