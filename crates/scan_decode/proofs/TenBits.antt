-- What ten bits of a block read: a value after its code word, or the end of the block.
use Rattle.std.proofs.Common.{◌≡◌, ℕ, ◌+◌, ◌-◌, ◌*◌, ◌/◌, ◌%◌, ◌^◌, ◌<◌, ◌≤◌, Bool, false, List, length, take, drop, get_or, ℤ, pos, unsigned_abs, Some, Result, Ok, refl, sym, ap, ◌∙◌, subst, arith, take_at, take_all, take-take}
use Rattle.std.proofs.lemmas.List.{drop-take, drop_at}
use Rattle.bit_list.specs.Bits.{low_bits}
use Rattle.bit_list.specs.NumbersOfBits.{length-low_bits, mod_small}
use Rattle.std.proofs.lemmas.Nat.{mod_below, pow_pos}
use Rattle.bit_list.specs.Units.{Cursor, bits_at}
use Rattle.bit_list.proofs.LowBits.{take-low_bits, low_bits-same, drop-low_bits}
use Rattle.huff_table.specs.CodeWords.{word_of}
use Rattle.jpeg_marker.specs.HuffmanTables.{TableFields, IsTable}
use Rattle.scan_spec.specs.ScanReading.{symbol_at, extended_at, refused_as}
use Rattle.scan_spec.specs.ScanReading as reading
use Rattle.scan_spec.specs.ScanSymbols.{Value, bits_refusal, symbol_of}
use Rattle.scan_spec.specs.ValueBits.{extend}
use Rattle.scan_spec.specs.declared.refusal.ScanRefusal.{ScanRefusal}
use Rattle.scan_spec.proofs.AcsAgain.{symbol_read, kind_value}
use Rattle.scan_spec.proofs.AcsRead.{sized, below_power}
use Rattle.scan_decode.specs.ReadWords.{Reads, AreReads, blank_read}
use Rattle.scan_decode.specs.declared.read_word.ReadWord.{ReadWord}
use Rattle.scan_decode.proofs.BlockStepLemmas.{value_comes, end_comes, some_bits}
use Rattle.scan_decode.proofs.SkipReading.{Bits, parts_of, reads_agree}

abbrev bits_there : List Bool → Cursor → Bits
bits_there bits to = Ok (bits, to)

abbrev there_at : ℤ → Cursor → Result (ℤ × Cursor) ScanRefusal
there_at value to = Ok (value, to)

abbrev pub read_word : ℕ → ℕ → ℤ → ReadWord
read_word bits zeros value = record { bits = bits; zeros = zeros; value = value }

-- no word: more zeros than a block has
abbrev pub no_read : ReadWord
no_read = record { bits = 0; zeros = 65; value = pos 0 }

pub reads_nothing : (table : TableFields) (ten : List Bool) → Reads table ten no_read
reads_nothing table ten = record {
  few = omega arith;
  count = omega arith;
  value = λ h. absurd (omega (arith, h));
  puts = λ h. absurd (omega (arith, h));
  ends = λ h. absurd (omega (arith, h));
}

-- what ten bits begin with, nine of them begin with
pub nine_of_ten : (index half size : ℕ) → half ≡ index / 2 → size ≤ 9 → take size (low_bits 9 half) ≡ take size (low_bits 10 index)
nine_of_ten index half size is few =
    let prefix : take 9 (low_bits 10 index) ≡ low_bits 9 (index / 2) = take-low_bits 9 1 index in
    ap (λ (n : ℕ). take size (low_bits 9 n)) is ∙ ap (take size) (sym prefix) ∙ take-take size 9 (low_bits 10 index) few

-- the bits of a value after its code word
pub value_bits : (index number size more : ℕ) → size + more ≤ 10 → number ≡ index / 2 ^ (10 - size - more) % 2 ^ more → drop size (take (size + more) (low_bits 10 index)) ≡ low_bits more number
value_bits index number size more few is =
    let rest = 10 - size - more in
    let whole : 10 ≡ size + (more + rest) = omega (arith, few) in
    let tail : drop size (low_bits 10 index) ≡ low_bits (more + rest) index = ap (λ (n : ℕ). drop size (low_bits n index)) whole ∙ drop-low_bits size (more + rest) index in
    let same : low_bits more (index / 2 ^ rest) ≡ low_bits more number = low_bits-same more (index / 2 ^ rest) number (let small : number < 2 ^ more = rw is (mod_below (index / 2 ^ rest) (2 ^ more) (pow_pos more)) in sym is ∙ sym (mod_small more number small)) in
    drop-take size more (low_bits 10 index) ∙ ap (take more) tail ∙ take-low_bits more rest index ∙ same

-- the end of a block
pub reads_end : (table : TableFields) (ten : List Bool) (size : ℕ) → IsTable table → size ≤ 9 → word_of table 0 ≡ Some (take size ten) → length (take size ten) ≡ size → Reads table ten (read_word size 64 (pos 0))
reads_end table ten size is few word long = record {
  few = omega (arith, few);
  count = omega arith;
  value = λ h. absurd (omega (arith, h));
  puts = λ h. absurd (omega (arith, h));
  ends = λ h bytes from to index room read whole block going.
      let read_symbol = sym (symbol_read table bytes from to 0 (take size ten) is word (ap (λ (n : ℕ). bits_at n bytes from) long ∙ read)) in
      end_comes whole table bytes block index false from to 0 room read_symbol refl going;
}

-- a value
pub reads_value : (table : TableFields) (index symbol size zeros more number : ℕ) (value : ℤ) → IsTable table → word_of table symbol ≡ Some (take size (low_bits 10 index)) → symbol ≡ 16 * zeros + more → zeros < 16 → 1 ≤ more → size + more ≤ 10
    → number ≡ index / 2 ^ (10 - size - more) % 2 ^ more → value ≡ extend (low_bits more number) → 1 ≤ size → Reads table (low_bits 10 index) (read_word (size + more) zeros value)
reads_value table index symbol size zeros more number value is word split byte some few number_is value_is first =
    let ten = low_bits 10 index in
    let bits = low_bits more number in
    let bits_long : length bits ≡ more = length-low_bits more number in
    let value_bits_are = value_bits index number size more few number_is in
    record {
      few = omega (arith, few);
      count = omega (arith, byte);
      value = λ h. (
        subst (λ (v : ℤ). 0 < unsigned_abs v) (sym value_is) (some_bits (unsigned_abs (extend bits)) (let s = sized bits in omega (arith, s, bits_long, some))),
        subst (λ (v : ℤ). unsigned_abs v ≤ 1023) (sym value_is) (let b = below_power bits 10 (omega (arith, bits_long, few)) in omega (arith, b)),
      );
      puts = λ h bytes from to at room read whole block loose going.
          let p = parts_of size more bytes from to (take (size + more) ten) read in
          let front : p.front ≡ take size ten = sym (take_at p.front p.back size p.front_long) ∙ ap (take size) (sym p.whole) ∙ take-take size (size + more) ten (omega arith) in
          let back : p.back ≡ bits = sym (drop_at p.front p.back size p.front_long) ∙ ap (drop size) (sym p.whole) ∙ value_bits_are in
          let read_symbol = sym (symbol_read table bytes from p.mid symbol p.front is (word ∙ ap Some (sym front)) (ap (λ (n : ℕ). bits_at n bytes from) p.front_long ∙ p.first)) in
          let says : Value zeros more ≡ symbol_of (64 - at) loose symbol = sym (ap (symbol_of (64 - at) loose) split ∙ kind_value (64 - at) zeros more loose (omega (arith, room)) byte some (omega (arith, few, first))) in
          let there : Ok (value, to) ≡ extended_at more bytes p.mid =
          ap (λ (v : ℤ). there_at v to) (value_is ∙ ap extend (sym back)) ∙ sym (ap (λ (r : Bits). reading.and_then (refused_as bits_refusal r) (λ bits. Ok (extend bits.0, bits.1))) p.second) in
          value_comes whole table bytes block at loose from p.mid to symbol zeros more value (omega (arith, room)) read_symbol says there going;
      ends = λ h. absurd (omega (arith, h, byte));
    }

-- what the word of ten bits reads
pub word_reads : (table : TableFields) (words : List ReadWord) (bytes : List ℕ) (from mid to : Cursor) (seen number : ℕ) → AreReads table words → seen < length words → bits_at 10 bytes from ≡ Ok (low_bits 10 seen, mid)
    → bits_at (get_or words seen blank_read).bits bytes from ≡ Ok (low_bits (get_or words seen blank_read).bits number, to)
    → bits_at (get_or words seen blank_read).bits bytes from ≡ Ok (take (get_or words seen blank_read).bits (low_bits 10 seen), to)
word_reads table words bytes from mid to seen number are below look read =
    let n = (get_or words seen blank_read).bits in
    let few = (are seen below).few in
    let agree = reads_agree 10 n bytes from mid to (low_bits 10 seen) (low_bits n number) look read in
    let all : take 10 (low_bits n number) ≡ low_bits n number = take_all 10 (low_bits n number) (let long = length-low_bits n number in omega (arith, long, few)) in
    read ∙ ap (λ (bits : List Bool). bits_there bits to) (sym all ∙ agree)
