-- The bytes that are put, and the bits that are left of them.
use Rattle.std.proofs.Common.{◌≡◌, ℕ, ◌+◌, ◌-◌, ◌*◌, ◌/◌, ◌%◌, ◌^◌, ◌<◌, ◌≤◌, Bool, List, [], ◌∷◌, ◌++◌, sym, ap, ◌∙◌, arith, inl, inr}
use Rattle.std.proofs.lemmas.Bool.{cases_eq}
use Rattle.std.proofs.lemmas.List.{append-nil, append_assoc}
use Rattle.std.proofs.lemmas.Nat.{shl_whole, mod_below, pow_pos}
use Rattle.bit_list.specs.Bits.{low_bits, bytes_after, begun_after, stuffed}
use Rattle.bit_list.specs.NumbersOfBits.{length-low_bits, mod_small}
use Rattle.bit_list.proofs.LowBits.{low_bits-join, low_bits-same}
use Rattle.bit_list.proofs.Machine.{joined_below, split_off}
use Rattle.bit_list.proofs.WholeBytes.{next_byte}
use Rattle.bit_list.proofs.Wholes.{no_byte, bytes_cut, begun_cut, none_begun}
use Rattle.bit_list.proofs.Stuffing.{unit_bytes, one_unit_more, stuffed-append}

-- what was written when fewer than eight bits are left
pub put_bytes : (out final whole : List ℕ) (left rest : ℕ) → left < 8 → final ++ stuffed (bytes_after [] (low_bits left rest)) ≡ out ++ stuffed whole
    → final ≡ out ++ stuffed whole
put_bytes out final whole left rest short same =
    let len = length-low_bits left rest in
    let none : bytes_after [] (low_bits left rest) ≡ [] = no_byte [] (low_bits left rest) (omega arith) in
    sym (append-nil final) ∙ ap (λ (bs : List ℕ). final ++ stuffed bs) (sym none) ∙ same

-- a number's bits as the first of a word. Without bits it is 0, and a shift by 64 is one by 0.
pub shifted_word : (count number : ℕ) → count ≤ 32 → number < 2 ^ count → number * 2 ^ ((64 - count) % 64) % 2 ^ 64 ≡ number * 2 ^ (64 - count)
shifted_word count number few below =
    elim (cases_eq count 0) [
      | inl none ↦
          let small : number < 2 ^ 0 = rw none at below in
          let zero : number ≡ 0 = omega (arith, small) in
          rw zero (omega arith)
      | inr some ↦
          let same : (64 - count) % 64 ≡ 64 - count = omega (arith, some) in
          rw same (shl_whole number count (64 - count) 64 below (omega arith))
    ]

-- the low bits of what is left below a power
pub low_bits-low : (k n : ℕ) → low_bits k (n % 2 ^ k) ≡ low_bits k n
low_bits-low k n = low_bits-same k (n % 2 ^ k) n (mod_small k (n % 2 ^ k) (mod_below n (2 ^ k) (pow_pos k)))

-- a code after a byte begun, in a word
pub code_joined : (m k number code : ℕ) → m ≤ 31 → k ≤ 27 → number < 2 ^ m → code < 2 ^ k
    → (number * 2 ^ k % 2 ^ 64 + code ≡ number * 2 ^ k + code) × (number * 2 ^ k % 2 ^ 64 + code < 2 ^ (m + k))
code_joined m k number code few fewer a b =
    let is = ap (λ (n : ℕ). n + code) (shl_whole number m k 64 a (omega arith)) in (is, rw is (joined_below m k number code a b))

-- the bits of a code after those of a number are the bits of one number
pub code_bits : (m k number code whole : ℕ) (now : List Bool) → code < 2 ^ k → whole ≡ number * 2 ^ k + code → low_bits m number ≡ now
    → low_bits (m + k) whole ≡ now ++ low_bits k code
code_bits m k number code whole now below is view =
    ap (low_bits (m + k)) is ∙ low_bits-join m k number code below ∙ ap (λ (bits : List Bool). bits ++ low_bits k code) view

-- four bytes of a number's bits were put, and the others wait
pub four_put : (total left number low : ℕ) (out new : List ℕ) (all : List Bool) → left + 32 ≡ total → number < 2 ^ total → low ≡ number % 2 ^ left
    → low_bits total number ≡ all → new ≡ out ++ stuffed (bytes_after [] (low_bits 32 (number / 2 ^ left)))
    → (new ++ stuffed (bytes_after [] (low_bits left low)) ≡ out ++ stuffed (bytes_after [] all))
    × (begun_after [] (low_bits left low) ≡ begun_after [] all)
four_put total left number low out new all whole below is view put =
    let first = low_bits 32 (number / 2 ^ left) in
    let rest = low_bits left low in
    let cut : all ≡ first ++ rest = sym view ∙ (split_off total number 32 left low whole below is).2 in
    let none : begun_after [] first ≡ [] = none_begun first (ap (λ (n : ℕ). n % 8) (length-low_bits 32 (number / 2 ^ left))) in
    let bytes : bytes_after [] all ≡ bytes_after [] first ++ bytes_after [] rest =
    ap (bytes_after []) cut ∙ bytes_cut [] first rest ∙ ap (λ (begun : List Bool). bytes_after [] first ++ bytes_after begun rest) none in (
      ap (λ (bs : List ℕ). bs ++ stuffed (bytes_after [] rest)) put
          ∙ append_assoc out (stuffed (bytes_after [] first)) (stuffed (bytes_after [] rest))
          ∙ ap (λ (bs : List ℕ). out ++ bs) (sym (stuffed-append (bytes_after [] first) (bytes_after [] rest)) ∙ ap stuffed (sym bytes)),
      sym (ap (begun_after []) cut ∙ begun_cut [] first rest ∙ ap (λ (begun : List Bool). begun_after begun rest) none),
    )

-- one byte more
pub byte_put : (out next whole : List ℕ) (rest number byte : ℕ) → byte ≡ number / 2 ^ rest % 256 → next ≡ out ++ unit_bytes byte
    → out ++ stuffed (bytes_after [] (low_bits (8 + rest) number)) ≡ whole → next ++ stuffed (bytes_after [] (low_bits rest number)) ≡ whole
byte_put out next whole rest number byte is e same =
    let more = bytes_after [] (low_bits rest number) in
    let first : bytes_after [] (low_bits (8 + rest) number) ≡ byte ∷ more = (next_byte rest number).bytes ∙ ap (λ (b : ℕ). b ∷ more) (sym is) in
    ap (λ (bs : List ℕ). bs ++ stuffed more) e ∙ one_unit_more out byte more ∙ ap (λ (bs : List ℕ). out ++ stuffed bs) (sym first) ∙ same

-- two bytes more for eight bits fewer
pub byte_room : (before after most left : ℕ) → after ≤ before + 2 → 8 ≤ left → before + 2 * (left / 8) ≤ most → after + 2 * ((left - 8) / 8) ≤ most
byte_room before after most left few some room = omega arith
