-- The code words of a table fit into their sizes, and these are from 1 to 16.
use Rattle.std.proofs.Common.{◌≡◌, ℕ, suc, ◌+◌, ◌*◌, ◌^◌, ◌<◌, ◌≤◌, List, [], ◌∷◌, length, take, drop, ap, sym, ◌∙◌, arith, add-one, inl, inr, pow_pos}
use Rattle.std.proofs.lemmas.Bool.{cases_lt}
use Rattle.std.specs.List.{AllByRecursion}
use Rattle.std.proofs.Math.Nat.{mul-le-mul_right, pow-le-pow_right}
use Rattle.std.proofs.lemmas.Nat.{pow-add}
use Rattle.std.proofs.lemmas.List.{length-take}
use Rattle.std.proofs.lemmas.Grind.{pow_more}
use Rattle.jpeg_marker.specs.HuffmanTables.{TableFields, IsTable, code_space}
use Rattle.huff_table.specs.CodeWords.{CodeWord}
use Rattle.huff_table.specs.Levels.{level, levels}
use Rattle.huff_table.proofs.Pairs.{all-append}

-- a code word of its size
pub record Fits (word : CodeWord) : Type 0 where
  pub some : 1 ≤ word.size
  pub few : word.size ≤ 16
  pub below : word.code < 2 ^ word.size

level_fits : (size first : ℕ) (values : List ℕ) → 1 ≤ size → size ≤ 16 → first + length values ≤ 2 ^ size → AllByRecursion Fits (level size first values)
level_fits size first [] some few h = tt
level_fits size first (value ∷ values) some few h =
    (record { some = some; few = few; below = omega arith }, level_fits size (first + 1) values some few (omega arith))

pub doubled : (n : ℕ) → 2 ^ suc n ≡ 2 ^ n * 2
doubled n = ap (λ k. 2 ^ k) (sym (add-one n)) ∙ pow_more 2 n

-- what fits a multiple fits
le_of_multiples : (a b p : ℕ) → 0 < p → a * p ≤ b * p → a ≤ b
le_of_multiples a b p some h =
    elim (cases_lt b a) [
      | inl more ↦ let m : (b + 1) * p ≤ a * p = mul-le-mul_right p (omega arith) in absurd (omega arith)
      | inr le ↦ le
    ]

room_now : (first count p q size cs most : ℕ) → q ≡ p * 2 → first * q + 2 * (count * p + cs) ≤ 2 * most → size * p ≡ most → (first + count) * p ≤ size * p
room_now first count p q size cs most twice room whole =
    let e : first * q ≡ first * (p * 2) = ap (λ n. first * n) twice in
    omega arith

room_then : (first count p q cs most : ℕ) → q ≡ p * 2 → first * q + 2 * (count * p + cs) ≤ most → 2 * (first + count) * p + 2 * cs ≤ most
room_then first count p q cs most twice room =
    let e : first * q ≡ first * (p * 2) = ap (λ n. first * n) twice in
    omega arith

-- The words after the first of a size, in words of seventeen bits: those of the sizes from this one on.
pub record HasRoom (size first : ℕ) (counts : List ℕ) : Type 0 where
  pub sizes : size + length counts ≡ 17
  pub room : first * 2 ^ length counts + 2 * code_space counts ≤ 2 ^ 17

pub room_of_size : (size first count : ℕ) (counts : List ℕ) → HasRoom size first (count ∷ counts) → first + count ≤ 2 ^ size
room_of_size size first count counts has =
    let n = length counts in
    let sizes : size + n ≡ 16 = omega (arith, has.sizes) in
    let whole : 2 ^ size * 2 ^ n ≡ 65536 = sym (pow-add 2 size n) ∙ ap (λ k. 2 ^ k) sizes in
    le_of_multiples (first + count) (2 ^ size) (2 ^ n) (pow_pos n) (room_now first count (2 ^ n) (2 ^ suc n) (2 ^ size) (code_space counts) 65536 (doubled n) has.room whole)

pub room_next : (size first count : ℕ) (counts : List ℕ) → HasRoom size first (count ∷ counts) → HasRoom (size + 1) (2 * (first + count)) counts
room_next size first count counts has = record {
  sizes = omega (arith, has.sizes);
  room = room_then first count (2 ^ length counts) (2 ^ suc (length counts)) (code_space counts) 131072 (doubled (length counts)) has.room;
}

pub levels_fit : (size first : ℕ) (counts values : List ℕ) → 1 ≤ size → HasRoom size first counts → AllByRecursion Fits (levels size first counts values)
levels_fit size first [] values some has = tt
levels_fit size first (count ∷ counts) values some has =
    let most : length (take count values) ≤ count = omega (arith, length-take count values) in
    all-append Fits _ _ (level_fits size first (take count values) some (omega (arith, has.sizes)) (omega (arith, most, room_of_size size first count counts has)))
    (levels_fit (size + 1) (2 * (first + count)) counts (drop count values) (omega arith) (room_next size first count counts has))

pub room_of_table : (table : TableFields) → IsTable table → HasRoom 1 0 table.counts
room_of_table table is = record { sizes = omega (arith, is.lengths); room = omega (arith, is.space) }

-- a size is at most 16, so that its words are few
pub small_power : (size : ℕ) → size ≤ 16 → 2 ^ size ≤ 65536
small_power size h = pow-le-pow_right {n = 2} (omega arith) h
