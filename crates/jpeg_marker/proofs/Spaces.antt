-- The words of 16 bits that code words take, count by count.
use Rattle.std.proofs.Common.{◌≡◌, ℕ, suc, ◌+◌, ◌-◌, ◌*◌, ◌^◌, ◌<◌, ◌≤◌, ◌%◌, List, [], ◌∷◌, length, get_or, drop, drop-cons, arith, ap, sym, ◌∙◌, add-one, subst}
use Rattle.std.proofs.Math.Nat.{mod-eq_of_lt, mul-le-mul_right}
use Rattle.std.proofs.lemmas.List.{length-drop}
use Rattle.std.proofs.lemmas.Grind.{pow_more}
use Rattle.jpeg_marker.specs.HuffmanTables.{code_space}

-- the first of the rest, and what is after it
code_space-drop : (counts : List ℕ) (i k : ℕ) → length counts ≡ k + (i + 1) → code_space (drop i counts) ≡ get_or counts i 0 * 2 ^ k + code_space (drop (i + 1) counts)
code_space-drop counts i k h =
    let below : i < length counts = omega arith in
    let rest : length (drop (i + 1) counts) ≡ k = simp length-drop (omega arith) in
    ap code_space (drop-cons counts i 0 below) ∙ ap (λ n. get_or counts i 0 * 2 ^ n + code_space (drop (suc i) counts)) (simp add-one at rest) ∙ ap (λ n. get_or counts i 0 * 2 ^ k + code_space (drop n counts)) (sym (add-one i))

code_space-le-more : (count space unit twice : ℕ) → count < 256 → space ≤ 255 * unit → twice ≡ unit * 2 → count * unit + space ≤ 255 * twice
code_space-le-more count space unit twice byte rest is =
    let first : count * unit ≤ 255 * unit = mul-le-mul_right unit (omega arith) in
    omega arith

-- the bytes of sixteen counts take less than 2 ^ 24
code_space-le : (counts : List ℕ) → ((i : ℕ) → get_or counts i 0 < 256) → code_space counts ≤ 255 * 2 ^ length counts
code_space-le [] h = omega arith
code_space-le (count ∷ counts) h =
    let more : 2 ^ suc (length counts) ≡ 2 ^ length counts * 2 = ap (λ n. 2 ^ n) (sym (add-one (length counts))) ∙ pow_more 2 (length counts) in
    let rest = code_space-le counts (λ i. h (suc i)) in
    code_space-le-more count (code_space counts) (2 ^ length counts) (2 ^ suc (length counts)) (h 0) rest more

-- one more of sixteen counts, where the sum so far is completed by the rest
pub space_more : (counts : List ℕ) (i space count : ℕ) → length counts ≡ 16 → ((k : ℕ) → get_or counts k 0 < 256) → i < 16 → count ≡ get_or counts i 0 → space + code_space (drop i counts) ≡ code_space counts → (space + count * 2 ^ (15 - i) % 4294967296 < 4294967296) × (space + count * 2 ^ (15 - i) % 4294967296 + code_space (drop (i + 1) counts) ≡ code_space counts)
space_more counts i space count size bytes below is kept =
    let step = code_space-drop counts i (15 - i) (omega arith) in
    let most : code_space counts ≤ 255 * 2 ^ 16 = subst (λ (n : ℕ). code_space counts ≤ 255 * 2 ^ n) size (code_space-le counts bytes) in
    let same : count * 2 ^ (15 - i) ≡ get_or counts i 0 * 2 ^ (15 - i) = ap (λ n. n * 2 ^ (15 - i)) is in
    let whole = mod-eq_of_lt {n = count * 2 ^ (15 - i)} {m = 4294967296} (omega arith) in
    (omega arith, omega arith)
