-- What a test that computes over a table says of each entry.
use Rattle.std.proofs.Common.{◌≡◌, ℕ, zero, suc, ◌<◌, ◌==◌, Bool, true, nat_lt, List, length, slice_index, drop, refl, sym, ap, ◌∙◌, arith}
use Rattle.std.specs.List.{list_all, range_with_len}
use Rattle.std.proofs.lemmas.Bool.{eqb-true, ltb-true}
use Rattle.std.proofs.lemmas.List.Elements.{All-get_or}
use Rattle.std.proofs.lemmas.List.FromFn.{get_or-range_with_len}
use Rattle.std.proofs.lemmas.List.Sums.{AllPass-from_list_all}
use Rattle.coef_block.specs.Zigzag.{zigzag}
use Rattle.coef_block.specs.declared.zigzag.TheConstants.{INDEXES}

-- an entry passes where all do
passes : (test : ℕ → Bool) (xs : List ℕ) (i : ℕ) → i < length xs → list_all test xs ≡ true → test (slice_index xs i) ≡ true
passes test xs i within all = All-get_or (λ x. test x ≡ true) xs i 0 within (AllPass-from_list_all test xs all)

-- a position is below 64
pub zigzag-below : (index : ℕ) → index < 64 → slice_index zigzag index < 64
zigzag-below index within = ltb-true _ _ (passes (λ position. nat_lt position 64) zigzag index within refl)

-- a position after the first is above 0
pub zigzag-above : (index : ℕ) → index < 64 → 0 < index → 0 < slice_index zigzag index
zigzag-above zero within later = absurd (omega arith)
zigzag-above (suc i) within later = ltb-true _ _ (passes (λ position. nat_lt 0 position) (drop 1 zigzag) i (omega arith) refl)

-- a test that each of the numbers 0 to 63 passes
at_each : (test : ℕ → Bool) (position : ℕ) → position < 64 → list_all test (range_with_len 0 64) ≡ true → test position ≡ true
at_each test position within all =
    let e : slice_index (range_with_len 0 64) position ≡ position =
    get_or-range_with_len 0 64 position 0 within ∙ omega arith in
    rw e at (passes test (range_with_len 0 64) position within all)

-- the table of zigzag indexes: each is below 64, and its position is the one that it stands for
pub indexes-below : (position : ℕ) → position < 64 → slice_index INDEXES position < 64
indexes-below position within = ltb-true _ _ (passes (λ index. nat_lt index 64) INDEXES position within refl)

pub zigzag-indexes : (position : ℕ) → position < 64 → slice_index zigzag (slice_index INDEXES position) ≡ position
zigzag-indexes position within =
    eqb-true _ _ (at_each (λ p. slice_index zigzag (slice_index INDEXES p) == p) position within refl)

-- and back
pub indexes-zigzag : (index : ℕ) → index < 64 → slice_index INDEXES (slice_index zigzag index) ≡ index
indexes-zigzag index within =
    eqb-true _ _ (at_each (λ i. slice_index INDEXES (slice_index zigzag i) == i) index within refl)

-- so two indexes of one position are one
pub zigzag-apart : (a b : ℕ) → a < 64 → b < 64 → slice_index zigzag a ≡ slice_index zigzag b → a ≡ b
zigzag-apart a b in_a in_b e = sym (indexes-zigzag a in_a) ∙ ap (λ p. slice_index INDEXES p) e ∙ indexes-zigzag b in_b
