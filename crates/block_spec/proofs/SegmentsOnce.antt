-- Two segments of one length are one, or their events come apart.
use Rattle.std.proofs.Common.{◌≡◌, ◌⊎◌, inl, inr, ℕ, zero, suc, ◌+◌, arith, subst, List, [], ◌∷◌, ◌++◌, length, Bool}
use Rattle.std.specs.Prelude.{ℤ, Option, Some, None, IfSome, option_map, slice_index_or}
use Rattle.std.specs.Option.{option_and_then}
use Rattle.std.specs.List.{AllByRecursion}
use Rattle.std.proofs.lemmas.List.{ext_get_or}
use Rattle.coef_block.specs.Block.{IsBlock}
use Rattle.coef_block.specs.BlockRows.{no_block}
use Rattle.coef_block.proofs.Zeros.{zeros_are_a_block}
use Rattle.bool_coder.specs.BoolReading.{IsReading}
use Rattle.adapt_bins.specs.Events.{bools_of}
use Rattle.block_spec.specs.Around.{Around, AreAround}
use Rattle.block_spec.specs.BlockEvents.{block_events}
use Rattle.block_spec.specs.EventsApart.{AreApart}
use Rattle.block_spec.specs.Grid.{Grid, Cell, IsGrid, cell_at, block_at, index_of, above_of, left_of}
use Rattle.block_spec.specs.SegmentEvents.{around_in, class_of, events_at, events_to, segment_events}
use Rattle.block_spec.proofs.ValuesApart.{apart_more, apart_after}
use Rattle.block_spec.proofs.BlocksOnce.{block_apart}
use Rattle.block_spec.proofs.Predicted.{prediction_fits}
use Rattle.block_spec.proofs.Segments.{Agree, around_at_agrees, events_to_agree}
use Rattle.block_spec.proofs.Given.{given_once}
use borrow.Author.Count.{below_more}

-- what a list of blocks has at an index is a block, past its end too
pub listed_block : (blocks : List (List ℤ)) (i : ℕ) → AllByRecursion IsBlock blocks
    → IsBlock (slice_index_or blocks i no_block)
listed_block [] i all = zeros_are_a_block
listed_block (b ∷ blocks) zero all = all.0
listed_block (b ∷ blocks) (suc i) all = listed_block blocks i all.1

looked_up_block : (g : Grid) (blocks : List (List ℤ)) (o : Option Cell) → AllByRecursion IsBlock blocks
    → IfSome (option_map (block_at g blocks) o) IsBlock
unfolding block_at
looked_up_block g blocks None all = tt
looked_up_block g blocks (Some p) all = listed_block blocks (index_of g p) all

-- the blocks around a cell are blocks
pub around_blocks : (g : Grid) (blocks : List (List ℤ)) (p : Cell) → AllByRecursion IsBlock blocks
    → AreAround (around_in g blocks p)
unfolding around_in
around_blocks g blocks p all = record {
  above = looked_up_block g blocks (above_of g p) all;
  left = looked_up_block g blocks (left_of p) all;
  diagonal = looked_up_block g blocks (option_and_then (above_of g) (left_of p)) all;
}

-- the next block after blocks that agree
next_apart : (g : Grid) (a b : List (List ℤ)) (n : ℕ) → IsGrid g → AllByRecursion IsBlock a → AllByRecursion IsBlock b
    → Agree n a b
    → Agree (n + 1) a b ⊎ AreApart (events_to g a n ++ events_at g a n) (events_to g b n ++ events_at g b n)
unfolding events_at
next_apart g a b n is fa fb agree =
    let cell : Cell = cell_at g n in
    let class : ℕ = class_of cell.component in
    let x : List ℤ = slice_index_or a n no_block in
    let y : List ℤ = slice_index_or b n no_block in
    let fits = prediction_fits (around_in g a cell) (around_blocks g a cell fa) in
    elim (block_apart class (around_in g a cell) x y (listed_block a n fa) (listed_block b n fb) fits) [
      | inl e ↦ inl (below_more _ n agree e)
      | inr h ↦ inr (
          subst (λ (around : Around). AreApart (events_to g a n ++ block_events class (around_in g a cell) x) (events_to g b n ++ block_events class around y)) (around_at_agrees g a b n is agree)
          (subst (λ (es : List (ℕ × Bool)). AreApart (events_to g a n ++ block_events class (around_in g a cell) x) (es ++ block_events class (around_in g a cell) y)) (events_to_agree g a b n is agree)
          (apart_after (events_to g a n) _ _ h)))
    ]

-- the first n blocks
blocks_apart : (g : Grid) (a b : List (List ℤ)) (n : ℕ) → IsGrid g → AllByRecursion IsBlock a → AllByRecursion IsBlock b
    → Agree n a b ⊎ AreApart (events_to g a n) (events_to g b n)
blocks_apart g a b zero is fa fb = inl (λ i below. absurd (omega (arith, below)))
blocks_apart g a b (suc n) is fa fb =
    elim (blocks_apart g a b n is fa fb) [
      | inl agree ↦ elim (next_apart g a b n is fa fb agree) [
        | inl more ↦ inl (λ i below. more i (omega (arith, below)))
        | inr h ↦ inr h
      ]
      | inr h ↦ inr (apart_more (events_to g a n) (events_to g b n) _ _ h)
    ]

segments_apart : (g : Grid) (a b : List (List ℤ)) → IsGrid g → AllByRecursion IsBlock a → AllByRecursion IsBlock b
    → length a ≡ length b
    → (a ≡ b) ⊎ AreApart (segment_events g a) (segment_events g b)
unfolding segment_events
segments_apart g a b is fa fb long =
    elim (blocks_apart g a b (length a) is fa fb) [
      | inl agree ↦ inl (ext_get_or no_block a b long agree)
      | inr h ↦ inr (subst (λ (n : ℕ). AreApart (events_to g a (length a)) (events_to g b n)) long h)
    ]

-- bytes give one list of blocks
pub segment_once : (g : Grid) (bytes : List ℕ) (a b : List (List ℤ)) → IsGrid g → AllByRecursion IsBlock a
    → AllByRecursion IsBlock b → length a ≡ length b
    → IsReading bytes (bools_of (segment_events g a)) → IsReading bytes (bools_of (segment_events g b)) → a ≡ b
segment_once g bytes a b is fa fb long p q =
    elim (segments_apart g a b is fa fb long) [
      | inl e ↦ e
      | inr h ↦ absurd (given_once bytes (segment_events g a) (segment_events g b) p q h)
    ]
