-- What a block more adds to a segment.
use Rattle.std.proofs.Common.{◌≡◌, ℕ, zero, suc, ◌+◌, ◌<◌, ◌≤◌, arith, refl, ap, ◌∙◌, List, [], ◌∷◌, ◌++◌, length}
use Rattle.std.specs.Prelude.{ℤ, Option, Some, None, IfSome, option_map, slice_index_or}
use Rattle.std.specs.Option.{option_and_then}
use Rattle.std.proofs.lemmas.List.{get_or_append_left, get_or_push, length_push}
use Rattle.coef_block.specs.BlockRows.{no_block}
use Rattle.block_spec.specs.Around.{Around}
use Rattle.block_spec.specs.BlockEvents.{block_events}
use Rattle.block_spec.specs.Grid.{Grid, Cell, index_of, IsCell, IsGrid, cell_at, block_at, above_of, left_of}
use Rattle.block_spec.specs.SegmentEvents.{around_in, class_of, events_at, events_to, segment_events}
use Rattle.block_spec.proofs.CellIndexes.{Before, above_before, left_before}
use Rattle.block_spec.proofs.CellsOfBlocks.{cell_is, index_is}

-- two lists with the same blocks before one
abbrev pub Agree : ℕ → List (List ℤ) → List (List ℤ) → Type 0
Agree n xs ys = (i : ℕ) → i < n → slice_index_or xs i no_block ≡ slice_index_or ys i no_block

looked_up : (g : Grid) (xs ys : List (List ℤ)) (n : ℕ) (p : Cell) (o : Option Cell) → index_of g p ≤ n → Agree n xs ys
    → IfSome o (Before g p) → option_map (block_at g xs) o ≡ option_map (block_at g ys) o
unfolding block_at
looked_up g xs ys n p None below agree is = refl
looked_up g xs ys n p (Some q) below agree is = ap Some (agree (index_of g q) (omega (arith, is.1, below)))

before_before : (g : Grid) (p : Cell) (o : Option Cell) → ((q : Cell) → IsCell g q → IfSome (above_of g q) (Before g q))
    → IfSome o (Before g p) → IfSome (option_and_then (above_of g) o) (Before g p)
before_before g p None up is = tt
before_before g p (Some q) up is = further (above_of g q) (up q is.0)
  where
    further : (o : Option Cell) → IfSome o (Before g q) → IfSome o (Before g p)
    further None h = tt
    further (Some s) h = (h.0, omega (arith, h.1, is.1))

above_cell : (g : Grid) (p : Cell) → IsCell g p → IfSome (above_of g p) (Before g p)
above_cell g p is = above_before g p.mcu_row p.component p.row p.column is

left_cell : (g : Grid) (p : Cell) → IsCell g p → IfSome (left_of p) (Before g p)
left_cell g p is = left_before g p.mcu_row p.component p.row p.column is

pub same_around : (a b c d e f : Option (List ℤ)) → a ≡ d → b ≡ e → c ≡ f
    → (let x : Around = record { above = a; left = b; diagonal = c } in x) ≡ (let y : Around = record { above = d; left = e; diagonal = f } in y)
same_around a b c d e f p q r = ap (λ (z : Option (List ℤ)). let x : Around = record { above = z; left = b; diagonal = c } in x) p
    ∙ ap (λ (z : Option (List ℤ)). let x : Around = record { above = d; left = z; diagonal = c } in x) q ∙ ap (λ (z : Option (List ℤ)). let x : Around = record { above = d; left = e; diagonal = z } in x) r

-- the blocks around one are among those before it
pub around_earlier : (g : Grid) (xs ys : List (List ℤ)) (n : ℕ) (p : Cell) → IsCell g p → index_of g p ≤ n
    → Agree n xs ys → around_in g xs p ≡ around_in g ys p
unfolding around_in
around_earlier g xs ys n p is below agree =
    same_around _ _ _ _ _ _ (looked_up g xs ys n p (above_of g p) below agree (above_cell g p is)) (looked_up g xs ys n p (left_of p) below agree (left_cell g p is))
    (looked_up g xs ys n p (option_and_then (above_of g) (left_of p)) below agree (before_before g p (left_of p) (above_cell g) (left_cell g p is)))

pub around_at_agrees : (g : Grid) (xs ys : List (List ℤ)) (n : ℕ) → IsGrid g → Agree n xs ys
    → around_in g xs (cell_at g n) ≡ around_in g ys (cell_at g n)
around_at_agrees g xs ys n is agree = around_earlier g xs ys n (cell_at g n) (cell_is g n is) (let e = index_is g n is in omega (arith, e)) agree

-- so the events of a block are those of any list that has the same blocks up to it
pub events_agree : (g : Grid) (xs ys : List (List ℤ)) (n : ℕ) → IsGrid g → Agree (n + 1) xs ys
    → events_at g xs n ≡ events_at g ys n
unfolding events_at
events_agree g xs ys n is agree =
    ap (λ (a : Around). block_events (class_of (cell_at g n).component) a (slice_index_or xs n no_block)) (around_at_agrees g xs ys n is (λ i below. agree i (omega (arith, below))))
    ∙ ap (block_events (class_of (cell_at g n).component) (around_in g ys (cell_at g n))) (agree n (omega arith))

pub events_to_agree : (g : Grid) (xs ys : List (List ℤ)) (n : ℕ) → IsGrid g → Agree n xs ys
    → events_to g xs n ≡ events_to g ys n
events_to_agree g xs ys zero is agree = refl
events_to_agree g xs ys (suc n) is agree =
    ap (λ es. es ++ events_at g xs n) (events_to_agree g xs ys n is (λ i below. agree i (omega (arith, below)))) ∙ ap (λ es. events_to g ys n ++ es) (events_agree g xs ys n is (λ i below. agree i (omega (arith, below))))

-- one block more: its events follow, looked up among the blocks before it
pub segment_more : (g : Grid) (blocks : List (List ℤ)) (b : List ℤ) → IsGrid g →
    segment_events g (blocks ++ b ∷ []) ≡ segment_events g blocks ++ block_events (class_of (cell_at g (length blocks)).component) (around_in g blocks (cell_at g (length blocks))) b
unfolding segment_events events_at
segment_more g blocks b is =
    let more : Agree (length blocks) (blocks ++ b ∷ []) blocks = λ i below. get_or_append_left blocks (b ∷ []) no_block i below in
    let long : length (blocks ++ b ∷ []) ≡ suc (length blocks) = let l = length_push blocks b in omega (arith, l) in
    rw long
    (ap (λ es. es ++ events_at g (blocks ++ b ∷ []) (length blocks)) (events_to_agree g (blocks ++ b ∷ []) blocks (length blocks) is more)
    ∙ ap (λ (a : Around). events_to g blocks (length blocks) ++ block_events (class_of (cell_at g (length blocks)).component) a (slice_index_or (blocks ++ b ∷ []) (length blocks) no_block)) (around_at_agrees g (blocks ++ b ∷ []) blocks (length blocks) is more)
    ∙ ap (λ (x : List ℤ). events_to g blocks (length blocks) ++ block_events (class_of (cell_at g (length blocks)).component) (around_in g blocks (cell_at g (length blocks))) x) (get_or_push blocks b no_block (length blocks) refl))
