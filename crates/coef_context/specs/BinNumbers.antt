-- Statement: the number of a context's bin: where the run of its shape begins, plus the number that the class and the
-- parts of the context write as digits, each below its radix (docs/FORMAT.md, Bins). A part that counts from 1 has a
-- digit one less.
use Rattle.std.specs.Prelude.{◌≡◌, ℕ, ◌+◌, ◌*◌, ◌-◌, ◌<◌, ◌≤◌, Bool, true, false, List, [], ◌∷◌, zero, suc}
use Rattle.coef_context.specs.Runs.{count_sizes, inner_nodes, edge_nodes, inner_values, edges, edge_values, weights, inner_remain_sizes, edge_remain_sizes, ac_sizes, spreads, dc_sizes, ac_low_bits, dc_low_bits, inner_counts_start, inner_steps_start, edge_counts_start, edge_steps_start, dc_steps_start, inner_signs_start, inner_low_bits_start, edge_signs_start, edge_low_bits_start, dc_signs_start, dc_low_bits_start}
use Rattle.coef_context.specs.declared.context.Context.{Context}
use Rattle.coef_context.specs.declared.context.Context.TheVariants.{InnerCount, InnerStep, EdgeCount, EdgeStep, DcStep, Sign, Low}
use Rattle.coef_context.specs.declared.context.Kind.{Kind}
use Rattle.coef_context.specs.declared.context.Kind.TheVariants.{Inner, Row, Column, Dc}

-- the row edge is 0, the column edge 1
abbrev pub flag : Bool → ℕ
flag false = 0
flag true = 1

-- how many entries some rows have, of which the first has `k`, and each other one more than the row before it
abbrev pub rows_from : ℕ → ℕ → ℕ
rows_from k zero = 0
rows_from k (suc rows) = k + rows_from (k + 1) rows

-- a lower bit among those of all sizes: a value of size 2 has one, of size 3 two, and so on
abbrev pub low_bit_index : ℕ → ℕ → ℕ
low_bit_index size bit = rows_from 1 (size - 2) + bit

-- the digits of a value's sign or lower bit: the edge, the place, and the digit of the size, or of the bit, last
abbrev pub value_digits : Kind → ℕ → ℕ → List ℕ
value_digits Inner place last = place ∷ last ∷ []
value_digits Row place last = flag false ∷ place ∷ last ∷ []
value_digits Column place last = flag true ∷ place ∷ last ∷ []
value_digits Dc place last = last ∷ []

-- their radices: the last digit's is `ac` for a coefficient, and `dc` for the residue
abbrev pub value_radices : Kind → ℕ → ℕ → List ℕ
value_radices Inner ac dc = inner_values ∷ ac ∷ []
value_radices Row ac dc = edges ∷ edge_values ∷ ac ∷ []
value_radices Column ac dc = edges ∷ edge_values ∷ ac ∷ []
value_radices Dc ac dc = dc ∷ []

-- the largest size of a value
abbrev pub largest : Kind → ℕ
largest Inner = ac_sizes
largest Row = ac_sizes
largest Column = ac_sizes
largest Dc = dc_sizes

-- the digits of a context, but the class's
abbrev pub digits : Context → List ℕ
digits (InnerCount size node) = size ∷ (node - 1) ∷ []
digits (InnerStep place weight left step) = place ∷ weight ∷ (left - 1) ∷ step ∷ []
digits (EdgeCount column size node) = flag column ∷ size ∷ (node - 1) ∷ []
digits (EdgeStep column place weight left step) =
    flag column ∷ place ∷ weight ∷ (left - 1) ∷ step ∷ []
digits (DcStep spread step) = spread ∷ step ∷ []
digits (Sign kind place size) = value_digits kind place (size - 1)
digits (Low kind place size bit) = value_digits kind place (low_bit_index size bit)

-- the radices of a sign's digits
abbrev pub sign_radices : Kind → List ℕ
sign_radices kind = value_radices kind ac_sizes dc_sizes

-- the radices of a lower bit's digits
abbrev pub low_radices : Kind → List ℕ
low_radices kind = value_radices kind ac_low_bits dc_low_bits

-- how many values each digit has
abbrev pub radices : Context → List ℕ
radices (InnerCount size node) = count_sizes ∷ inner_nodes ∷ []
radices (InnerStep place weight left step) =
    inner_values ∷ weights ∷ inner_remain_sizes ∷ ac_sizes ∷ []
radices (EdgeCount column size node) = edges ∷ count_sizes ∷ edge_nodes ∷ []
radices (EdgeStep column place weight left step) =
    edges ∷ edge_values ∷ weights ∷ edge_remain_sizes ∷ ac_sizes ∷ []
radices (DcStep spread step) = spreads ∷ dc_sizes ∷ []
radices (Sign kind place size) = sign_radices kind
radices (Low kind place size bit) = low_radices kind

-- where the run of the signs begins
abbrev pub sign_start : Kind → ℕ
sign_start Inner = inner_signs_start
sign_start Row = edge_signs_start
sign_start Column = edge_signs_start
sign_start Dc = dc_signs_start

-- where the run of the lower bits begins
abbrev pub low_start : Kind → ℕ
low_start Inner = inner_low_bits_start
low_start Row = edge_low_bits_start
low_start Column = edge_low_bits_start
low_start Dc = dc_low_bits_start

-- where the run of a context's shape begins
abbrev pub start : Context → ℕ
start (InnerCount size node) = inner_counts_start
start (InnerStep place weight left step) = inner_steps_start
start (EdgeCount column size node) = edge_counts_start
start (EdgeStep column place weight left step) = edge_steps_start
start (DcStep spread step) = dc_steps_start
start (Sign kind place size) = sign_start kind
start (Low kind place size bit) = low_start kind

-- the number that digits write after the digits of `n`, highest first
abbrev pub written : ℕ → List ℕ → List ℕ → ℕ
written n (r ∷ rs) (d ∷ ds) = written (n * r + d) rs ds
written n [] ds = n
written n (r ∷ rs) [] = n

-- a digit for each radix, and below it
abbrev pub AreDigits : List ℕ → List ℕ → Type 0
AreDigits [] [] = Unit {0}
AreDigits (r ∷ rs) (d ∷ ds) = (d < r) × AreDigits rs ds
AreDigits [] (d ∷ ds) = ⊥
AreDigits (r ∷ rs) [] = ⊥

-- the bin of a context in a class
abbrev pub bin_number : ℕ → Context → ℕ
bin_number class c = start c + written class (radices c) (digits c)

-- nodes, sizes and what remains count from 1, and a lower bit is below its size's top bit
abbrev pub StartsAtOne : Context → Type 0
StartsAtOne (InnerCount size node) = 1 ≤ node
StartsAtOne (InnerStep place weight left step) = 1 ≤ left
StartsAtOne (EdgeCount column size node) = 1 ≤ node
StartsAtOne (EdgeStep column place weight left step) = 1 ≤ left
StartsAtOne (DcStep spread step) = Unit {0}
StartsAtOne (Sign kind place size) = 1 ≤ size
StartsAtOne (Low kind place size bit) = (2 ≤ size) × (bit + 2 ≤ size) × (size ≤ largest kind)

-- the residue is the one value of its kind
abbrev pub PlaceFits : Context → Type 0
PlaceFits (Sign Dc place size) = place ≡ 0
PlaceFits (Low Dc place size bit) = place ≡ 0
PlaceFits _ = Unit {0}

-- each part of the context is in its range
pub record IsContext (c : Context) : Type 0 where
  pub digits : AreDigits (radices c) (digits c)
  pub from : StartsAtOne c
  pub place : PlaceFits c
