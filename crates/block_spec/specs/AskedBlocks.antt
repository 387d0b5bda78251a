-- Statement: the block that bits give, one after another: its events, the other way round
-- (docs/FORMAT.md, The events of a block).
use Rattle.std.specs.Prelude.{ℕ, zero, suc, ◌+◌, ◌-◌, ◌*◌, ◌^◌, ◌==◌, nat_lt, nat_le, Bool, true, false, if◌then◌else◌, List, [], ◌∷◌, replicate, ℤ, pos, ◌+ℤ◌, ◌-ℤ◌, unsigned_abs, slice_set, Result, Ok, Err}
use Rattle.coef_block.specs.Block.{most_dc}
use Rattle.coef_block.specs.Categories.{category}
use Rattle.coef_context.specs.BinNumbers.{bin_number}
use Rattle.coef_context.specs.declared.context.Context.TheVariants.{InnerCount, EdgeCount, DcStep}
use Rattle.coef_context.specs.declared.context.Kind.TheVariants.{Dc}
use Rattle.coef_context.specs.ValueBins.{ValueBins, value_bins}
use Rattle.block_spec.specs.Values.{nonzeros}
use Rattle.block_spec.specs.Around.{Around, inner_positions, row_positions, column_positions, guess, prediction, dc_spread}
use Rattle.block_spec.specs.BlockEvents.{inner_bins, edge_bins}
use Rattle.block_spec.specs.declared.fault.BlockFault.{BlockFault}
use Rattle.block_spec.specs.declared.fault.BlockFault.TheVariants.{BlockCount, DcRange}
use Rattle.block_spec.specs.Asking.{Asked, Told, Ask, then_ask}

-- `count` bits more of a number, highest first, after those above them (own); a bit's bin follows from its index and
-- from the bits above it
unfoldable pub asked_number : (ℕ → ℕ → ℕ) → ℕ → ℕ → Asked ℕ
asked_number bin zero above = Told above
asked_number bin (suc count) above =
    Ask (bin count above) (λ bit. asked_number bin count (2 * above + (if bit then 1 else 0)))

-- a count in `bits` bits (own); a bit's bin is that of its node: 1 at first, then twice the node plus the bit
unfoldable pub asked_count : (ℕ → ℕ) → ℕ → Asked ℕ
asked_count bin bits =
    then_ask (asked_number (λ bit node. bin node) bits 1) (λ n. Told (n - 2 ^ bits))

-- a category from the first on (own): one more for each one, up to a zero or to the last of `steps` steps
unfoldable pub asked_category : (ℕ → ℕ) → ℕ → ℕ → Asked ℕ
asked_category bin zero first = Told first
asked_category bin (suc steps) first =
    Ask (bin first) (λ bit. if bit then asked_category bin steps (first + 1) else Told first)

-- a value by its sign, which is set below 0, and its magnitude (own)
abbrev pub signed : Bool → ℕ → ℤ
signed false n = pos n
signed true n = pos 0 -ℤ pos n

-- a value of a category (own): its sign, and the bits below its highest one
unfoldable pub asked_rest : ValueBins → ℕ → Asked ℤ
asked_rest bins zero = Told (pos 0)
asked_rest bins (suc low) =
    Ask (bins.sign (suc low))
    (λ negative. then_ask (asked_number (λ bit above. bins.low (suc low) bit) low 1)
    (λ n. Told (signed negative n)))

-- a value whose category has `steps` steps, from the first on (own)
unfoldable pub asked_value : ValueBins → ℕ → ℕ → Asked ℤ
asked_value bins first steps =
    then_ask (asked_category bins.step (steps - first) first) (λ s. asked_rest bins s)

-- the values of `left` places from one on, `remain` of which aren't 0 (own)
unfoldable pub asked_values : (ℕ → ℕ → ValueBins) → ℕ → ℕ → ℕ → Asked (List ℤ)
asked_values bins place zero remain = Told []
asked_values bins place (suc left) remain =
    if remain == 0 then Told (replicate (suc left) (pos 0))
    else then_ask
    (asked_value (bins place remain) (if remain == suc left then 1 else 0) 10)
    (λ x. then_ask (asked_values bins (place + 1) left (remain - nonzeros (x ∷ [])))
    (λ xs. Told (x ∷ xs)))

-- an edge (own): how many of its seven coefficients aren't 0, and these
unfoldable pub asked_edge : ℕ → Bool → Around → ℕ → Asked (List ℤ)
asked_edge class column around inner =
    then_ask
    (asked_count (λ node. bin_number class (EdgeCount column (category inner) node)) 3)
    (λ n. asked_values (edge_bins class column around) 0 7 n)

-- a DC less its prediction (own)
unfoldable pub asked_residue : ℕ → Around → Asked ℤ
asked_residue class around =
    asked_value
    (value_bins class Dc 0 (λ step. bin_number class (DcStep (dc_spread around) step))) 0 16

-- values at natural positions, one after another (own)
unfoldable pub placed : List ℕ → List ℤ → List ℤ → List ℤ
placed [] values block = block
placed (position ∷ positions) [] block = block
placed (position ∷ positions) (value ∷ values) block =
    placed positions values (slice_set block position value)

-- a block of a DC, the inner coefficients and both edges (own)
unfoldable pub block_with : ℤ → List ℤ → List ℤ → List ℤ → List ℤ
block_with dc inner row column =
    placed column_positions column
    (placed row_positions row (placed inner_positions inner (dc ∷ replicate 63 (pos 0))))

-- the block, if its DC is within its range (own)
abbrev pub block_within : ℤ → List ℤ → List ℤ → List ℤ → Result (List ℤ) BlockFault
block_within dc inner row column =
    if nat_le (unsigned_abs dc) most_dc then Ok (block_with dc inner row column) else Err DcRange

-- the coefficients of a block whose inner count is known (own)
unfoldable pub asked_coefficients : ℕ → Around → ℕ → Asked (Result (List ℤ) BlockFault)
asked_coefficients class around n =
    then_ask (asked_values (inner_bins class around) 0 49 n)
    (λ inner. then_ask (asked_edge class false around n)
    (λ row. then_ask (asked_edge class true around n)
    (λ column. then_ask (asked_residue class around)
    (λ residue. Told (block_within (prediction around +ℤ residue) inner row column)))))

-- a block, or why there is none (own): an inner count above 49, or a DC out of its range
unfoldable pub asked_block : ℕ → Around → Asked (Result (List ℤ) BlockFault)
asked_block class around =
    then_ask
    (asked_count (λ node. bin_number class (InnerCount (category (guess around)) node)) 6)
    (λ n. if nat_lt 49 n then Told (Err BlockCount) else asked_coefficients class around n)
