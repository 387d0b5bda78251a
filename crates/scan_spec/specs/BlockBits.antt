-- Statement: the bits of a block (ITU-T T.81, F.1.2). If it has none, the cause that comes first in writing order.
use Rattle.std.specs.Prelude.{ℕ, zero, suc, ◌+◌, ◌*◌, ◌/◌, ◌%◌, Bool, List, [], ◌∷◌, ◌++◌, drop, map, ℤ, pos, ◌-ℤ◌, unsigned_abs, Option, Some, None, Result, Ok, Err, slice_index_or, nat_lt, ◌==◌, if◌then◌else◌}
use Rattle.coef_block.specs.Block.{most_difference}
use Rattle.coef_block.specs.Categories.{category}
use Rattle.coef_block.specs.Zigzag.{zigzag}
use Rattle.jpeg_marker.specs.HuffmanTables.{TableFields}
use Rattle.huff_table.specs.CodeWords.{word_of}
use Rattle.huff_table.specs.declared.plan_codes.ComponentCodes.{ComponentCodes}
use Rattle.scan_spec.specs.ValueBits.{mag}
use Rattle.scan_spec.specs.declared.stop.WriteStop.{WriteStop}
use Rattle.scan_spec.specs.declared.stop.WriteStop.TheVariants.{NoCode, DiffRange}

-- bits, or the first cause in writing order why there are none (own)
abbrev pub Text : Type 0
Text = Result (List Bool) WriteStop

-- a text with bits before it
abbrev pub prefixed : List Bool → Text → Text
prefixed prefix (Ok bits) = Ok (prefix ++ bits)
prefixed prefix (Err stop) = Err stop

-- a text and then another
abbrev pub then_text : Text → Text → Text
then_text (Ok prefix) text = prefixed prefix text
then_text (Err stop) text = Err stop

-- the code word of a symbol
abbrev pub coded_word : Option (List Bool) → Text
coded_word None = Err NoCode
coded_word (Some word) = Ok word

-- by the table that has it (F.1.2.1.2)
unfoldable pub word_text : TableFields → ℕ → Text
word_text table symbol = coded_word (word_of table symbol)

-- the code word of a symbol with a value's category, and the value's bits (F.1.2.1.2, F.1.2.2.2)
unfoldable pub value_text : TableFields → ℕ → ℤ → Text
value_text table symbol value = then_text (word_text table symbol) (Ok (mag value))

-- F0 for each sixteen zeros (F.1.2.2.1)
unfoldable pub zeros_text : TableFields → ℕ → Text
zeros_text table zero = Ok []
zeros_text table (suc sixteens) = then_text (word_text table 0xf0) (zeros_text table sixteens)

-- a coefficient and the zeros before it: F0 for each sixteen zeros, then the symbol of the rest of them and of the
-- coefficient's category (F.1.2.2.1)
abbrev pub coefficient_text : TableFields → ℕ → ℤ → Text
coefficient_text table zeros value =
    then_text (zeros_text table (zeros / 16))
    (value_text table (16 * (zeros % 16) + category (unsigned_abs value)) value)

-- AC coefficients in zigzag order and the zeros before them; the symbol 00 (EOB) follows the last one that isn't 0,
-- unless that is the last of the block (F.1.2.2)
unfoldable pub ac_text : TableFields → ℕ → List ℤ → Text
ac_text table zeros [] = if zeros == 0 then Ok [] else word_text table 0x00
ac_text table zeros (value ∷ values) =
    if unsigned_abs value == 0 then ac_text table (zeros + 1) values
    else then_text (coefficient_text table zeros value) (ac_text table 0 values)

-- a DC by its difference from the component's DC before; one of more than eleven bits has no category (Table F.1)
unfoldable pub dc_text : TableFields → ℤ → ℤ → Text
dc_text table before dc =
    if nat_lt most_difference (unsigned_abs (dc -ℤ before)) then Err DiffRange
    else value_text table (category (unsigned_abs (dc -ℤ before))) (dc -ℤ before)

-- the coefficient at a natural position
abbrev pub coefficient_at : List ℤ → ℕ → ℤ
coefficient_at block place = slice_index_or block place (pos 0)

-- the AC coefficients in zigzag order (A.3.6)
unfoldable pub ac_values : List ℤ → List ℤ
ac_values block = map (coefficient_at block) (drop 1 zigzag)

-- a block, `before` being the DC of the component's block before (F.1.2)
unfoldable pub block_text : ComponentCodes → ℤ → List ℤ → Text
block_text codes before block =
    then_text (dc_text codes.dc before (coefficient_at block 0))
    (ac_text codes.ac 0 (ac_values block))

-- a block in zigzag order (A.3.6)
abbrev pub in_zigzag : List ℤ → List ℤ
in_zigzag block = coefficient_at block 0 ∷ ac_values block
