-- Statement: the MCUs of a sample, each drawn after the one before (docs/SAMPLE.md, The file).
use Rattle.std.specs.Prelude.{ℕ, zero, suc, ◌+◌, ◌%◌, List, [], ◌∷◌, replicate, ℤ, pos, ◌-ℤ◌, slice_index, slice_set}
use Rattle.coef_block.specs.Zigzag.{zigzag}
use Rattle.scan_spec.specs.Scans.{Mcu}
use Rattle.sample_jpeg.specs.Draws.{draw, state_after}

-- what was drawn, and the state of the generator after it
pub record Drawn (A : Type 0) : Type 0 where
  pub value : A
  pub state : ℕ

-- a DC from -1000 to 1000
abbrev pub drawn_dc : ℕ → ℤ
drawn_dc state = pos (draw state % 2001) -ℤ pos 1000

-- a zigzag index from 1 to 63
abbrev pub drawn_index : ℕ → ℕ
drawn_index state = 1 + draw state % 63

-- an AC coefficient from -15 to 15
abbrev pub drawn_ac : ℕ → ℤ
drawn_ac state = pos (draw state % 31) -ℤ pos 15

-- a block with a coefficient set: its index is drawn, then its value
abbrev pub set_once : List ℤ → ℕ → List ℤ
set_once block state =
    slice_set block (slice_index zigzag (drawn_index state)) (drawn_ac (state_after state))

-- and with n of them, of which later ones may replace earlier ones
abbrev pub set_times : ℕ → List ℤ → ℕ → Drawn (List ℤ)
set_times zero block state = record { value = block; state = state }
set_times (suc n) block state =
    set_times n (set_once block state) (state_after (state_after state))

-- a block of a DC alone
abbrev pub block_of_dc : ℤ → List ℤ
block_of_dc dc = slice_set (replicate 64 (pos 0)) 0 dc

-- a block: its DC is drawn, then how many coefficients are set, from 0 to 7, and then each of these
abbrev pub drawn_block : ℕ → Drawn (List ℤ)
drawn_block state =
    let counted = state_after state in
    set_times (draw counted % 8) (block_of_dc (drawn_dc state)) (state_after counted)

-- something drawn before others
abbrev pub drawn_before : {A : Type 0} → A → Drawn (List A) → Drawn (List A)
drawn_before first rest = record { value = first ∷ rest.value; state = rest.state }

-- n blocks, one after another
unfoldable pub drawn_blocks : ℕ → ℕ → Drawn (List (List ℤ))
drawn_blocks zero state = record { value = []; state = state }
drawn_blocks (suc n) state =
    let block = drawn_block state in drawn_before block.value (drawn_blocks n block.state)

-- n MCUs of three blocks each, one of each component (T.81, A.2.3)
unfoldable pub drawn_mcus : ℕ → ℕ → Drawn (List Mcu)
drawn_mcus zero state = record { value = []; state = state }
drawn_mcus (suc n) state =
    let mcu = drawn_blocks 3 state in drawn_before mcu.value (drawn_mcus n mcu.state)
