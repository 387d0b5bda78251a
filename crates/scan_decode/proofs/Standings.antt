-- An MCU by its blocks and what stands after them.
use Rattle.std.proofs.Common.{◌≡◌, ℕ, List, ℤ, Result, Ok, Err, refl, ap, ◌∙◌}
use Rattle.scan_spec.specs.Slots.{Shape}
use Rattle.scan_spec.specs.ScanReading.{and_then, blocks_at, BlocksRead, after_mcu, mcu_at, Standing}
use Rattle.scan_spec.specs.declared.refusal.ScanRefusal.{ScanRefusal}
use Rattle.scan_decode.specs.ReadResults.{mcu_read, standing_read}

abbrev pub Mcu : Type 0
Mcu = Result (List (List ℤ) × Standing) ScanRefusal

abbrev dcs_after_read : Shape → List ℕ → Standing → BlocksRead → Mcu
dcs_after_read shape bytes at read = and_then (after_mcu shape bytes at read) (λ next. Ok (read.blocks, next))

pub no_blocks : (shape : Shape) (bytes : List ℕ) (at : Standing) (refusal : ScanRefusal) → Err refusal ≡ blocks_at shape.slots at.before bytes at.cursor → Err refusal ≡ mcu_at shape bytes at
unfolding mcu_at
no_blocks shape bytes at refusal e = ap (λ (r : Result BlocksRead ScanRefusal). and_then r (dcs_after_read shape bytes at)) e

blocks_there : (shape : Shape) (bytes : List ℕ) (at : Standing) (read : BlocksRead) → Ok read ≡ blocks_at shape.slots at.before bytes at.cursor → dcs_after_read shape bytes at read ≡ mcu_at shape bytes at
unfolding mcu_at
blocks_there shape bytes at read e = ap (λ (r : Result BlocksRead ScanRefusal). and_then r (dcs_after_read shape bytes at)) e

put_both : {A : Type 0} (r : Result A ScanRefusal) (blocks : List (List ℤ)) (next : Standing) → mcu_read r blocks next ≡ and_then (standing_read r next) (λ at. Ok (blocks, at))
put_both (Ok x) blocks next = refl
put_both (Err e) blocks next = refl

-- an MCU by its blocks and what follows them
pub ends_well : {A : Type 0} (r : Result A ScanRefusal) (next : Standing) (shape : Shape) (bytes : List ℕ) (at : Standing) (read : BlocksRead) → Ok read ≡ blocks_at shape.slots at.before bytes at.cursor
    → standing_read r next ≡ after_mcu shape bytes at read → mcu_read r read.blocks next ≡ mcu_at shape bytes at
ends_well r next shape bytes at read e is =
    put_both r read.blocks next ∙ ap (λ (s : Result Standing ScanRefusal). and_then s (λ n. Ok (read.blocks, n))) is ∙ blocks_there shape bytes at read e
