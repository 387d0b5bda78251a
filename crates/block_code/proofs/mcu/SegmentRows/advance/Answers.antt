use Rattle.std.proofs.Common.{◌≡◌, ℕ, suc, ◌+◌, ◌*◌, length, arith, ◌∙◌, ap}
use Rattle.coef_block.specs.BlockRows.{block_count}
use Rattle.block_spec.proofs.Keeping.{next_kept}
use Rattle.block_code.proofs.mcu.SegmentRows.advance.Goals as goal

-- the last MCU of a row is followed by the first one of the next
turned : (row across before b n : ℕ) → n ≡ (row * across + (before + 1)) * b → before + 1 ≡ across → n ≡ suc row * across * b
turned row across before b n e last =
    let whole : row * across + (before + 1) ≡ suc row * across = rw last (omega arith) in
    e ∙ ap (λ (m : ℕ). m * b) whole

first_of : (row across b n : ℕ) → n ≡ suc row * across * b → n ≡ (suc row * across + 0) * b
first_of row across b n e = let none : suc row * across + 0 ≡ suc row * across = omega arith in rw none e

pub returns-then-self-across-clause-next : goal.returns-then-self-across-clause-next
returns-then-self-across-clause-next c = λ done row count held.
    let g = c.self.inside.grid in
    let count : length done ≡ (row * g.across + (c.self.inside.before + 1)) * block_count g.mcu = rw (← c.self.view_is) at count in
    let held = rw (← c.self.view_is) at held in
    let whole = turned row g.across c.self.inside.before (block_count g.mcu) (length done) count (c.if-self-across.true ∙ c.across-across.ensures.value) in
    record {
      row = suc row;
      count = first_of row g.across (block_count g.mcu) (length done) whole;
      held = rw (c.next_row.ensures) (next_kept c.self.inside.rows g done row whole held);
    }
