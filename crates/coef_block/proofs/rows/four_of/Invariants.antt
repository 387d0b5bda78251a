use Rattle.std.proofs.Common.{◌≡◌, ◌++◌, ◌-◌, replicate, take}
use Rattle.coef_block.proofs.rows.four_of.Given as goal

abbrev pub invariant-loop-component : goal.invariant-loop-component
invariant-loop-component l = l.four ≡ take l.component l.numbers ++ replicate (4 - l.component) 0
