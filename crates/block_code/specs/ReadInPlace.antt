-- View: what was read, if the block is put where it is wanted (own).
use Rattle.std.specs.Prelude.{List, ℤ, Result, Ok, Err}
use Rattle.block_spec.specs.declared.fault.BlockFault.{BlockFault}

-- the block, or the fault
abbrev pub read_as : {A : Type 0} → Result A BlockFault → List ℤ → Result (List ℤ) BlockFault
read_as (Ok done) block = Ok block
read_as (Err fault) block = Err fault
