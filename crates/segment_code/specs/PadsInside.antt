-- View: the value of the pad bits of a pass, and their invariant (own).
use Rattle.std.specs.Prelude.{◌++◌}
use Rattle.std.specs.List.{AllByRecursion}
use Rattle.bit_list.specs.Bits.{IsByte, bits_of, low_bits}
use Rattle.bit_list.specs.BitsInside.{IsKept}
use Rattle.segment_code.specs.FoundPads.{FoundPads}
use Rattle.segment_code.specs.declared.pads.PadsFound.TheInside.{Inside}

-- the bits of the whole bytes, and those after them
abbrev pub pads_in : Inside → FoundPads
pads_in p = record {
  bits = bits_of p.bytes.items ++ low_bits p.count p.begun;
  sum = p.sum;
}

-- the bits after the whole bytes are at most seven
pub record IsPads (p : Inside) : Type 0 where
  pub begun : IsKept 7 p.begun p.count
  pub bytes : AllByRecursion IsByte p.bytes.items
