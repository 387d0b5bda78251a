-- How much room bits take as stuffed bytes.
use Rattle.std.proofs.Common.{ℕ, ◌+◌, ◌<◌, ◌≤◌, Bool, List, ◌++◌, length, arith, length-append}
use Rattle.bit_list.specs.Bits.{bytes_after, begun_after, stuffed}
use Rattle.bit_list.proofs.Wholes.{bytes_count, begun_count}
use Rattle.bit_list.proofs.Spanning.{few_stuffed}
use Rattle.scan_spec.specs.TextBounds.{quarters}

-- less than a byte is begun then
pub begun_few : (begun bits : List Bool) → length begun < 8 → length (begun_after begun bits) < 8
begun_few begun bits few = let count = begun_count begun bits few in omega (arith, count)

-- each bit takes a quarter of a byte at most
pub bits_spent : (begun bits : List Bool) (bytes : List ℕ) → length begun < 8
    → quarters (begun_after begun bits) (bytes ++ stuffed (bytes_after begun bits)) ≤ length bits + quarters begun bytes
bits_spent begun bits bytes few =
    let count = begun_count begun bits few in
    let whole = bytes_count begun bits few in
    let most = few_stuffed (bytes_after begun bits) in
    let long = length-append bytes (stuffed (bytes_after begun bits)) in
    omega (arith, count, whole, most, long)
