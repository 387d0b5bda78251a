-- How many segments a lane has.
use Rattle.std.proofs.Common.{◌+◌, ◌*◌, ◌/◌, ◌%◌, ◌<◌, ◌≤◌, ℕ, min, arith}
use Rattle.std.proofs.Math.Nat.{mul-le-mul_left}
use Rattle.std.proofs.lemmas.Grind.{div_ceil_times}

-- at most 16 lanes have all segments, if each has its share
pub are_all_in : (count lanes : ℕ) → 0 < lanes → lanes ≤ 16
    → count ≤ 16 * (count / lanes + min 1 (count % lanes))
are_all_in count lanes some few =
    let room = (div_ceil_times count lanes some).0 in
    let more = mul-le-mul_left (count / lanes + min 1 (count % lanes)) few in
    omega (arith, room, more)
