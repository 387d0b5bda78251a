-- The tables of doublings.
use Rattle.std.proofs.Common.{◌≡◌, ℕ, ◌+◌, ◌-◌, ◌*◌, ◌^◌, ◌<◌, ◌≤◌, Bool, true, get_or, refl, arith}
use Rattle.std.specs.Prelude.{◌&&◌, ◌==◌, nat_le}
use Rattle.std.proofs.lemmas.Bool.{agree_below_at, and_parts, leb-true, eqb-true}
use Rattle.bool_coder.specs.declared.doublings.TheConstants.{SHIFTS, LESS, TIMES}
use Rattle.bool_coder.proofs.Line.{Doublings}

-- a range after a number of doublings is at least 128, and a byte; `less` is one less
pub record IsDoubled (range k less : ℕ) : Type 0 where
  pub doublings : Doublings range k
  pub is : less + 1 ≡ range * 2 ^ k

-- whether it is
abbrev are_doubled : ℕ → ℕ → ℕ → Bool
are_doubled range k less =
    nat_le k 7 && (nat_le 128 (range * 2 ^ k) && (nat_le (range * 2 ^ k) 255 && less + 1 == range * 2 ^ k))

-- the entries of both tables for each range from 1 on
entries_are : (less : ℕ) → less < 255 → are_doubled (less + 1) (get_or SHIFTS (less + 1) 0) (get_or LESS (less + 1) 0) ≡ true
entries_are less below =
    agree_below_at (λ k. are_doubled (k + 1) (get_or SHIFTS (k + 1) 0) (get_or LESS (k + 1) 0)) (λ _. true) 255 less refl below

unpacked : (range k less : ℕ) → are_doubled range k less ≡ true → IsDoubled range k less
unpacked range k less all =
    let a = and_parts (nat_le k 7) _ all in
    let b = and_parts (nat_le 128 (range * 2 ^ k)) _ a.1 in
    let c = and_parts (nat_le (range * 2 ^ k) 255) _ b.1 in
    record {
      doublings = record { few = leb-true _ _ a.0; enough = leb-true _ _ b.0; no_more = leb-true _ _ c.0 };
      is = eqb-true _ _ c.1;
    }

pub tables_are : (range : ℕ) → 0 < range → range ≤ 255 → IsDoubled range (get_or SHIFTS range 0) (get_or LESS range 0)
tables_are range some high =
    let e : range - 1 + 1 ≡ range = omega arith in
    rw e at (unpacked (range - 1 + 1) _ _ (entries_are (range - 1) (omega arith)))

-- the entries of the third table are powers of two
pub times_are : (range : ℕ) → range ≤ 255 → get_or TIMES range 0 ≡ 2 ^ get_or SHIFTS range 0
times_are range high =
    eqb-true _ _ (agree_below_at (λ k. get_or TIMES k 0 == 2 ^ get_or SHIFTS k 0) (λ _. true) 256 range refl (omega arith))
