-- Rows: worked pad bits (own).
use Rattle.std.specs.Prelude.{◌≡◌, Bool, true, false, [], ◌∷◌, map, replicate}
use Rattle.handover.specs.declared.pads.PadSum.{PadSum}
use Rattle.scan_spec.specs.BlockRows.{level}
use Rattle.scan_spec.specs.Pads.{Same, Listed, bit_for, interval_count, list_room, pad_list, intervals_sum, spelling_of, is_spelled}
use Rattle.scan_spec.specs.ScanRows.{grey}

-- a sum
abbrev pub sum_of : Bool → Bool → Bool → PadSum
sum_of zero one vain = record { zero = zero; one = one; vain = vain }

-- lists of bits, and the intervals that they are for
abbrev pub listed : Type 0
listed =
    (pad_list (true ∷ false ∷ []) ≡ 0x80 ∷ [])
    × (pad_list (replicate 8 true) ≡ 0xff ∷ [])
    × (pad_list (false ∷ replicate 8 true) ≡ 0x7f ∷ 0x80 ∷ [])
    × (map (bit_for (Listed (0x40 ∷ []))) (0 ∷ 1 ∷ 2 ∷ []) ≡ false ∷ true ∷ false ∷ [])
    × (map (λ interval. interval_count (grey level 9 interval)) (0 ∷ 1 ∷ 2 ∷ 9 ∷ []) ≡ 1 ∷ 9 ∷ 5 ∷ 1 ∷ [])
    × (map (λ interval. list_room (grey level 9 interval)) (0 ∷ 1 ∷ 2 ∷ 9 ∷ []) ≡ 1 ∷ 2 ∷ 1 ∷ 1 ∷ [])

-- what two intervals come to, by how many bits each pads
abbrev pub summed : Type 0
summed =
    (intervals_sum (Same true) 0 (6 ∷ 6 ∷ []) ≡ sum_of false true false)
    × (intervals_sum (Same false) 0 (6 ∷ 0 ∷ []) ≡ sum_of true false false)
    × (intervals_sum (Same false) 0 (0 ∷ 0 ∷ []) ≡ sum_of false false false)
    × (intervals_sum (Listed (0x80 ∷ [])) 0 (6 ∷ 6 ∷ []) ≡ sum_of true true false)
    × (intervals_sum (Listed (0x80 ∷ [])) 0 (6 ∷ 0 ∷ []) ≡ sum_of false true true)

-- how pad bits are said, and ways to say them that are refused
abbrev pub spelled : Type 0
spelled =
    (spelling_of (true ∷ false ∷ []) (sum_of true true false) ≡ Listed (0x80 ∷ []))
    × (spelling_of (true ∷ true ∷ []) (sum_of false true false) ≡ Same true)
    × (spelling_of (false ∷ true ∷ []) (sum_of true false false) ≡ Same false)
    × (spelling_of (true ∷ []) (sum_of false false false) ≡ Same true)
    × (is_spelled (Same true) (sum_of false false false) ≡ true)
    × (is_spelled (Same false) (sum_of false false false) ≡ false)
    × (is_spelled (Listed (0x80 ∷ [])) (sum_of true true false) ≡ true)
    × (is_spelled (Listed (0xc0 ∷ [])) (sum_of false true false) ≡ false)
    × (is_spelled (Listed (0x80 ∷ [])) (sum_of true true true) ≡ false)

-- all of them
abbrev pub rows : Type 0
rows = listed × summed × spelled
