-- What a source gave and a sink took, over one call more.
use Rattle.std.proofs.Common.{◌≡◌, ℕ, ◌+◌, ◌<◌, ◌≤◌, List, ◌++◌, Option, length, length-take-le, take, drop, subst, sym, ap, ◌∙◌, arith}
use Rattle.std.proofs.Math.Seq.{take-add}
use Rattle.std.proofs.KnownBytes.{Appends-trans, Consumes-trans}
use Rattle.std.specs.Io.KnownBytes.{Appends, Consumes}

-- `old` was filled up to `filled`, and `new` has the next `n` after that
pub Consumes-filled : (a b c : Option (List ℕ)) (old new : List ℕ) (filled n : ℕ) → Consumes a b (take filled old) → take filled new ≡ take filled old
    → Consumes b c (take n (drop filled new)) → Consumes a c (take (filled + n) new)
Consumes-filled a b c old new filled n before kept more =
    let joined : take (filled + n) new ≡ take filled old ++ take n (drop filled new) = take-add filled n new ∙ ap (λ l. l ++ take n (drop filled new)) kept in
    subst (Consumes a c) (sym joined) (Consumes-trans a b c _ _ before more)

-- the first `written` of the bytes were taken, and then `n` of the rest
pub Appends-written : (a b c : Option (List ℕ)) (bytes : List ℕ) (written n : ℕ) → Appends a b (take written bytes)
    → Appends b c (take n (drop written bytes)) → Appends a c (take (written + n) bytes)
Appends-written a b c bytes written n before more =
    subst (Appends a c) (sym (take-add written n bytes)) (Appends-trans a b c _ _ before more)

-- the same where the buffer ends one past the limit, and is filled past the limit
pub Consumes-past : (a b c : Option (List ℕ)) (old new : List ℕ) (filled n limit : ℕ) → Consumes a b (take filled old) → take filled new ≡ take filled old
    → Consumes b c (take n (drop filled new)) → filled + n ≤ length new → length new ≤ limit + 1 → limit < filled + n
    → (taken : List ℕ) × (length taken ≡ limit + 1) × Consumes a c taken
Consumes-past a b c old new filled n limit before kept more in_range bounded past =
    (take (filled + n) new, omega (arith, length-take-le (filled + n) new in_range), Consumes-filled a b c old new filled n before kept more)
