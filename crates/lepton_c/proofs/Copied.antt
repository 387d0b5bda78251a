-- What was copied of bytes that are held, as a call gives it.
use Rattle.std.proofs.Common.{◌≡◌, ℕ, ◌<◌, ◌≤◌, Bool, true, false, nat_lt, List, length, take, ap, refl, sym, subst, ◌∙◌, arith}
use Rattle.std.proofs.lemmas.Bool.Decides.{nat_tests}
use Rattle.std.proofs.lemmas.List.{length-take-le, take-take}
use Rattle.lepton_c.specs.Gives.{Puts, PutsAll, PutsFirst}
use Rattle.lepton_c.specs.Writes.{IsPart}
use Rattle.lepton_c.specs.declared.answer.Answer.{Answer}
use Rattle.lepton_c.specs.declared.answer.Answer.TheVariants.{NoMemory, NoRoom}

by_test : (Gives : Answer → Type 0) (held old new bytes : List ℕ) (answer result : Answer)
    (test : Bool) → nat_lt (length old) (length held) ≡ test → held ≡ bytes
    → (length held ≤ length old → (result ≡ answer) × Puts old new held)
    → (length old < length held → (result ≡ NoRoom (length old)) × Puts old new (take (length old) held))
    → (PutsAll old new bytes (length held) → Gives answer)
    → ((n : ℕ) → PutsFirst old new bytes n → Gives (NoRoom n))
    → Gives result
by_test Gives held old new bytes answer result true is same whole part all first =
    let less : length old < length held = let test = is in grind (arith, nat_tests) in
    let p = part less in
    let long = ap length same in
    subst Gives (sym p.0) (first (length old) (
      refl,
      omega (arith, less, long),
      subst (λ (l : List ℕ). Puts old new (take (length old) l)) same p.1,
    ))
by_test Gives held old new bytes answer result false is same whole part all first =
    let fits : length held ≤ length old = let test = is in grind (arith, nat_tests) in
    let p = whole fits in
    subst Gives (sym p.0) (all (ap length same, subst (Puts old new) same p.1))

-- all bytes were held
pub copied : (Gives : Answer → Type 0) (held old new bytes : List ℕ) (answer result : Answer)
    → held ≡ bytes
    → (length held ≤ length old → (result ≡ answer) × Puts old new held)
    → (length old < length held → (result ≡ NoRoom (length old)) × Puts old new (take (length old) held))
    → (PutsAll old new bytes (length held) → Gives answer)
    → ((n : ℕ) → PutsFirst old new bytes n → Gives (NoRoom n))
    → Gives result
copied Gives held old new bytes answer result =
    by_test Gives held old new bytes answer result (nat_lt (length old) (length held)) refl

fill_test : (Gives : Answer → Type 0) (held old new bytes : List ℕ) (written : ℕ) (result : Answer)
    (test : Bool) → nat_lt (length held) (length old) ≡ test → IsPart held bytes written
    → (length old ≤ length held → (result ≡ NoRoom (length old)) × Puts old new (take (length old) held))
    → (length held < length old → (result ≡ NoMemory) × (new ≡ old))
    → (new ≡ old → Gives NoMemory)
    → ((n : ℕ) → PutsFirst old new bytes n → Gives (NoRoom n))
    → Gives result
fill_test Gives held old new bytes written result true is part full short none first =
    let less : length held < length old = let test = is in grind (arith, nat_tests) in
    let p = short less in
    subst Gives (sym p.0) (none p.1)
fill_test Gives held old new bytes written result false is part full short none first =
    let enough : length old ≤ length held = let test = is in grind (arith, nat_tests) in
    let p = full enough in
    let below = part.0 in
    let long : length held ≡ written =
    ap length part.1 ∙ length-take-le written bytes (omega (arith, below)) in
    let same : take (length old) held ≡ take (length old) bytes =
    ap (take (length old)) part.1 ∙ take-take (length old) written bytes (omega (arith, enough, long)) in
    subst Gives (sym p.0) (first (length old) (
      refl,
      omega (arith, enough, long, below),
      subst (Puts old new) same p.1,
    ))

-- the first bytes were held
pub filled : (Gives : Answer → Type 0) (held old new bytes : List ℕ) (written : ℕ) (result : Answer)
    → IsPart held bytes written
    → (length old ≤ length held → (result ≡ NoRoom (length old)) × Puts old new (take (length old) held))
    → (length held < length old → (result ≡ NoMemory) × (new ≡ old))
    → (new ≡ old → Gives NoMemory)
    → ((n : ℕ) → PutsFirst old new bytes n → Gives (NoRoom n))
    → Gives result
filled Gives held old new bytes written result =
    fill_test Gives held old new bytes written result (nat_lt (length held) (length old)) refl
