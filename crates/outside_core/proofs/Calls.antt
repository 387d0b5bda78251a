-- How many of the numbered calls have come, and what one more call does to that.
use Rattle.std.proofs.Common.{◌≡◌, ℕ, zero, suc, ◌+◌, ◌-◌, ◌^◌, ◌<◌, ◌≤◌, ◌⊎◌, refl, List, [], ◌∷◌, cond, leb, length, get_or, arith}
use Rattle.std.specs.List.{Contains}
use Rattle.std.proofs.lemmas.List.Sums.{sum_by-cons, sum_by-le-sum_by}
use Rattle.std.proofs.lemmas.Bool.Decides.{nat_tests}
use Rattle.outside_core.specs.Memory.{past_calls, counted}

-- whether one number has come, as it is counted
abbrev came : ℕ → ℕ → ℕ
came calls call = cond (leb call calls) 1 0

came-lasting : (a b call : ℕ) → a ≤ b → came a call ≤ came b call
came-lasting a b call h = grind (arith, nat_tests)

came-risen : (calls call : ℕ) → call ≡ calls + 1 → came calls call < came (calls + 1) call
came-risen calls call h = grind (arith, nat_tests)

-- at a later call no fewer of them have come
pub past_calls-lasting : (fails : List ℕ) (a b : ℕ) → a ≤ b → past_calls fails a ≤ past_calls fails b
past_calls-lasting fails a b h = sum_by-le-sum_by (came a) (came b) fails (λ call. came-lasting a b call h)

risen : (fails : List ℕ) (k calls : ℕ) → k < length fails → get_or fails k (calls + 1) ≡ calls + 1
    → past_calls fails calls < past_calls fails (calls + 1)
risen [] k calls h e = absurd (omega arith)
risen (call ∷ fails) zero calls h e =
    omega (
      arith,
      sum_by-cons (came calls) call fails,
      sum_by-cons (came (calls + 1)) call fails,
      came-risen calls call e,
      past_calls-lasting fails calls (calls + 1) (omega arith),
    )
risen (call ∷ fails) (suc k) calls h e =
    omega (
      arith,
      sum_by-cons (came calls) call fails,
      sum_by-cons (came (calls + 1)) call fails,
      came-lasting calls (calls + 1) call (omega arith),
      risen fails k calls (omega arith) e,
    )

-- a numbered call adds to those that have come
pub past_calls-risen : (fails : List ℕ) (calls : ℕ) → Contains fails (calls + 1) → past_calls fails calls < past_calls fails (calls + 1)
past_calls-risen fails calls h = risen fails h.0 calls h.1 h.2

came-stays : (calls call : ℕ) → (call ≡ calls + 1 → ⊥) → came (calls + 1) call ≡ came calls call
came-stays calls call other = grind (arith, nat_tests)

-- a call of another number adds nothing
pub past_calls-stays : (fails : List ℕ) (calls : ℕ) → (Contains fails (calls + 1) → ⊥) → past_calls fails (calls + 1) ≡ past_calls fails calls
past_calls-stays [] calls none = refl
past_calls-stays (call ∷ fails) calls none =
    omega (
      arith,
      sum_by-cons (came calls) call fails,
      sum_by-cons (came (calls + 1)) call fails,
      came-stays calls call (λ e. none (0, omega arith, e)),
      past_calls-stays fails calls (λ h. none (suc h.0, omega (arith, h.1), h.2)),
    )

-- a refusal more is counted, or the count stands at its last value
pub refusal_rises : (calls later refused more : ℕ) → calls ≤ later → more ≡ counted refused → (calls + refused < later + more) ⊎ (more ≡ 2 ^ 64 - 1)
refusal_rises calls later refused more h is = grind arith
