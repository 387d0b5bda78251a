-- One is added to the number of the first bytes of a list, from the last of them back.
use Rattle.std.proofs.Common.{◌≡◌, ℕ, zero, suc, ◌+◌, ◌-◌, ◌*◌, ◌^◌, ◌<◌, ◌≤◌, List, length, get_or, set, take, drop, refl, ◌∙◌, arith, inl, inr}
use Rattle.std.specs.Int.Digits.{number_from_digits}
use Rattle.std.proofs.Math.Nat.{pow-suc}
use Rattle.std.proofs.lemmas.Bool.{cases_lt}
use Rattle.std.proofs.lemmas.List.{length-set, drop-set-lt}
use Rattle.bool_coder.proofs.Bytes.{number_set}

-- the first `end` bytes of `now` still lack a one at `place`, which has k of them after it
pub record Carrying (end place : ℕ) (now old : List ℕ) : Type 0 where
  pub within : end ≤ length now
  pub after : ℕ
  pub before : place + suc after ≡ end
  pub lacks : number_from_digits 256 (take end now) + 256 ^ after ≡ number_from_digits 256 (take end old) + 1
  pub rest : drop end now ≡ drop end old
  pub len : length now ≡ length old

pub some_byte : (end : ℕ) (xs : List ℕ) → number_from_digits 256 (take end xs) + 1 < 256 ^ end → 0 < end
some_byte zero xs h = absurd (omega arith)
some_byte (suc end) xs h = omega arith

pub Carrying-begins : (end : ℕ) (xs : List ℕ) → 0 < end → end ≤ length xs → Carrying end (end - 1) xs xs
Carrying-begins end xs some within = record { within = within; after = 0; before = omega arith; lacks = refl; rest = refl; len = refl }

pub place-some : (end place : ℕ) (now old : List ℕ) → Carrying end place now old → get_or now place 0 ≡ 255
    → number_from_digits 256 (take end old) + 1 < 256 ^ end → 0 < place
place-some end place now old c full room = elim (cases_lt 0 place) [
  | inl some ↦ some
  | inr none ↦
      let cleared = number_set now end place c.after 0 c.before c.within in
      let e : end ≡ suc c.after = omega (arith, c.before) in
      let power : 256 ^ end ≡ 256 ^ c.after * 256 = rw (e, pow-suc) refl in
      let all = rw full at cleared in
      absurd (omega (arith, c.lacks, all))
]

pub Carrying-goes_on : (end place : ℕ) (now old : List ℕ) → Carrying end place now old → get_or now place 0 ≡ 255
    → 0 < place → Carrying end (place - 1) (set now place 0) old
Carrying-goes_on end place now old c full some =
    let cleared = rw full at (number_set now end place c.after 0 c.before c.within) in
    record {
      within = rw length-set c.within;
      after = suc c.after;
      before = omega (arith, c.before);
      lacks = rw pow-suc (omega (arith, c.lacks, cleared));
      rest = rw (drop-set-lt end now place 0 (omega (arith, c.before))) c.rest;
      len = length-set now place 0 ∙ c.len;
    }

pub Carrying-ends : (end place : ℕ) (now old : List ℕ) → Carrying end place now old
    → number_from_digits 256 (take end (set now place (get_or now place 0 + 1))) ≡ number_from_digits 256 (take end old) + 1
Carrying-ends end place now old c =
    let more = number_set now end place c.after (get_or now place 0 + 1) c.before c.within in omega (arith, c.lacks, more)
