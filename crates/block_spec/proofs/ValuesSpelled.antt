-- Values and residues are spelled by their events.
use Rattle.std.proofs.Common.{◌≡◌, ℕ, zero, suc, ◌+◌, ◌*◌, ◌-◌, ◌^◌, ◌<◌, ◌≤◌, Bool, true, false, [], ◌∷◌, ◌++◌, refl, sym, ap, ap₂, ◌∙◌, arith, ℤ, pos, unsigned_abs, append-nil, pow-suc}
use Rattle.std.specs.Prelude.{int_lt}
use Rattle.std.proofs.lemmas.Int.{ints}
use Rattle.coef_block.specs.Categories.{category}
use Rattle.coef_block.proofs.CategoryLemmas.{size_of_bound}
use Rattle.coef_context.specs.BinNumbers.{bin_number}
use Rattle.coef_context.specs.declared.context.Context.TheVariants.{DcStep}
use Rattle.coef_context.specs.declared.context.Kind.TheVariants.{Dc}
use Rattle.block_spec.specs.BitEvents.{bits_events}
use Rattle.coef_context.specs.ValueBins.{ValueBins, value_bins}
use Rattle.block_spec.specs.Values.{category_of, step_events, rest_events, value_events}
use Rattle.block_spec.specs.Around.{Around, dc_spread}
use Rattle.block_spec.specs.BlockEvents.{dc_events}
use Rattle.block_spec.specs.Asking.{Told}
use Rattle.block_spec.specs.AskedBlocks.{asked_number, asked_category, signed, asked_rest, asked_value, asked_residue}
use Rattle.block_spec.proofs.Spelling.{Events, Spells, parted, told_last}
use Rattle.block_spec.proofs.NumbersSpelled.{number_of_one, category_spelled}

-- a magnitude with a sign
signed_abs : (negative : Bool) (n : ℕ) → unsigned_abs (signed negative n) ≡ n
signed_abs false n = refl
signed_abs true n = omega (arith, ints)

signed_sign : (negative : Bool) (n : ℕ) → 0 < n → int_lt (signed negative n) (pos 0) ≡ negative
signed_sign false n some = grind (arith, ints)
signed_sign true n some = grind (arith, ints)

category_is : (n low : ℕ) → 2 ^ low ≤ n → n < 2 ^ low + 2 ^ low → category n ≡ suc low
category_is n low least below =
    let p : 2 ^ suc low ≡ 2 ^ low * 2 = pow-suc 2 low in
    sym (size_of_bound (suc low) n (omega (arith, p, below)) (omega (arith, p, least)))

-- what a category leaves open
pub rest_spelled : (bins : ValueBins) (s : ℕ) (x : ℤ) (events : Events)
    → Spells (asked_rest bins s) events x → (category_of x ≡ s) × (events ≡ rest_events bins s x)
unfolding asked_rest
rest_spelled bins zero x events h =
    let told = told_last (pos 0) x events h in
    (ap category_of (sym told.1), told.0)
rest_spelled bins (suc low) x [] h = absurd h
rest_spelled bins (suc low) x (e ∷ events) h =
    let low_bins : ℕ → ℕ → ℕ = λ bit above. bins.low (suc low) bit in
    let parts =
    parted (asked_number low_bins low 1) (λ (n : ℕ). Told (signed e.1 n)) events x h.1 in
    let number = number_of_one low_bins low parts.value parts.first parts.spelled in
    let told = told_last (signed e.1 parts.value) x parts.rest parts.then in
    let some : 0 < parts.value = omega (arith, number.1, number.2) in
    let magnitude : unsigned_abs x ≡ parts.value =
    ap unsigned_abs (sym told.1) ∙ signed_abs e.1 parts.value in
    let sign : int_lt x (pos 0) ≡ e.1 =
    ap (λ (y : ℤ). int_lt y (pos 0)) (sym told.1) ∙ signed_sign e.1 parts.value some in
    let low_events : events ≡ bits_events low_bins 0 low (unsigned_abs x) =
    parts.whole ∙ ap₂ (λ (xs ys : Events). xs ++ ys) number.0 told.0
    ∙ append-nil (bits_events low_bins 0 low parts.value)
    ∙ ap (bits_events low_bins 0 low) (sym magnitude) in (
      ap category magnitude ∙ category_is parts.value low number.1 number.2,
      ap₂ (λ (n : ℕ) (es : Events). (n, e.1) ∷ es) h.0 low_events ∙ ap
          (λ (b : Bool). (bins.sign (suc low), b) ∷ bits_events low_bins 0 low (unsigned_abs x))
          (sym sign),
    )

-- a value whose category lies from the first to the last one
pub record IsValue (bins : ValueBins) (first last : ℕ) (x : ℤ) (events : Events) : Type 0 where
  pub least : first ≤ category_of x
  pub most : category_of x ≤ last
  pub is : events ≡ value_events bins first last x

pub value_spelled : (bins : ValueBins) (first last : ℕ) (x : ℤ) (events : Events) → first ≤ last
    → Spells (asked_value bins first last) events x → IsValue bins first last x events
unfolding asked_value value_events
value_spelled bins first last x events within h =
    let steps : ℕ = last - first in
    let parts =
    parted (asked_category bins.step steps first) (λ (s : ℕ). asked_rest bins s) events x h in
    let all : last ≡ first + steps = omega arith in
    let s : ℕ = parts.value in
    let up = category_spelled bins.step steps first last s parts.first all parts.spelled in
    let rest = rest_spelled bins parts.value x parts.rest parts.then in
    record {
      least = omega (arith, up.least, rest.0);
      most = omega (arith, up.most, rest.0);
      is = parts.whole ∙ ap₂ (λ (xs ys : Events). xs ++ ys) up.is rest.1
          ∙ ap (λ (s : ℕ). step_events bins.step first last s ++ rest_events bins s x) (sym rest.0);
    }

-- a DC less its prediction
pub residue_spelled : (class : ℕ) (around : Around) (x : ℤ) (events : Events)
    → Spells (asked_residue class around) events x
    → (category_of x ≤ 16) × (events ≡ dc_events class around x)
unfolding asked_residue dc_events
residue_spelled class around x events h =
    let bins : ValueBins =
    value_bins class Dc 0 (λ step. bin_number class (DcStep (dc_spread around) step)) in
    let value = value_spelled bins 0 16 x events (omega arith) h in
    (value.most, value.is)
