-- The plane through the three, kept within the range between two of them, is the predicted DC.
use Rattle.std.proofs.Common.{◌≡◌, arith, refl, true, false}
use Rattle.std.specs.Prelude.{ℤ, ◌+ℤ◌, ◌-ℤ◌, ◌≤ℤ◌, int_le, if◌then◌else◌}
use Rattle.std.specs.Int.{int_max, int_min}
use Rattle.std.proofs.lemmas.Int.{clamps, ints}
use Rattle.dc_predict.specs.DcPrediction.{gradient, greatest, least}

-- from the lesser and the greater
in_order : (low high diagonal sum : ℤ) → low ≤ℤ high → sum ≡ low +ℤ high -ℤ diagonal →
    int_min (int_max low sum) high ≡ (if int_le high diagonal then low else if int_le diagonal low then high else sum)
in_order low high diagonal sum order is =
    elim (int_le high diagonal) as (λ t. int_le high diagonal ≡ t → int_min (int_max low sum) high ≡ (if t then low else if int_le diagonal low then high else sum)) [
      | true ↦ λ e. omega (arith, ints, clamps)
      | false ↦ λ e. elim (int_le diagonal low) as (λ t. int_le diagonal low ≡ t → int_min (int_max low sum) high ≡ (if t then high else sum))
          [ true ↦ λ f. omega (arith, ints, clamps) | false ↦ λ f. omega (arith, ints, clamps) ] refl
    ] refl

pub nearest_is : (above left diagonal : ℤ) → int_min (int_max (least above left) (above +ℤ left -ℤ diagonal)) (greatest above left) ≡ gradient above left diagonal
nearest_is above left diagonal =
    elim (int_le above left) as (λ t. int_le above left ≡ t → int_min (int_max (if t then above else left) (above +ℤ left -ℤ diagonal)) (if t then left else above)
    ≡ (if int_le (if t then left else above) diagonal then (if t then above else left) else if int_le diagonal (if t then above else left) then (if t then left else above) else above +ℤ left -ℤ diagonal)) [
      | true ↦ λ e. in_order above left diagonal (above +ℤ left -ℤ diagonal) (omega (arith, ints)) refl
      | false ↦ λ e. in_order left above diagonal (above +ℤ left -ℤ diagonal) (omega (arith, ints)) (omega (arith, ints))
    ] refl
