-- Predictions are in range.
use Rattle.std.proofs.Common.{◌≡◌, arith, refl, Bool, true, false, List}
use Rattle.std.specs.Prelude.{ℤ, ◌+ℤ◌, ◌-ℤ◌, int_le, Option, Some, None, IfSome, if◌then◌else◌}
use Rattle.std.proofs.lemmas.Int.{ints}
use Rattle.coef_block.specs.Block.{IsDc, IsBlock}
use Rattle.dc_predict.specs.DcPrediction.{predicted, gradient, least, greatest}
use Rattle.block_spec.specs.Around.{AreAround, Around, prediction, dc}

-- a sum between two
between : (a l d : ℤ) → IsDc a → IsDc l → IsDc d → int_le (greatest a l) d ≡ false → int_le d (least a l) ≡ false
    → IsDc (a +ℤ l -ℤ d)
between a l d fa fl fd above below =
    elim (int_le a l) as (λ t. int_le a l ≡ t → int_le (if t then l else a) d ≡ false → int_le d (if t then a else l) ≡ false → IsDc (a +ℤ l -ℤ d))
    [ true ↦ λ e g h. grind (arith, ints) | false ↦ λ e g h. grind (arith, ints) ] refl above below

either : (P : ℤ → Type 0) (t : Bool) (a l : ℤ) → P a → P l → P (if t then a else l)
either P true a l p q = p
either P false a l p q = q

gradient_fits : (a l d : ℤ) → IsDc a → IsDc l → IsDc d → IsDc (gradient a l d)
gradient_fits a l d fa fl fd =
    elim (int_le (greatest a l) d) as (λ t. int_le (greatest a l) d ≡ t → IsDc (if t then least a l else if int_le d (least a l) then greatest a l else a +ℤ l -ℤ d)) [
      | true ↦ λ e. either IsDc (int_le a l) a l fa fl
      | false ↦ λ e. elim (int_le d (least a l)) as (λ t. int_le d (least a l) ≡ t → IsDc (if t then greatest a l else a +ℤ l -ℤ d))
          [ true ↦ λ f. either IsDc (int_le a l) l a fl fa | false ↦ λ f. between a l d fa fl fd e f ] refl
    ] refl

predict_fits : (a l d : Option ℤ) → IfSome a IsDc → IfSome l IsDc → IfSome d IsDc → IsDc (predicted a l d)
predict_fits (Some a) (Some l) (Some d) fa fl fd = gradient_fits a l d fa fl fd
predict_fits (Some a) (Some l) None fa fl fd = omega arith
predict_fits (Some a) None d fa fl fd = fa
predict_fits None (Some l) d fa fl fd = fl
predict_fits None None d fa fl fd = omega arith

pub dc_fits : (b : Option (List ℤ)) → IfSome b IsBlock → IfSome (dc b) IsDc
dc_fits None h = tt
dc_fits (Some b) h = h.coefficients 0 (omega arith)

pub prediction_fits : (around : Around) → AreAround around → IsDc (prediction around)
unfolding prediction
prediction_fits around are = predict_fits (dc around.above) (dc around.left) (dc around.diagonal) (dc_fits around.above are.above) (dc_fits around.left are.left) (dc_fits around.diagonal are.diagonal)
