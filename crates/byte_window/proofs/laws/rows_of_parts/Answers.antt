use Rattle.std.proofs.Common.{◌≡◌, ℕ, zero, suc, ◌+◌, ◌<◌, [], ◌∷◌, length, get_or, refl, arith}
use Rattle.std.specs.Prelude.{List, replicate, slice_index}
use Rattle.byte_window.proofs.BegunParts.{list_is_placed}
use Rattle.byte_window.proofs.laws.rows_of_parts.Goals as goal

abbrev parts : List (List ℕ)
parts = (0x3f ∷ 0xff ∷ 0xd0 ∷ []) ∷ (0x3f ∷ []) ∷ []

abbrev places : List ℕ
places = 75 ∷ 78 ∷ 79 ∷ []

-- each part has as many bytes as places
each_has_its_places : (i : ℕ) → i < length parts
    → slice_index places (i + 1) ≡ slice_index places i + length (get_or parts i [])
each_has_its_places zero h = refl
each_has_its_places (suc zero) h = refl
each_has_its_places (suc (suc i)) h = absurd (omega (arith, h))

pub returns-clause-placed : goal.returns-clause-placed
returns-clause-placed c =
    list_is_placed (replicate 75 0) (0xff ∷ 0xd9 ∷ []) places parts refl each_has_its_places

pub returns-clause-seam : goal.returns-clause-seam
returns-clause-seam c =
    (refl, refl, refl, refl, refl, refl, refl, refl, refl, refl, refl, refl, refl)

pub returns-clause-empty : goal.returns-clause-empty
returns-clause-empty c =
    (refl, refl, refl, refl, refl, refl, refl, refl, refl, refl, refl, refl, refl)

pub returns-clause-kept : goal.returns-clause-kept
returns-clause-kept c = (refl, refl, refl, refl)
