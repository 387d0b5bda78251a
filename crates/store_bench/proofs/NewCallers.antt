-- Each new caller is of its store.
use Rattle.std.proofs.Common.{◌≡◌, ℕ, zero, suc, ◌<◌, List, [], ◌∷◌, ◌++◌, length, refl, arith}
use Rattle.std.specs.Prelude.{All, slice_index_or}
use Rattle.std.specs.List.{AllByRecursion}
use Rattle.atomic_table.specs.Seated.{TableId}
use Rattle.blob_store.specs.Callers.{CallerValue, later_callers, new_callers}

abbrev IsOf : TableId → CallerValue → Type 0
IsOf table caller = caller.table ≡ table

one_more : (table : TableId) (xs : List CallerValue) (x : CallerValue)
    → AllByRecursion (IsOf table) xs → IsOf table x → AllByRecursion (IsOf table) (xs ++ x ∷ [])
one_more table [] x all one = (one, tt)
one_more table (y ∷ xs) x all one = (all.0, one_more table xs x all.1 one)

later_are : (table : TableId) (faults limit n : ℕ)
    → AllByRecursion (IsOf table) (later_callers table faults limit n)
later_are table faults limit zero = tt
later_are table faults limit (suc n) =
    one_more table (later_callers table faults limit n) _ (later_are table faults limit n) refl

at_index : (table : TableId) (xs : List CallerValue) (i : ℕ) (d : CallerValue)
    → AllByRecursion (IsOf table) xs → i < length xs → (slice_index_or xs i d).table ≡ table
at_index table [] i d all within = absurd (omega (arith, within))
at_index table (x ∷ xs) zero d all within = all.0
at_index table (x ∷ xs) (suc i) d all within =
    at_index table xs i d all.1 (omega (arith, within))

pub each_is_of : (table : TableId) (faults limit n i : ℕ) (d : CallerValue)
    → i < length (new_callers table faults limit n)
    → (slice_index_or (new_callers table faults limit n) i d).table ≡ table
each_is_of table faults limit zero i d within = absurd (omega (arith, within))
each_is_of table faults limit (suc n) i d within =
    at_index table (new_callers table faults limit (suc n)) i d
    (refl, later_are table faults limit n) within

-- those after the first one
pub tail_is : {A : Type 0} (P : A → Type 0) (x : A) (xs : List A) → All P (x ∷ xs) → All P xs
tail_is P x xs all = λ k d within. all (suc k) d (omega (arith, within))

pub head_is : {A : Type 0} (P : A → Type 0) (x : A) (xs : List A) → All P (x ∷ xs) → P x
head_is P x xs all = all 0 x (omega arith)
