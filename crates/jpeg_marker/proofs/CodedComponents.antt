-- How many scans a file can have: each has a component that none before it had.
use Rattle.std.proofs.Common.{◌≡◌, ℕ, zero, suc, ◌+◌, ◌<◌, ◌≤◌, Bool, true, false, ◌||◌, List, [], ◌∷◌, length, get_or, map, set, take, refl, ap, ◌∙◌, arith}
use Rattle.std.specs.List.{list_all, list_any}
use Rattle.std.proofs.lemmas.List.{length-set, length-map}
use Rattle.jpeg_marker.specs.declared.component.Component.{Component}
use Rattle.jpeg_marker.specs.declared.definitions.Definitions.{Definitions}
use Rattle.jpeg_marker.specs.Plans.{PlanFields, is_coded, coded_after}
use Rattle.jpeg_marker.specs.Walks.{Walk, nothing_known}
use Rattle.jpeg_marker.specs.AcceptedPlans.{HasBegun}
use Rattle.jpeg_marker.proofs.Choices.{Rising, rising_is}

-- how many components scans had
abbrev pub one_if : Bool → ℕ
one_if true = 1
one_if false = 0

abbrev pub trues : List Bool → ℕ
trues [] = 0
trues (b ∷ coded) = one_if b + trues coded

trues_few : (coded : List Bool) → trues coded ≤ length coded
trues_few [] = omega arith
trues_few (true ∷ coded) = omega (arith, trues_few coded)
trues_few (false ∷ coded) = omega (arith, trues_few coded)

set_more : (coded : List Bool) (i : ℕ) → trues coded ≤ trues (set coded i true)
set_more [] i = omega arith
set_more (true ∷ coded) zero = omega arith
set_more (false ∷ coded) zero = omega arith
set_more (b ∷ coded) (suc i) = omega (arith, set_more coded i)

set_new : (coded : List Bool) (i : ℕ) → i < length coded → get_or coded i false ≡ false
    → trues (set coded i true) ≡ suc (trues coded)
set_new [] i within new = absurd (omega arith)
set_new (true ∷ coded) zero within new = cc
set_new (false ∷ coded) zero within new = omega arith
set_new (b ∷ coded) (suc i) within new =
    let rest = set_new coded i (omega arith) new in omega (arith, rest)

-- no more than there are indexes
set_one : (coded : List Bool) (i : ℕ) → trues (set coded i true) ≤ suc (trues coded)
set_one [] i = omega arith
set_one (true ∷ coded) zero = omega arith
set_one (false ∷ coded) zero = omega arith
set_one (b ∷ coded) (suc i) = omega (arith, set_one coded i)

pub after_most : (coded : List Bool) (indexes : List ℕ)
    → trues (coded_after coded indexes) ≤ trues coded + length indexes
after_most coded [] = omega arith
after_most coded (i ∷ indexes) =
    omega (arith, set_one coded i, after_most (set coded i true) indexes)

-- if the first ones all had
pub all_trues : (coded : List Bool) (n : ℕ) → n ≤ length coded
    → list_all (λ b. b) (take n coded) ≡ true → n ≤ trues coded
all_trues coded zero few all = omega arith
all_trues [] (suc n) few all = absurd (omega arith)
all_trues (true ∷ coded) (suc n) few all =
    omega (arith, all_trues coded n (omega arith) all)
all_trues (false ∷ coded) (suc n) few all = cc

pub after_long : (coded : List Bool) (indexes : List ℕ)
    → length (coded_after coded indexes) ≡ length coded
after_long coded [] = refl
after_long coded (i ∷ indexes) =
    after_long (set coded i true) indexes ∙ length-set coded i true

after_more : (coded : List Bool) (indexes : List ℕ)
    → trues coded ≤ trues (coded_after coded indexes)
after_more coded [] = omega arith
after_more coded (i ∷ indexes) =
    omega (arith, set_more coded i, after_more (set coded i true) indexes)

not_or : (a b : Bool) → (a || b) ≡ false → a ≡ false
not_or true b h = cc
not_or false b h = refl

after_new : (coded : List Bool) (indexes : List ℕ) → length coded ≡ 4 → 1 ≤ length indexes
    → Rising 0 4 indexes → list_any (is_coded coded) indexes ≡ false
    → suc (trues coded) ≤ trues (coded_after coded indexes)
after_new coded [] four some rising fresh = absurd (omega arith)
after_new coded (i ∷ indexes) four some rising fresh =
    let new = not_or (is_coded coded i) (list_any (is_coded coded) indexes) fresh in
    let within = rising.1 in
    let one = set_new coded i (omega (arith, within, four)) new in
    omega (arith, one, after_more (set coded i true) indexes)

-- so many scans at least had components
pub record HaveCoded (known : Definitions) (scans : ℕ) : Type 0 where
  pub four : length known.coded ≡ 4
  pub many : scans ≤ trues known.coded

-- none before a file's first header
pub none_coded : HaveCoded nothing_known 0
none_coded = record { four = refl; many = omega arith }

-- one more with each header
pub more_coded : (w : Walk) (bytes : List ℕ) (plan : PlanFields) (scans : ℕ)
    → HasBegun w bytes plan → HaveCoded w.known scans → HaveCoded plan.known (suc scans)
more_coded w bytes plan scans has before =
    let indexes : List ℕ = map (λ (c : Component). c.index) plan.components in
    let long = after_long w.known.coded indexes in
    let some : 1 ≤ length indexes = simp length-map has.is_plan.some in
    let new = after_new w.known.coded indexes before.four some
    (rising_is 0 4 indexes has.is_plan.indexes) has.fresh in
    record {
      four = ap length has.coded ∙ long ∙ before.four;
      many = (let many = before.many in let e = ap trues has.coded in omega (arith, new, many, e));
    }

-- and four at most
pub few_coded : (known : Definitions) (scans : ℕ) → HaveCoded known scans → scans ≤ 4
few_coded known scans have =
    let many = have.many in
    let four = have.four in
    omega (arith, many, four, trues_few known.coded)
