-- The grid of a plan has MCUs of few blocks.
use Rattle.std.proofs.Common.{◌≡◌, ℕ, zero, suc, ◌*◌, ◌<◌, ◌≤◌, ◌^◌, Bool, true, false, cond, ◌==◌, List, [], ◌∷◌, length, map, drop, replicate, Option, Some, None, refl, ◌∙◌, arith}
use Rattle.std.specs.Option.{option_map_or}
use Rattle.std.specs.Prelude.{slice_index, ◌&&◌, nat_le}
use Rattle.std.specs.List.{AllByRecursion, list_all}
use Rattle.std.proofs.Math.Nat.{le-mul_of_pos_right}
use Rattle.std.proofs.lemmas.List.{length-map}
use Rattle.jpeg_marker.proofs.Choices.{rising_is}
use Rattle.jpeg_marker.proofs.Repeats.{both_hold}
use Rattle.jpeg_marker.proofs.PlanGrids.{some_block, few_in_mcu, few_mcus}
use Rattle.std.proofs.lemmas.Bool.{and_parts, leb-true}
use Rattle.coef_block.specs.BlockRows.{block_count}
use Rattle.jpeg_marker.specs.Frames.{is_sampled, fit_an_mcu}
use Rattle.jpeg_marker.specs.Plans.{PlanFields, IsPlan, part_of, are_indexes}
use Rattle.jpeg_marker.specs.declared.component.Component.{Component}
use Rattle.huff_table.specs.ComponentTables.{component_at}
use Rattle.huff_table.proofs.FrameComponents.{index_of, put_all, value_or, all_put}
use Rattle.container_spec.specs.ScanStream.{by_index, mcu_extents}
use Rattle.container_spec.proofs.PlanGrids.{counted}

-- sampling factors from 1 to 4
pub record IsSampled (c : Component) : Type 0 where
  pub wide : 1 ≤ c.h
  pub wide_most : c.h ≤ 4
  pub high : 1 ≤ c.v
  pub high_most : c.v ≤ 4

abbrev pub AreSampled : List Component → Type 0
AreSampled [] = Unit {0}
AreSampled (c ∷ cs) = IsSampled c × AreSampled cs

sampled : (c : Component) → is_sampled (part_of c) ≡ true → IsSampled c
sampled c is =
    let a = and_parts (nat_le 1 c.h && nat_le c.h 4 && nat_le 1 c.v) (nat_le c.v 4) is in
    let b = and_parts (nat_le 1 c.h && nat_le c.h 4) (nat_le 1 c.v) a.0 in
    let d = and_parts (nat_le 1 c.h) (nat_le c.h 4) b.0 in
    record { wide = leb-true _ _ d.0; wide_most = leb-true _ _ d.1; high = leb-true _ _ b.1; high_most = leb-true _ _ a.1 }

all_sampled : (cs : List Component) → list_all is_sampled (map part_of cs) ≡ true → AreSampled cs
all_sampled [] is = tt
all_sampled (c ∷ cs) is = let a = and_parts (is_sampled (part_of c)) (list_all is_sampled (map part_of cs)) is in (sampled c a.0, all_sampled cs a.1)

-- numbers of at most 4
abbrev AreFew : List ℕ → Type 0
AreFew ns = AllByRecursion (λ n. n ≤ 4) ns

few_at : (ns : List ℕ) (c : ℕ) → AreFew ns → slice_index ns c ≤ 4
few_at [] c few = omega arith
few_at (n ∷ ns) zero few = few.0
few_at (n ∷ ns) (suc c) few = few_at ns c few.1

-- numbers of at most 4 of components, by index
few_found : (number : Component → ℕ) (cs : List Component) (index : ℕ) → AllByRecursion (λ (c : Component). number c ≤ 4) cs → option_map_or number (component_at cs index) 0 ≤ 4
few_found number [] index few = omega arith
few_found number (c ∷ cs) index few = go (c.index == index) (few_found number cs index few.1)
  where
    go : (b : Bool) → option_map_or number (component_at cs index) 0 ≤ 4 → option_map_or number (cond b (Some c) (component_at cs index)) 0 ≤ 4
    go true later = few.0
    go false later = later

few_by_index : (number : Component → ℕ) (cs : List Component) (c : ℕ) → AllByRecursion (λ (part : Component). number part ≤ 4) cs → slice_index (by_index number cs) c ≤ 4
few_by_index number cs c few =
    few_at (by_index number cs) c (few_found number cs 0 few, (few_found number cs 1 few, (few_found number cs 2 few, (few_found number cs 3 few, tt))))

all_wide : (cs : List Component) → AreSampled cs → AllByRecursion (λ (c : Component). c.h ≤ 4) cs
all_wide [] are = tt
all_wide (c ∷ cs) are = (are.0.wide_most, all_wide cs are.1)

all_high : (cs : List Component) → AreSampled cs → AllByRecursion (λ (c : Component). c.v ≤ 4) cs
all_high [] are = tt
all_high (c ∷ cs) are = (are.0.high_most, all_high cs are.1)

pub each_wide : (cs : List Component) (c : ℕ) → AreSampled cs → slice_index (mcu_extents cs).widths c ≤ 4
each_wide [] c are = few_by_index (λ part. 0) [] c tt
each_wide (d ∷ []) c are = few_by_index (λ part. 1) (d ∷ []) c (omega arith, tt)
each_wide (d ∷ e ∷ cs) c are = few_by_index (λ part. part.h) (d ∷ e ∷ cs) c (all_wide (d ∷ e ∷ cs) are)

pub each_high : (cs : List Component) (c : ℕ) → AreSampled cs → slice_index (mcu_extents cs).heights c ≤ 4
each_high [] c are = few_by_index (λ part. 0) [] c tt
each_high (d ∷ []) c are = few_by_index (λ part. 1) (d ∷ []) c (omega arith, tt)
each_high (d ∷ e ∷ cs) c are = few_by_index (λ part. part.v) (d ∷ e ∷ cs) c (all_high (d ∷ e ∷ cs) are)

or_zero : (number : Component → ℕ) (found : Option Component) → value_or number 0 found ≡ option_map_or number found 0
or_zero number None = refl
or_zero number (Some c) = refl

-- a loop over a plan's components has put all numbers
pub numbers_put : (number : Component → ℕ) (all : List ℕ) (given components : List Component) (i : ℕ) → given ≡ components → are_indexes 0 4 (map index_of components) ≡ true
    → length given ≤ i → put_all number all (drop i given) ≡ put_all number (replicate 4 0) given → all ≡ by_index number components
numbers_put number all given components i same rising past rest =
    all_put number 0 all given components i same rising past rest
    ∙ rw (or_zero number (component_at components 0), or_zero number (component_at components 1), or_zero number (component_at components 2), or_zero number (component_at components 3)) refl

-- what a plan's grid keeps
pub record HasGrid (p : PlanFields) : Type 0 where
  pub narrow : p.across < 2 ^ 25
  pub wide : (c : ℕ) → c < 4 → slice_index (mcu_extents p.components).widths c ≤ 4
  pub high : (c : ℕ) → c < 4 → slice_index (mcu_extents p.components).heights c ≤ 4
  pub some : 1 ≤ block_count (mcu_extents p.components)
  pub few : block_count (mcu_extents p.components) ≤ 10

pub has_grid : (p : PlanFields) → IsPlan p → HasGrid p
has_grid p is =
    let are = both_hold _ (fit_an_mcu (map part_of p.components)) is.components in
    let more = both_hold _ (list_all is_sampled (map part_of p.components)) are.0 in
    let sampled = all_sampled p.components more.1 in
    let count = counted p.components is.some (rising_is 0 4 _ is.indexes) in
    let long : 1 ≤ length (map part_of p.components) = simp length-map is.some in
    let mcus = few_mcus p is in
    let across : p.across ≤ p.across * p.down = le-mul_of_pos_right p.across is.high in
    record {
      narrow = omega (arith, across, mcus);
      wide = λ c below. each_wide p.components c sampled;
      high = λ c below. each_high p.components c sampled;
      some = rw count (some_block (map part_of p.components) long is.components);
      few = rw count (few_in_mcu (map part_of p.components) is.components);
    }
