-- Bytes give one list of events, and so one answer.
use Rattle.std.proofs.Common.{◌≡◌, inl, inr, ℕ, ◌<◌, ◌≤◌, Bool, false, List, [], ◌∷◌, ◌++◌, refl, ap, ◌∙◌, sym, subst, arith, map, get_or, drop, Result, Ok, Err}
use Rattle.std.specs.Prelude.{ℤ, ◌+ℤ◌, ◌-ℤ◌}
use Rattle.std.proofs.lemmas.Int.{ints}
use Rattle.coef_block.specs.Block.{IsDc, IsBlock}
use Rattle.bool_coder.specs.BoolStream.{Interval, opening, after}
use Rattle.bool_coder.specs.BoolReading.{next_bit, reading, IsReading}
use Rattle.adapt_bins.specs.Events.{bools_of, bools_after, probability}
use Rattle.block_spec.specs.EventsApart.{AreApart}
use Rattle.block_spec.specs.Values.{category_of}
use Rattle.block_spec.specs.Around.{Around, guess, prediction, inner_count, value_at}
use Rattle.block_spec.specs.BlockEvents.{block_events, inner_count_events, ac_events, dc_events}
use Rattle.block_spec.specs.ReadBlocks.{IsRead}
use Rattle.block_spec.specs.declared.fault.BlockFault.{BlockFault}
use Rattle.block_spec.specs.declared.fault.BlockFault.TheVariants.{BlockCount, DcRange}
use Rattle.block_spec.proofs.ValuesApart.{apart_after, apart_more}
use Rattle.block_spec.proofs.BlocksOnce.{block_apart, parts_with, parts_one, paired_with, paired, parts_of, count_one, few, first_dc}

abbrev Given : List ℕ → List (ℕ × Bool) → Interval → List (ℕ × Bool) → Type 0
Given bytes earlier i es = reading bytes i (map (λ (b : ℕ × Bool). b.0) (bools_after earlier es)) ≡ map (λ (b : ℕ × Bool). b.1) (bools_after earlier es)

same_pair : (x y : ℕ × Bool) → x.0 ≡ y.0 → x.1 ≡ y.1 → x ≡ y
same_pair x y p q = ap (λ (k : ℕ). (k, x.1)) p ∙ ap (λ (b : Bool). (y.0, b)) q

head_given : (bytes : List ℕ) (earlier : List (ℕ × Bool)) (i : Interval) (e : ℕ × Bool) (es : List (ℕ × Bool))
    → Given bytes earlier i (e ∷ es) → next_bit bytes i (probability earlier e.0) ≡ e.1
head_given bytes earlier i e es h = ap (λ l. get_or l 0 false) h

rest_given : (bytes : List ℕ) (earlier : List (ℕ × Bool)) (i : Interval) (e : ℕ × Bool) (es : List (ℕ × Bool))
    → Given bytes earlier i (e ∷ es) → Given bytes (earlier ++ e ∷ []) (after i (probability earlier e.0, e.1)) es
rest_given bytes earlier i e es h =
    subst (λ (b : Bool). Given bytes (earlier ++ e ∷ []) (after i (probability earlier e.0, b)) es) (head_given bytes earlier i e es h) (ap (drop 1) h)

given_apart : (bytes : List ℕ) (earlier : List (ℕ × Bool)) (i : Interval) (xs ys : List (ℕ × Bool))
    → Given bytes earlier i xs → Given bytes earlier i ys → AreApart xs ys → ⊥
given_apart bytes earlier i [] ys p q h = h
given_apart bytes earlier i (x ∷ xs) [] p q h = h
given_apart bytes earlier i (x ∷ xs) (y ∷ ys) p q h =
    let bit : x.1 ≡ y.1 = sym (head_given bytes earlier i x xs p) ∙ ap (λ (k : ℕ). next_bit bytes i (probability earlier k)) h.0 ∙ head_given bytes earlier i y ys q in
    elim h.1 [
      | inl d ↦ absurd (d bit)
      | inr r ↦ given_apart bytes (earlier ++ y ∷ []) (after i (probability earlier y.0, y.1)) xs ys
          (subst (λ (e : ℕ × Bool). Given bytes (earlier ++ e ∷ []) (after i (probability earlier e.0, e.1)) xs) (same_pair x y h.0 r.0) (rest_given bytes earlier i x xs p)) (rest_given bytes earlier i y ys q) r.1
    ]

-- no two lists that bytes give come apart
pub given_once : (bytes : List ℕ) (xs ys : List (ℕ × Bool)) → IsReading bytes (bools_of xs)
    → IsReading bytes (bools_of ys) → AreApart xs ys → ⊥
given_once bytes xs ys p q h = given_apart bytes [] opening xs ys p q h

pub given_later : (bytes : List ℕ) (earlier xs ys : List (ℕ × Bool)) → IsReading bytes (bools_of (earlier ++ xs))
    → IsReading bytes (bools_of (earlier ++ ys)) → AreApart xs ys → ⊥
given_later bytes earlier xs ys p q h = given_once bytes (earlier ++ xs) (earlier ++ ys) p q (apart_after earlier xs ys h)

abbrev After : List ℕ → List (ℕ × Bool) → List (ℕ × Bool) → Type 0
After bytes earlier = λ es. IsReading bytes (bools_of (earlier ++ es))

forth : (p x r : ℤ) → x -ℤ p ≡ r → p +ℤ r ≡ x
forth p x r e = omega (arith, ints, e)

-- a block against a count that is none
count_against : (bytes : List ℕ) (earlier rest : List (ℕ × Bool)) (class m n k : ℕ) → n ≤ 49 → 49 < k → k < 64
    → After bytes earlier (inner_count_events class m n ++ rest) → After bytes earlier (inner_count_events class m k)
    → ⊥
count_against bytes earlier rest class m n k few many six p q =
    elim (count_one class m n k (omega (arith, few)) six) [
      | inl e ↦ omega (arith, e, few, many)
      | inr h ↦ given_later bytes earlier _ _ p q (subst (λ (zs : List (ℕ × Bool)). AreApart (inner_count_events class m n ++ rest) zs) (nothing (inner_count_events class m k)) (apart_more (inner_count_events class m n) (inner_count_events class m k) rest [] h))
    ]
  where
    nothing : (xs : List (ℕ × Bool)) → xs ++ [] ≡ xs
    nothing [] = refl
    nothing (x ∷ xs) = ap (λ ys. x ∷ ys) (nothing xs)

-- a block against a residue that makes no DC
residue_against : (bytes : List ℕ) (earlier : List (ℕ × Bool)) (class : ℕ) (around : Around) (a b : List ℤ) (r : ℤ)
    → IsBlock a → IsBlock b → IsDc (prediction around) → category_of r ≤ 16 → (IsDc (prediction around +ℤ r) → ⊥) →
    After bytes earlier (block_events class around a) → After bytes earlier (inner_count_events class (guess around) (inner_count b) ++ (ac_events class around b ++ dc_events class around r)) → ⊥
unfolding block_events ac_events parts_of parts_with
residue_against bytes earlier class around a b r fa fb dc small out p q =
    elim (parts_one class around (parts_of a (prediction around)) (parts_with b r) (paired a (prediction around) fa dc) (paired_with b r fb small)) [
      | inl e ↦ out (subst IsDc (sym (forth (prediction around) (value_at a 0) r e.1)) (first_dc a fa))
      | inr h ↦ given_later bytes earlier _ _ p q h
    ]

pub answers_one : (bytes : List ℕ) (earlier : List (ℕ × Bool)) (class : ℕ) (around : Around) (r s : Result (List ℤ) BlockFault)
    → IsDc (prediction around) →
    IsRead (After bytes earlier) class around r → IsRead (After bytes earlier) class around s → r ≡ s
unfolding block_events
answers_one bytes earlier class around (Ok a) (Ok b) dc p q = elim (block_apart class around a b p.0 q.0 dc) [ inl e ↦ ap Ok e | inr h ↦ absurd (given_later bytes earlier _ _ p.1 q.1 h) ]
answers_one bytes earlier class around (Ok a) (Err BlockCount) dc p q = absurd (count_against bytes earlier _ class (guess around) (inner_count a) q.count (few a) q.many q.six_bits p.1 q.coded)
answers_one bytes earlier class around (Err BlockCount) (Ok b) dc p q = absurd (count_against bytes earlier _ class (guess around) (inner_count b) p.count (few b) p.many p.six_bits q.1 p.coded)
answers_one bytes earlier class around (Ok a) (Err DcRange) dc p q = absurd (residue_against bytes earlier class around a q.block q.residue p.0 q.is_block dc q.sixteen q.outside p.1 q.coded)
answers_one bytes earlier class around (Err DcRange) (Ok b) dc p q = absurd (residue_against bytes earlier class around b p.block p.residue q.0 p.is_block dc p.sixteen p.outside q.1 p.coded)
answers_one bytes earlier class around (Err BlockCount) (Err BlockCount) dc p q = refl
answers_one bytes earlier class around (Err DcRange) (Err DcRange) dc p q = refl
answers_one bytes earlier class around (Err BlockCount) (Err DcRange) dc p q = absurd (count_against bytes earlier _ class (guess around) (inner_count q.block) p.count (few q.block) p.many p.six_bits q.coded p.coded)
answers_one bytes earlier class around (Err DcRange) (Err BlockCount) dc p q = absurd (count_against bytes earlier _ class (guess around) (inner_count p.block) q.count (few p.block) q.many q.six_bits p.coded q.coded)
