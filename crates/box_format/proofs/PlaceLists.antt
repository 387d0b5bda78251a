-- The places of a scan's segments and of its end, as a list.
use Rattle.std.proofs.Common.{ap₂, ◌&&◌, ◌≡◌, ◌<◌, ◌≤◌, ◌+◌, ◌^◌, ◌==◌, not, Bool, true, false, if◌then◌else◌, ℕ, zero, suc, List, [], ◌∷◌, ◌++◌, length, drop, map, nat_lt, refl, sym, ap, ◌∙◌, arith, length-append}
use Rattle.std.specs.Prelude.{slice_index, Option, Some, None, IfSome}
use Rattle.std.specs.List.{AllByRecursion, range_with_len}
use Rattle.std.proofs.lemmas.Bool.{eq-eqb, eqb-true, ltb-true, ltb-false, or_parts, or_from, not-false}
use Rattle.std.proofs.lemmas.List.{drop_more, drop_all, get_or_at, get_or_append_left, length-drop}
use Rattle.std.proofs.lemmas.List.FromFn.{length-map-range_with_len, get_or-map-range_with_len}
use Rattle.box_format.specs.Parts.{ArePlaces, are_rising}
use Rattle.box_format.specs.Checks.{are_bad_places}

-- ---- values at numbers, and one after them

abbrev pub ended : (ℕ → ℕ) → ℕ → ℕ → List ℕ
ended f n end = map f (range_with_len 0 n) ++ end ∷ []

pub ended_long : (f : ℕ → ℕ) (n end : ℕ) → length (ended f n end) ≡ n + 1
ended_long f n end =
    length-append (map f (range_with_len 0 n)) (end ∷ []) ∙ ap (λ k. k + 1) (length-map-range_with_len f 0 n)

pub ended_at : (f : ℕ → ℕ) (n end i : ℕ) → i < n → slice_index (ended f n end) i ≡ f i
ended_at f n end i below =
    let z : 0 + i ≡ i = omega arith in
    let long = length-map-range_with_len f 0 n in
    get_or_append_left (map f (range_with_len 0 n)) (end ∷ []) 0 i (omega (arith, long, below))
    ∙ get_or-map-range_with_len f 0 n i i 0 below z

pub ended_last : (f : ℕ → ℕ) (n end : ℕ) → slice_index (ended f n end) n ≡ end
ended_last f n end = get_or_at (map f (range_with_len 0 n)) end [] 0 n (length-map-range_with_len f 0 n)

-- one of them
pub ended_any : (f : ℕ → ℕ) (n end i : ℕ) → i ≤ n
    → slice_index (ended f n end) i ≡ (if nat_lt i n then f i else end)
ended_any f n end i within = by_case (nat_lt i n) refl where
  by_case : (b : Bool) → nat_lt i n ≡ b → slice_index (ended f n end) i ≡ (if b then f i else end)
  by_case true e = ended_at f n end i (let h = ltb-true i n e in h)
  by_case false e =
      let past = ltb-false i n e in
      let same : i ≡ n = omega arith in
      ap (slice_index (ended f n end)) same ∙ ended_last f n end

-- a list is its values at numbers, and its last one
again_from : (ps : List ℕ) (from n : ℕ) → length ps ≡ from + n + 1
    → map (slice_index ps) (range_with_len from n) ++ slice_index ps (from + n) ∷ [] ≡ drop from ps
again_from ps from zero long =
    let z : from + 0 ≡ from = omega arith in
    rw z (ap (λ (l : List ℕ). slice_index ps from ∷ l)
    (sym (drop_all (from + 1) ps (omega (arith, long))))
    ∙ sym (drop_more ps from 0 (omega (arith, long))))
again_from ps from (suc n) long =
    let k : from + suc n ≡ from + 1 + n = omega arith in
    rw k (ap (λ (l : List ℕ). slice_index ps from ∷ l)
    (again_from ps (from + 1) n (omega (arith, long)))
    ∙ sym (drop_more ps from 0 (omega (arith, long))))

pub ended_again : (ps : List ℕ) (n : ℕ) → length ps ≡ n + 1
    → ended (slice_index ps) n (slice_index ps n) ≡ ps
ended_again ps n long =
    let z : 0 + n ≡ n = omega arith in
    ap (λ (k : ℕ). map (slice_index ps) (range_with_len 0 n) ++ slice_index ps k ∷ []) (sym z)
    ∙ again_from ps 0 n (omega (arith, long))

pub all_ended : (P : ℕ → Type 0) (xs : List ℕ) (end : ℕ) → AllByRecursion P xs → P end
    → AllByRecursion P (xs ++ end ∷ [])
all_ended P [] end all last = (last, tt)
all_ended P (x ∷ xs) end all last = (all.0, all_ended P xs end all.1 last)

pub good_places : (header n : ℕ) (ps : List ℕ) → length ps ≡ n + 1
    → AllByRecursion (λ p. p < 2 ^ 64) ps → are_bad_places header (Some ps) ≡ false
    → ArePlaces header n ps
good_places header n ps long fit e =
    let parts = or_parts (not (slice_index ps 0 == header)) (not (are_rising ps)) e in
    record {
      count = long;
      first = eqb-true (slice_index ps 0) header (not-false (slice_index ps 0 == header) parts.0);
      rising = not-false (are_rising ps) parts.1;
      fit = fit;
    }

-- and the other way round
pub not_bad_places : (header n : ℕ) (places : Option (List ℕ))
    → IfSome places (ArePlaces header n) → are_bad_places header places ≡ false
not_bad_places header n None is = refl
not_bad_places header n (Some ps) is =
    or_from (not (slice_index ps 0 == header)) (not (are_rising ps))
    (ap not (eq-eqb (slice_index ps 0) header is.first)) (ap not is.rising)

-- each goes into its field
small_at : (ps : List ℕ) → AllByRecursion (λ p. p < 2 ^ 64) ps → (i : ℕ) → slice_index ps i < 2 ^ 64
small_at [] fit i = omega arith
small_at (p ∷ ps) fit zero = fit.0
small_at (p ∷ ps) fit (suc i) = small_at ps fit.1 i

pub place_fits : (header n : ℕ) (places : Option (List ℕ)) → IfSome places (ArePlaces header n)
    → (i : ℕ) → IfSome places (λ ps. slice_index ps i < 2 ^ 64)
place_fits header n None is i = tt
place_fits header n (Some ps) is i = small_at ps is.fit i

-- ---- whether none is below the one before, from one on

pub rising_next : (ps : List ℕ) (i : ℕ) → i + 1 < length ps
    → are_rising (drop i ps)
    ≡ (not (nat_lt (slice_index ps (i + 1)) (slice_index ps i)) && are_rising (drop (i + 1) ps))
rising_next ps i below =
    let here = drop_more ps i 0 (omega (arith, below)) in
    let later = drop_more ps (i + 1) 0 below in
    ap are_rising (here ∙ ap (λ (l : List ℕ). slice_index ps i ∷ l) later)
    ∙ ap (λ (l : List ℕ). not (nat_lt (slice_index ps (i + 1)) (slice_index ps i)) && are_rising l)
    (sym later)

short : (ps : List ℕ) → length ps ≤ 1 → are_rising ps ≡ true
short [] few = refl
short (p ∷ []) few = refl
short (p ∷ q ∷ ps) few = absurd (omega arith)

pub rising_end : (ps : List ℕ) (i : ℕ) → length ps ≤ i + 1 → are_rising (drop i ps) ≡ true
rising_end ps i past = short (drop i ps) (omega (arith, length-drop i ps, past))

-- one that isn't below, and one that is
pub rising_step : (ps : List ℕ) (i place next : ℕ) → i + 1 < length ps → place ≡ slice_index ps i
    → next ≡ slice_index ps (i + 1) → nat_lt next place ≡ false
    → are_rising (drop (i + 1) ps) ≡ are_rising (drop i ps)
rising_step ps i place next below e f test =
    sym (rising_next ps i below
    ∙ ap (λ (b : Bool). not b && are_rising (drop (i + 1) ps)) (sym (ap₂ nat_lt f e) ∙ test))

pub falling_step : (ps : List ℕ) (i place next : ℕ) → i + 1 < length ps → place ≡ slice_index ps i
    → next ≡ slice_index ps (i + 1) → nat_lt next place ≡ true
    → are_rising (drop i ps) ≡ false
falling_step ps i place next below e f test =
    rising_next ps i below
    ∙ ap (λ (b : Bool). not b && are_rising (drop (i + 1) ps)) (sym (ap₂ nat_lt f e) ∙ test)
