-- Which parts a slice begins, and parts that are a list.
use Rattle.std.proofs.Common.{◌≡◌, ℕ, zero, suc, ◌+◌, ◌-◌, ◌<◌, ◌≤◌, min, max, true, false, List, [], ◌∷◌, ◌++◌, length, take, drop, get_or, refl, sym, ap, ap₂, subst, ◌∙◌, arith, length-append, take-add, ⊎_elim}
use Rattle.std.specs.Prelude.{nat_lt, slice_index}
use Rattle.std.proofs.lemmas.Bool.{cases_lt}
use Rattle.std.proofs.lemmas.Bool.Decides.{nat_tests}
use Rattle.std.proofs.lemmas.List.{length-take, length-drop, get_or-take, get_or-drop, ext_get_or, take-append-drop, take_at, drop_at, take_all, take_more}
use Rattle.std.proofs.lemmas.Grind.{flat_map-append}
use Rattle.byte_window.specs.Windows.{window}
use Rattle.byte_window.specs.Slices.{Cover, slice, has_place, cover_of}
use Rattle.byte_window.specs.SliceLaws.{IsCover}
use Rattle.byte_window.specs.PartedFiles.{parts_within, window_of, joined, joined_between, listed}
use Rattle.byte_window.specs.PartedLaws.{ListIsPlaced, BegunAreFirstToLast, NoneIsBegun, OthersAreEmpty, OthersAreUnread}
use Rattle.byte_window.proofs.Covers.{met_there}
use Rattle.byte_window.proofs.PartedFacts.{covered, place_rises, between_long}

pub begun_are_first_to_last : BegunAreFirstToLast
begun_are_first_to_last f a b first last m n all =
    (ap₂ (λ (from to : ℕ). record { from = from; to = to }) from to, omega (arith, from, to, low)) where
      c : Cover
      c = parts_within f a b

      k : IsCover (has_place f.place a b) f.count c
      k = covered f a b

      in_first : (c.from ≤ first) × (first < c.to)
      in_first = k.all first m.0 m.1

      in_last : (c.from ≤ last) × (last < c.to)
      in_last = k.all last n.0 n.1

      some : c.from < c.to
      some = let x = in_first.0 in let y = in_first.1 in omega (arith, x, y)

      low : (first ≤ c.from) × (c.from ≤ last)
      low = let fits = (k.some some).2 in all c.from (omega (arith, some, fits), (k.some some).0)

      high : (first ≤ c.to - 1) × (c.to - 1 ≤ last)
      high = let fits = (k.some some).2 in all (c.to - 1) (omega (arith, some, fits), (k.some some).1)

      from : c.from ≡ first
      from = let x = in_first.0 in let y = low.0 in omega (arith, x, y)

      to : c.to ≡ last + 1
      to = let x = in_last.1 in let y = high.1 in omega (arith, x, y)

pub none_is_begun : NoneIsBegun
none_is_begun f a b none =
    let c = parts_within f a b in
    let k = covered f a b in
    ⊎_elim (λ (some : c.from < c.to).
    let fits = (k.some some).2 in
    let met : true ≡ false = sym (k.some some).0 ∙ none c.from (omega (arith, some, fits)) in cc)
    (λ (h : c.to ≤ c.from). omega (arith, h))
    (cases_lt c.from c.to)

-- a part that begins and ends in the range and has no place in it
unmet : (a b x y : ℕ) → nat_lt (max a x) (min b y) ≡ false → a ≤ x → y ≤ b → y ≤ x
unmet a b x y e low high = grind (arith, nat_tests)

no_byte : (xs : List ℕ) → length xs ≡ 0 → xs ≡ []
no_byte [] e = refl
no_byte (x ∷ xs) e = absurd (omega (arith, e))

pub others_are_empty : OthersAreEmpty
others_are_empty f a b i p low high un =
    no_byte (f.between i (i + 1))
    (let long = between_long f i (i + 1) p (omega arith) (omega (arith, high, fits)) in
    let whole = unmet a b (f.place i) (f.place (i + 1)) un from to in
    omega (arith, long, whole)) where
      c : Cover
      c = parts_within f a b

      ends : (has_place f.place a b c.from ≡ true) × (has_place f.place a b (c.to - 1) ≡ true)
          × (c.to ≤ f.count)
      ends = (covered f a b).some (omega (arith, low, high))

      fits : c.to ≤ f.count
      fits = ends.2

      -- it isn't one that has a place
      other : (j : ℕ) → has_place f.place a b j ≡ true → j ≡ i → ⊥
      other j met e = let clash : true ≡ false = sym met ∙ ap (has_place f.place a b) e ∙ un in cc

      from : a ≤ f.place i
      from =
          ⊎_elim (λ (h : c.from < i).
          let first = met_there a b (f.place c.from) (f.place (c.from + 1)) ends.0 in
          let rise = place_rises f (c.from + 1) i p (omega (arith, h)) (omega (arith, high, fits)) in
          omega (arith, first, rise))
          (λ (h : i ≤ c.from). absurd (other c.from ends.0 (omega (arith, h, low))))
          (cases_lt c.from i)

      to : f.place (i + 1) ≤ b
      to =
          ⊎_elim (λ (h : i < c.to - 1).
          let last = met_there a b (f.place (c.to - 1)) (f.place ((c.to - 1) + 1)) ends.1 in
          let rise = place_rises f (i + 1) (c.to - 1) p (omega (arith, h)) (omega (arith, fits)) in
          omega (arith, last, rise))
          (λ (h : c.to - 1 ≤ i). absurd (other (c.to - 1) ends.1 (omega (arith, h, high))))
          (cases_lt i (c.to - 1))

-- ---- parts that are a list

joined_parts : (xs ys : List (List ℕ)) → joined (xs ++ ys) ≡ joined xs ++ joined ys
joined_parts xs ys = flat_map-append (λ (bytes : List ℕ). bytes) xs ys

-- the bytes of the first parts
abbrev pub first_bytes : List (List ℕ) → ℕ → List ℕ
first_bytes xs i = joined (take i xs)

-- the bytes of the parts from one to before another are a slice of those of all
parts_are_slice : (xs : List (List ℕ)) (i j : ℕ) → i ≤ j
    → slice (length (first_bytes xs i)) (length (first_bytes xs j)) (joined xs) ≡ joined_between xs i j
parts_are_slice xs i j h =
    let a = first_bytes xs i in
    let b = joined_between xs i j in
    let rest = joined (drop j xs) in
    let count : j ≡ i + (j - i) = omega (arith, h) in
    let to : first_bytes xs j ≡ a ++ b =
    ap (first_bytes xs) count ∙ ap joined (take-add i (j - i) xs)
    ∙ joined_parts (take i xs) (take (j - i) (drop i xs)) in
    let whole : joined xs ≡ (a ++ b) ++ rest =
    ap joined (sym (take-append-drop j xs)) ∙ joined_parts (take j xs) (drop j xs)
    ∙ ap (λ (l : List ℕ). l ++ rest) to in
    ap₂ (λ (n : ℕ) (l : List ℕ). slice (length a) n l) (ap length to) whole
    ∙ ap (drop (length a)) (take_at (a ++ b) rest (length (a ++ b)) refl)
    ∙ drop_at a b (length a) refl

-- with one part more
pub one_more : (xs : List (List ℕ)) (i : ℕ) → i < length xs
    → length (first_bytes xs (i + 1)) ≡ length (first_bytes xs i) + length (get_or xs i [])
one_more xs i h =
    let x = get_or xs i [] in
    let more = ap (λ (l : List (List ℕ)). length (joined l)) (take_more xs i [] h)
    ∙ ap length (joined_parts (take i xs) (x ∷ [])) ∙ length-append (first_bytes xs i) (x ++ []) in
    let last = length-append x [] in
    omega (arith, more, last)

pub list_is_placed : ListIsPlaced
list_is_placed header trailer places parts first next = record {
  first = first;
  rises = λ i h. let n = next i h in omega (arith, n);
  each = λ i j low high.
      sym (ap₂ (λ (m n : ℕ). slice m n all) (done i (omega (arith, low, high))) (done j high)
      ∙ ap (λ (l : List ℕ). slice (length (first_bytes parts i)) (length (first_bytes parts j)) l) whole
      ∙ parts_are_slice parts i j low);
  all = ap length whole
      ∙ ap (λ (xs : List (List ℕ)). length (joined xs)) (sym (take_all (length parts) parts (omega arith)))
      ∙ sym (done (length parts) (omega arith));
} where
  all : List ℕ
  all = joined_between parts 0 (length parts)

  whole : all ≡ joined parts
  whole = let e : length parts - 0 ≡ length parts = omega arith in
      ap (λ (n : ℕ). joined (take n parts)) e
      ∙ ap joined (take_all (length parts) parts (omega arith))

  lowest : (i : ℕ) → i ≤ length parts → slice_index places 0 ≤ slice_index places i
  lowest zero h = omega arith
  lowest (suc i) h =
      let n = next i (omega (arith, h)) in
      let before = lowest i (omega (arith, h)) in
      let e : i + 1 ≡ suc i = omega arith in
      subst (λ (n : ℕ). slice_index places 0 ≤ slice_index places n) e (omega (arith, before, n))

  -- a place is where the bytes of the parts before end
  done : (i : ℕ) → i ≤ length parts
      → slice_index places i - slice_index places 0 ≡ length (first_bytes parts i)
  done zero h = omega arith
  done (suc i) h =
      let under : i < length parts = omega (arith, h) in
      let before = done i (omega (arith, h)) in
      let n = next i under in
      let more = one_more parts i under in
      let low = lowest i (omega (arith, h)) in
      let e : i + 1 ≡ suc i = omega arith in
      subst (λ (n : ℕ). slice_index places n - slice_index places 0 ≡ length (first_bytes parts n)) e
      (omega (arith, before, n, more, low))

-- parts that are the same from one to before another
same_between : (xs ys : List (List ℕ)) (from to : ℕ) → length xs ≡ length ys
    → ((i : ℕ) → from ≤ i → i < to → get_or xs i [] ≡ get_or ys i [])
    → take (to - from) (drop from xs) ≡ take (to - from) (drop from ys)
same_between xs ys from to long same =
    ext_get_or [] (take n (drop from xs)) (take n (drop from ys))
    (count xs ∙ ap (λ (k : ℕ). min n (k - from)) long ∙ sym (count ys))
    (λ i h.
    let few = count xs in
    let under : i < n = omega (arith, h, few) in
    get_or-take n (drop from xs) i [] under ∙ get_or-drop from xs i []
    ∙ same (from + i) (omega arith) (omega (arith, under))
    ∙ sym (get_or-take n (drop from ys) i [] under ∙ get_or-drop from ys i [])) where
      n : ℕ
      n = to - from

      count : (zs : List (List ℕ)) → length (take n (drop from zs)) ≡ min n (length zs - from)
      count zs = length-take n (drop from zs) ∙ ap (min n) (length-drop from zs)

-- a slice's bytes by a count of parts, and parts
abbrev bytes_of : List ℕ → List ℕ → (ℕ → ℕ) → ℕ → ℕ → ℕ → List (List ℕ) → List ℕ
bytes_of header trailer place a b count parts =
    let c = cover_of place count a b in
    slice a b header
    ++ (window (window_of place c a b) (joined_between parts c.from c.to)
    ++ slice (a - place count) (b - place count) trailer)

pub others_are_unread : OthersAreUnread
others_are_unread header trailer places parts others a b long same =
    let place : ℕ → ℕ = λ i. slice_index places i in
    let c = parts_within (listed header parts trailer places) a b in
    ap (λ (count : ℕ). bytes_of header trailer place a b count others) long
    ∙ ap (λ (bytes : List (List ℕ)). slice a b header
    ++ (window (window_of place c a b) (joined bytes)
    ++ slice (a - place (length parts)) (b - place (length parts)) trailer))
    (same_between others parts c.from c.to long same)
