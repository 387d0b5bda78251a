-- Streams that come of segments in order.
use Rattle.std.proofs.Common.{◌≡◌, ℕ, zero, suc, ◌+◌, List, [], ◌∷◌, ◌++◌, length, map, refl, sym, ap, ap₂, subst, ◌∙◌, arith}
use Rattle.std.specs.List.{range_with_len}
use Rattle.segment_code.specs.ReadyParts.{ReadyFields}
use Rattle.segment_encode.specs.Lanes.{AreMade, GiveEach}

pub numbers_on : (from k n : ℕ) → range_with_len from (k + n) ≡ range_with_len from k ++ range_with_len (from + k) n
numbers_on from zero n =
    let e : zero + n ≡ n = omega arith in
    let f : from + zero ≡ from = omega arith in
    ap (range_with_len from) e ∙ ap (λ (m : ℕ). range_with_len m n) (sym f)
numbers_on from (suc k) n =
    let e : suc k + n ≡ suc (k + n) = omega arith in
    let f : (from + 1) + k ≡ from + suc k = omega arith in
    ap (range_with_len from) e ∙ ap (λ (l : List ℕ). from ∷ l) (numbers_on (from + 1) k n)
    ∙ ap (λ (m : ℕ). from ∷ (range_with_len (from + 1) k ++ range_with_len m n)) f

pub mapped_on : {A B : Type 0} (f : A → B) (xs ys : List A) → map f (xs ++ ys) ≡ map f xs ++ map f ys
mapped_on f [] ys = refl
mapped_on f (x ∷ xs) ys = ap (λ (l : List _). f x ∷ l) (mapped_on f xs ys)

-- what comes of `k` numbers and of `n` after them
pub each_on : (f : ℕ → List ℕ) (from k n : ℕ)
    → map f (range_with_len from k) ++ map f (range_with_len (from + k) n) ≡ map f (range_with_len from (k + n))
each_on f from k n =
    sym (ap (map f) (numbers_on from k n) ∙ mapped_on f (range_with_len from k) (range_with_len (from + k) n))

-- what was made is what the segments give
pub given : (f : ℕ → List ℕ) (first : ℕ) (rs : List ReadyFields) (streams : List (List ℕ))
    → GiveEach f first rs → AreMade rs streams → streams ≡ map f (range_with_len first (length rs))
given f first [] [] give made = refl
given f first [] (stream ∷ streams) give made = absurd made
given f first (r ∷ rs) [] give made = absurd made
given f first (r ∷ rs) (stream ∷ streams) give made =
    ap₂ (λ (s : List ℕ) (ss : List (List ℕ)). s ∷ ss) (give.0 stream made.0)
    (given f (first + 1) rs streams give.1 made.1)

-- segments after others
pub give_more : (f : ℕ → List ℕ) (first : ℕ) (rs more : List ReadyFields) → GiveEach f first rs
    → GiveEach f (first + length rs) more → GiveEach f first (rs ++ more)
give_more f first [] more give next =
    let e : first + 0 ≡ first = omega arith in subst (λ (n : ℕ). GiveEach f n more) e next
give_more f first (r ∷ rs) more give next =
    let e : first + suc (length rs) ≡ (first + 1) + length rs = omega arith in
    (give.0, give_more f (first + 1) rs more give.1 (subst (λ (n : ℕ). GiveEach f n more) e next))

-- streams after others
pub made_more : (rs more : List ReadyFields) (streams next : List (List ℕ)) → AreMade rs streams
    → AreMade more next → AreMade (rs ++ more) (streams ++ next)
made_more [] more [] next made also = also
made_more [] more (stream ∷ streams) next made also = absurd made
made_more (r ∷ rs) more [] next made also = absurd made
made_more (r ∷ rs) more (stream ∷ streams) next made also =
    (made.0, made_more rs more streams next made.1 also)
