-- A slice of a file in parts, by its parts.
use Rattle.std.proofs.Common.{◌≡◌, ℕ, zero, suc, ◌+◌, ◌-◌, ◌*◌, ◌<◌, ◌≤◌, min, max, Bool, List, ◌++◌, length, take, drop, Some, sym, ap, ap₂, subst, ◌∙◌, arith, length-append, ⊎_elim}
use Rattle.std.specs.Prelude.{◌==◌, if◌then◌else◌, true, false}
use Rattle.std.proofs.lemmas.Bool.{cases_lt}
use Rattle.std.proofs.lemmas.Bool.Decides.{nat_tests}
use Rattle.std.proofs.lemmas.List.{take_all, take_min}
use Rattle.byte_window.specs.Windows.{window}
use Rattle.byte_window.specs.Slices.{slice, has_place, chunk_to}
use Rattle.byte_window.specs.SliceLaws.{IsCover}
use Rattle.byte_window.specs.PartedFiles.{PartedFile, IsPlaced, file_bytes, parts_bytes, parts_end, parts_within, bytes_within, skip_within, window_within, header_within, joined}
use Rattle.byte_window.specs.PartedLaws.{PartsAreInFile, SliceOfFile, BytesAreEnough, MostIsLeft, RangesJoin, ChunksAreTheFile, chunks_of, most_within}
use Rattle.byte_window.proofs.SliceParts.{slice_of_parts, slices_join, most_is_counted, no_slice}
use Rattle.byte_window.proofs.Covers.{cover_is_exact, cover_fits, cover_has_slice, nothing_covered, met_there, rising}
use Rattle.byte_window.proofs.Covered.{covered_is_window, uncovered_is_nothing}

pub covered : (f : PartedFile) (a b : ℕ) → IsCover (has_place f.place a b) f.count (parts_within f a b)
covered f a b = cover_is_exact (has_place f.place a b) f.count

-- some parts, or none
pub some_or_none : (f : PartedFile) (a b : ℕ) (P : Type 0)
    → ((parts_within f a b).from < (parts_within f a b).to → P)
    → ((parts_within f a b).from ≡ (parts_within f a b).to → P) → P
some_or_none f a b P some none =
    let c = parts_within f a b in
    ⊎_elim some (λ (h : c.to ≤ c.from). let order = (covered f a b).order in none (omega (arith, h, order)))
    (cases_lt c.from c.to)

-- they are some of the file's
pub parts_are_in_file : PartsAreInFile
parts_are_in_file f a b = cover_fits (has_place f.place a b) f.count

-- places don't fall
pub place_rises : (f : PartedFile) (i j : ℕ) → IsPlaced f → i ≤ j → j ≤ f.count → f.place i ≤ f.place j
place_rises f i j p low high =
    let e : i + (j - i) ≡ j = omega (arith, low) in
    subst (λ (n : ℕ). f.place i ≤ f.place n) e
    (rising f.place f.count i (j - i) p.rises (omega (arith, e, high)))

ends_there : (f : PartedFile) → IsPlaced f → parts_end f ≡ f.place 0 + length (parts_bytes f)
ends_there f p =
    let all = p.all in
    let up = place_rises f 0 f.count p (omega arith) (omega arith) in omega (arith, all, up)

isnt_same : (m n : ℕ) → m < n → (m == n) ≡ false
isnt_same m n h = grind (arith, nat_tests)

is_same : (m n : ℕ) → m ≡ n → (m == n) ≡ true
is_same m n h = grind (arith, nat_tests)

skip_by : (f : PartedFile) (a b : ℕ) (same : Bool)
    → ((parts_within f a b).from == (parts_within f a b).to) ≡ same
    → skip_within f a b ≡ (if same then 0 else a - f.place (parts_within f a b).from)
skip_by f a b same e = ap (λ (t : Bool). if t then 0 else a - f.place (parts_within f a b).from) e

-- of the parts' bytes those in the slice go through the window
middle : (f : PartedFile) (a b : ℕ) → IsPlaced f
    → slice (a - f.place 0) (b - f.place 0) (parts_bytes f)
    ≡ window (window_within f a b) (bytes_within f a b)
middle f a b p =
    some_or_none f a b
    (slice (a - f.place 0) (b - f.place 0) (parts_bytes f) ≡ window (window_within f a b) (bytes_within f a b))
    (λ some.
    let c = parts_within f a b in
    let skip = skip_by f a b false (isnt_same c.from c.to some) in
    covered_is_window f.place f.count a b (parts_bytes f) p.rises (ends_there f p) some
    ∙ ap₂ (λ (s : ℕ) (l : List ℕ). window (record { skip = s; most = Some (most_within f a b) }) l) (sym skip)
    (sym (p.each c.from c.to (omega (arith, some)) (parts_are_in_file f a b).1)))
    (λ none.
    let c = parts_within f a b in
    let most : min b (f.place c.from) - max a (f.place c.from) ≡ 0 = omega arith in
    let nothing : most_within f a b ≡ 0 =
    ap (λ (n : ℕ). min b (f.place n) - max a (f.place c.from)) (sym none) ∙ most in
    uncovered_is_nothing f.place f.count a b (parts_bytes f) p.rises (ends_there f p) none
    ∙ ap (λ (n : ℕ). take n (drop (skip_within f a b) (bytes_within f a b))) (sym nothing))

pub slice_of_file : SliceOfFile
slice_of_file f a b p =
    let h = length f.header in
    let s = length (parts_bytes f) in
    let first = p.first in
    let end = ends_there f p in
    let from : a - h - s ≡ a - parts_end f = omega (arith, first, end) in
    let to : b - h - s ≡ b - parts_end f = omega (arith, first, end) in
    sym (slice_of_parts a b f.header (parts_bytes f ++ f.trailer)
    ∙ ap (λ (l : List ℕ). header_within f a b ++ l)
    (slice_of_parts (a - h) (b - h) (parts_bytes f) f.trailer
    ∙ ap₂ (λ (l r : List ℕ). l ++ r)
    (ap (λ (n : ℕ). slice (a - n) (b - n) (parts_bytes f)) (sym p.first) ∙ middle f a b p)
    (ap₂ (λ (m n : ℕ). slice m n f.trailer) from to)))

pub ranges_join : RangesJoin
ranges_join f a b c p first second =
    ap₂ (λ (x y : List ℕ). x ++ y) (slice_of_file f a b p) (slice_of_file f b c p)
    ∙ slices_join a b c (file_bytes f) first second ∙ sym (slice_of_file f a c p)

-- how many bytes parts have
pub between_long : (f : PartedFile) (i j : ℕ) → IsPlaced f → i ≤ j → j ≤ f.count
    → length (f.between i j) ≡ f.place j - f.place i
between_long f i j p low high =
    let long = ap length (p.each i j low high)
    ∙ most_is_counted (f.place i - f.place 0) (f.place j - f.place 0) (parts_bytes f) in
    let all = p.all in
    let first = place_rises f 0 i p (omega arith) (omega (arith, low, high)) in
    let order = place_rises f i j p low high in
    let last = place_rises f j f.count p high (omega arith) in
    omega (arith, long, all, first, order, last)

pub bytes_are_enough : BytesAreEnough
bytes_are_enough f a b p =
    some_or_none f a b (skip_within f a b + most_within f a b ≤ length (bytes_within f a b))
    (λ some.
    let c = parts_within f a b in
    let fits = (parts_are_in_file f a b).1 in
    let long = between_long f c.from c.to p (omega (arith, some)) fits in
    let skip = skip_by f a b false (isnt_same c.from c.to some) in
    let first = met_there a b (f.place c.from) (f.place (c.from + 1)) ((covered f a b).some some).0 in
    let after = place_rises f (c.from + 1) c.to p (omega (arith, some)) fits in
    omega (arith, long, skip, first, after))
    (λ none.
    let c = parts_within f a b in
    let skip = skip_by f a b true (is_same c.from c.to none) in
    let most = ap (λ (n : ℕ). min b (f.place n) - max a (f.place c.from)) (sym none) in
    omega (arith, skip, most))

-- how many of the parts' bytes lie in a slice
most_is : (f : PartedFile) (a b : ℕ) → IsPlaced f
    → most_within f a b ≡ min (b - f.place 0) (length (parts_bytes f)) - (a - f.place 0)
most_is f a b p =
    let c = parts_within f a b in
    let end = ends_there f p in
    some_or_none f a b
    (most_within f a b ≡ min (b - f.place 0) (length (parts_bytes f)) - (a - f.place 0))
    (λ some.
    let has = cover_has_slice f.place f.count a b p.rises some in
    let low = has.0 in
    let high = has.1 in
    let fits = (parts_are_in_file f a b).1 in
    let from = place_rises f 0 c.from p (omega arith) (omega (arith, some, fits)) in
    let to = place_rises f c.to f.count p fits (omega arith) in
    omega (arith, end, low, high, from, to))
    (λ none.
    let past = nothing_covered f.place f.count a b p.rises none in
    let most = ap (λ (n : ℕ). min b (f.place n) - max a (f.place c.from)) (sym none) in
    omega (arith, end, past, most))

pub most_is_left : MostIsLeft
most_is_left f a b p order within =
    let h = length f.header in
    let s = length (parts_bytes f) in
    let first = most_is_counted a b f.header in
    let start = p.first in
    let end : parts_end f ≡ h + s = ends_there f p ∙ ap (λ (n : ℕ). n + s) start in
    let last = ap (λ (n : ℕ). length (slice (a - n) (b - n) f.trailer)) end
    ∙ most_is_counted (a - (h + s)) (b - (h + s)) f.trailer in
    let long : length (file_bytes f) ≡ h + (s + length f.trailer) =
    length-append f.header (parts_bytes f ++ f.trailer)
    ∙ ap (λ (n : ℕ). h + n) (length-append (parts_bytes f) f.trailer) in
    let most = most_is f a b p ∙ ap (λ (n : ℕ). min (b - n) s - (a - n)) start in
    most ∙ omega (arith, order, within, first, last, long)

-- ---- chunks

chunks_joined : (file : List ℕ) (size i count : ℕ)
    → joined (chunks_of file size i count) ≡ slice (i * size) ((i + count) * size) file
chunks_joined file size i zero =
    let e : i * size ≡ (i + 0) * size = omega arith in
    sym (no_slice (i * size) file) ∙ ap (λ (n : ℕ). slice (i * size) n file) e
chunks_joined file size i (suc count) =
    let one : slice (i * size) (chunk_to (length file) size i) file
    ≡ slice (i * size) (i * size + size) file =
    ap (drop (i * size)) (take_min (i * size + size) file) in
    let next : (i + 1) * size ≡ i * size + size = omega arith in
    let end : ((i + 1) + count) * size ≡ (i + suc count) * size = omega arith in
    let low : i * size ≤ i * size + size = omega arith in
    let high : i * size + size ≤ (i + suc count) * size = omega arith in
    ap₂ (λ (x y : List ℕ). x ++ y) one
    (chunks_joined file size (i + 1) count
    ∙ ap₂ (λ (m n : ℕ). slice m n file) next end)
    ∙ slices_join (i * size) (i * size + size) ((i + suc count) * size) file low high

pub chunks_are_the_file : ChunksAreTheFile
chunks_are_the_file file size count enough =
    let from : 0 * size ≡ 0 = omega arith in
    let to : (0 + count) * size ≡ count * size = omega arith in
    chunks_joined file size 0 count
    ∙ ap₂ (λ (m n : ℕ). slice m n file) from to ∙ take_all (count * size) file enough
