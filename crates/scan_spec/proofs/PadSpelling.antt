-- The pad bits of a scan can be told in one way, and those that are told so are a scan's.
use Rattle.std.proofs.Common.{◌≡◌, ℕ, zero, suc, ◌+◌, ◌-◌, ◌/◌, ◌%◌, ◌<◌, ◌≤◌, Bool, true, false, not, ◌&&◌, ◌||◌, if◌then◌else◌, List, [], ◌∷◌, ◌++◌, length, take, drop, get_or, replicate, refl, sym, ap, ap₂, ◌∙◌, subst, arith, append_assoc, length-append, take-append-drop, length-drop, drop-cons, add-one}
use Rattle.std.specs.List.{list_all, AllByRecursion}
use Rattle.std.proofs.Math.Seq.{get_or-append_seam}
use Rattle.std.proofs.lemmas.Bool.{and_parts, false≢true}
use Rattle.std.proofs.lemmas.List.{drop_at, length-replicate, length-take-le}
use Rattle.bit_list.specs.Bits.{IsByte, bits_of, bytes_after, begun_after, padding}
use Rattle.bit_list.proofs.Wholes.{bytes_after-bits_of, bits_of-bytes_after, begun_count, padding_count}
use Rattle.handover.specs.PadSums.{no_pads, pads_with}
use Rattle.handover.specs.declared.pads.PadSum.{PadSum}
use Rattle.scan_spec.specs.Scans.{padded, ArePads, pad_at}
use Rattle.scan_spec.specs.Pads.{PadBits, Same, Listed, bit_for, pad_list, intervals_sum, bits_sum, spelling_of, is_spelled}
use Rattle.scan_spec.proofs.Intervals.{length-bits_of}
use Rattle.scan_spec.proofs.PadsAlike.{AgreeFor}

-- ---- from the pad bits of a scan to how they are told

-- each interval that pads some pads this bit
abbrev AllBits : Bool → List ℕ → List Bool → Type 0
AllBits bit [] pads = Unit {0}
AllBits bit (count ∷ counts) [] = Unit {0}
AllBits bit (count ∷ counts) (pad ∷ pads) = (0 < count → bit ≡ pad) × AllBits bit counts pads

or_left : (a b : Bool) → (a || b) ≡ false → a ≡ false
or_left true b e = absurd (false≢true (sym e))
or_left false b e = refl

or_right : (a b : Bool) → (a || b) ≡ false → b ≡ false
or_right true b e = absurd (false≢true (sym e))
or_right false b e = e

not_false : (b : Bool) → not b ≡ false → true ≡ b
not_false true e = refl
not_false false e = absurd (false≢true (sym e))

no_zero : (counts : List ℕ) (pads : List Bool) → (bits_sum counts pads).zero ≡ false → AllBits true counts pads
no_zero [] pads e = tt
no_zero (count ∷ counts) [] e = tt
no_zero (zero ∷ counts) (pad ∷ pads) e = (λ some. absurd (omega (arith, some)), no_zero counts pads e)
no_zero (suc count ∷ counts) (pad ∷ pads) e = (λ some. not_false pad (or_left (not pad) (bits_sum counts pads).zero e), no_zero counts pads (or_right (not pad) (bits_sum counts pads).zero e))

no_one : (counts : List ℕ) (pads : List Bool) → (bits_sum counts pads).one ≡ false → AllBits false counts pads
no_one [] pads e = tt
no_one (count ∷ counts) [] e = tt
no_one (zero ∷ counts) (pad ∷ pads) e = (λ some. absurd (omega (arith, some)), no_one counts pads e)
no_one (suc count ∷ counts) (pad ∷ pads) e = (λ some. sym (or_left pad (bits_sum counts pads).one e), no_one counts pads (or_right pad (bits_sum counts pads).one e))

-- bits that are the same for all of them
bits_agree : (counts : List ℕ) (pads before : List Bool) (bit : Bool) → ArePads counts pads → AllBits bit counts pads → AgreeFor (λ n. bit) (pad_at (before ++ pads)) (length before) counts
bits_agree [] pads before bit are all = tt
bits_agree (count ∷ counts) [] before bit are all = absurd are
bits_agree (count ∷ counts) (pad ∷ pads) before bit are all =
    let more = before ++ pad ∷ [] in
    let same : more ++ pads ≡ before ++ pad ∷ pads = append_assoc before (pad ∷ []) pads in
    let long : length more ≡ length before + 1 = length-append before (pad ∷ []) in
    let rest = subst (λ (n : ℕ). AgreeFor (λ i. bit) (pad_at (more ++ pads)) n counts) long (bits_agree counts pads more bit are.1 all.1) in
    (λ some. all.0 some ∙ sym (get_or-append_seam before pad pads true), subst (λ (l : List Bool). AgreeFor (λ i. bit) (pad_at l) (length before + 1) counts) same rest)

-- bits by a list
listed_agree : (counts : List ℕ) (pads before after : List Bool) (bytes : List ℕ) → bits_of bytes ≡ before ++ (pads ++ after) → ArePads counts pads
    → AgreeFor (bit_for (Listed bytes)) (pad_at (before ++ pads)) (length before) counts
listed_agree [] pads before after bytes e are = tt
listed_agree (count ∷ counts) [] before after bytes e are = absurd are
listed_agree (count ∷ counts) (pad ∷ pads) before after bytes e are =
    let more = before ++ pad ∷ [] in
    let same : more ++ pads ≡ before ++ pad ∷ pads = append_assoc before (pad ∷ []) pads in
    let long : length more ≡ length before + 1 = length-append before (pad ∷ []) in
    let next : bits_of bytes ≡ more ++ (pads ++ after) = e ∙ sym (append_assoc before (pad ∷ []) (pads ++ after)) in
    let rest = subst (λ (n : ℕ). AgreeFor (bit_for (Listed bytes)) (pad_at (more ++ pads)) n counts) long (listed_agree counts pads more after bytes next are.1) in
    let here : bit_for (Listed bytes) (length before) ≡ pad = ap (λ (l : List Bool). get_or l (length before) true) e ∙ get_or-append_seam before pad (pads ++ after) true in
    (λ some. here ∙ sym (get_or-append_seam before pad pads true), subst (λ (l : List Bool). AgreeFor (bit_for (Listed bytes)) (pad_at l) (length before + 1) counts) same rest)

-- what a list of them comes to
listed_sum : (counts : List ℕ) (pads before after : List Bool) (bytes : List ℕ) → bits_of bytes ≡ before ++ (pads ++ after) → ArePads counts pads
    → intervals_sum (Listed bytes) (length before) counts ≡ bits_sum counts pads
listed_sum [] pads before after bytes e are = refl
listed_sum (count ∷ counts) [] before after bytes e are = absurd are
listed_sum (zero ∷ counts) (pad ∷ pads) before after bytes e are =
    let more = before ++ pad ∷ [] in
    let long : length more ≡ length before + 1 = length-append before (pad ∷ []) in
    let next : bits_of bytes ≡ more ++ (pads ++ after) = e ∙ sym (append_assoc before (pad ∷ []) (pads ++ after)) in
    let here : bit_for (Listed bytes) (length before) ≡ pad = ap (λ (l : List Bool). get_or l (length before) true) e ∙ get_or-append_seam before pad (pads ++ after) true in
    let rest = ap (λ (n : ℕ). intervals_sum (Listed bytes) n counts) (sym long) ∙ listed_sum counts pads more after bytes next are.1 in
    ap₂ (λ (b : Bool) (r : PadSum). pads_with (record no_pads { vain = not b }) r) (here ∙ are.0 refl) rest
listed_sum (suc count ∷ counts) (pad ∷ pads) before after bytes e are =
    let more = before ++ pad ∷ [] in
    let long : length more ≡ length before + 1 = length-append before (pad ∷ []) in
    let next : bits_of bytes ≡ more ++ (pads ++ after) = e ∙ sym (append_assoc before (pad ∷ []) (pads ++ after)) in
    let here : bit_for (Listed bytes) (length before) ≡ pad = ap (λ (l : List Bool). get_or l (length before) true) e ∙ get_or-append_seam before pad (pads ++ after) true in
    let rest = ap (λ (n : ℕ). intervals_sum (Listed bytes) n counts) (sym long) ∙ listed_sum counts pads more after bytes next are.1 in
    ap₂ (λ (b : Bool) (r : PadSum). pads_with (record { zero = not b; one = b; vain = false }) r) here rest

-- the bits of a list
whole_list : (pads : List Bool) → length (padded pads false) % 8 ≡ 0
whole_list pads =
    let n = begun_count [] pads (omega arith) in
    let c = padding_count (begun_after [] pads) false (omega (arith, n)) in
    let a = length-append pads (padding (begun_after [] pads) false) in
    omega (arith, n, c, a)

pub list_bits : (pads : List Bool) → bits_of (pad_list pads) ≡ pads ++ padding (begun_after [] pads) false
list_bits pads = bits_of-bytes_after (padded pads false) (whole_list pads)

-- a bit of 0 that is padded is told
zero_told : (counts : List ℕ) (pads : List Bool) (n : ℕ) → (bits_sum counts pads).zero ≡ true → (intervals_sum (Same false) n counts).zero ≡ true
zero_told [] pads n e = absurd (false≢true e)
zero_told (count ∷ counts) [] n e = absurd (false≢true e)
zero_told (zero ∷ counts) (pad ∷ pads) n e = zero_told counts pads (n + 1) e
zero_told (suc count ∷ counts) (pad ∷ pads) n e = refl

-- how they are told says the bits, and is what they come to
pub record IsTold (counts : List ℕ) (pads : List Bool) (told : PadBits) : Type 0 where
  pub agree : AgreeFor (bit_for told) (pad_at pads) 0 counts
  pub spelled : is_spelled told (intervals_sum told 0 counts) ≡ true

told_by : (z o : Bool) (counts : List ℕ) (pads : List Bool) → ArePads counts pads → (bits_sum counts pads).zero ≡ z → (bits_sum counts pads).one ≡ o
    → IsTold counts pads (if z && o then Listed (pad_list pads) else Same (not z))
told_by false o counts pads are e f = record { agree = bits_agree counts pads [] true are (no_zero counts pads e); spelled = refl }
told_by true false counts pads are e f = record { agree = bits_agree counts pads [] false are (no_one counts pads f); spelled = zero_told counts pads 0 e }
told_by true true counts pads are e f =
    let after = padding (begun_after [] pads) false in
    let sum = listed_sum counts pads [] after (pad_list pads) (list_bits pads) are in
    record {
      agree = listed_agree counts pads [] after (pad_list pads) (list_bits pads) are;
      spelled = ap (λ (s : PadSum). s.zero && (s.one && not s.vain)) sum ∙ (let v = none_vain counts pads in rw (e, f, v) refl);
    } where
      none_vain : (counts : List ℕ) (pads : List Bool) → (bits_sum counts pads).vain ≡ false
      none_vain [] pads = refl
      none_vain (count ∷ counts) [] = refl
      none_vain (zero ∷ counts) (pad ∷ pads) = none_vain counts pads
      none_vain (suc count ∷ counts) (pad ∷ pads) = none_vain counts pads

pub pads_are_told : (counts : List ℕ) (pads : List Bool) → ArePads counts pads → IsTold counts pads (spelling_of pads (bits_sum counts pads))
pads_are_told counts pads are = told_by (bits_sum counts pads).zero (bits_sum counts pads).one counts pads are refl refl

-- ---- and back

-- the pad bits of intervals from n on that are told so: 1 where one pads none
abbrev pub kept : PadBits → ℕ → List ℕ → List Bool
kept told n [] = []
kept told n (zero ∷ counts) = true ∷ kept told (n + 1) counts
kept told n (suc count ∷ counts) = bit_for told n ∷ kept told (n + 1) counts

pub kept_are : (counts : List ℕ) (told : PadBits) (n : ℕ) → ArePads counts (kept told n counts)
kept_are [] told n = tt
kept_are (zero ∷ counts) told n = (λ none. refl, kept_are counts told (n + 1))
kept_are (suc count ∷ counts) told n = (λ none. absurd (omega (arith, none)), kept_are counts told (n + 1))

-- those after a first one
abbrev KeptAfter : List ℕ → PadBits → List Bool → Type 0
KeptAfter counts told before = AgreeFor (bit_for told) (pad_at (before ++ kept told (length before) counts)) (length before) counts

kept_later : (counts : List ℕ) (told : PadBits) (before : List Bool) (pad : Bool) → KeptAfter counts told (before ++ pad ∷ [])
    → AgreeFor (bit_for told) (pad_at (before ++ pad ∷ kept told (length before + 1) counts)) (length before + 1) counts
kept_later counts told before pad later =
    let n = length before in
    let rest = kept told (n + 1) counts in
    let more = before ++ pad ∷ [] in
    let same : more ++ rest ≡ before ++ pad ∷ rest = append_assoc before (pad ∷ []) rest in
    let long : length more ≡ n + 1 = length-append before (pad ∷ []) in
    let moved = subst (λ (k : ℕ). AgreeFor (bit_for told) (pad_at (more ++ kept told k counts)) k counts) long later in
    subst (λ (l : List Bool). AgreeFor (bit_for told) (pad_at l) (n + 1) counts) same moved

kept_from : (counts : List ℕ) (told : PadBits) (before : List Bool) → KeptAfter counts told before
kept_from [] told before = tt
kept_from (zero ∷ counts) told before = (λ some. absurd (omega (arith, some)), kept_later counts told before true (kept_from counts told (before ++ true ∷ [])))
kept_from (suc count ∷ counts) told before =
    let bit = bit_for told (length before) in
    (λ some. sym (get_or-append_seam before bit (kept told (length before + 1) counts) true), kept_later counts told before bit (kept_from counts told (before ++ bit ∷ [])))

pub kept_agree : (counts : List ℕ) (told : PadBits) → AgreeFor (bit_for told) (pad_at (kept told 0 counts)) 0 counts
kept_agree counts told = kept_from counts told []

-- what they come to
kept_no_zero : (counts : List ℕ) (n : ℕ) → (bits_sum counts (kept (Same true) n counts)).zero ≡ false
kept_no_zero [] n = refl
kept_no_zero (zero ∷ counts) n = kept_no_zero counts (n + 1)
kept_no_zero (suc count ∷ counts) n = kept_no_zero counts (n + 1)

kept_no_one : (counts : List ℕ) (n : ℕ) → (bits_sum counts (kept (Same false) n counts)).one ≡ false
kept_no_one [] n = refl
kept_no_one (zero ∷ counts) n = kept_no_one counts (n + 1)
kept_no_one (suc count ∷ counts) n = kept_no_one counts (n + 1)

kept_zero : (counts : List ℕ) (told : PadBits) (n : ℕ) → (bits_sum counts (kept told n counts)).zero ≡ (intervals_sum told n counts).zero
kept_zero [] told n = refl
kept_zero (zero ∷ counts) told n = kept_zero counts told (n + 1)
kept_zero (suc count ∷ counts) told n = ap (λ (b : Bool). not (bit_for told n) || b) (kept_zero counts told (n + 1))

kept_ones : (counts : List ℕ) (told : PadBits) (n : ℕ) → (bits_sum counts (kept told n counts)).one ≡ (intervals_sum told n counts).one
kept_ones [] told n = refl
kept_ones (zero ∷ counts) told n = kept_ones counts told (n + 1)
kept_ones (suc count ∷ counts) told n = ap (λ (b : Bool). bit_for told n || b) (kept_ones counts told (n + 1))

-- those of a list without a 0 in vain are its bits
bits_from : (bytes : List ℕ) (n : ℕ) → n < length (bits_of bytes) → drop n (bits_of bytes) ≡ get_or (bits_of bytes) n true ∷ drop (n + 1) (bits_of bytes)
bits_from bytes n within = drop-cons (bits_of bytes) n true within ∙ ap (λ (k : ℕ). get_or (bits_of bytes) n true ∷ drop k (bits_of bytes)) (sym (add-one n))

kept_listed : (counts : List ℕ) (bytes : List ℕ) (n : ℕ) → n + length counts ≤ length (bits_of bytes) → (intervals_sum (Listed bytes) n counts).vain ≡ false
    → kept (Listed bytes) n counts ≡ take (length counts) (drop n (bits_of bytes))
kept_listed [] bytes n within e = refl
kept_listed (zero ∷ counts) bytes n within e =
    let here = not (bit_for (Listed bytes) n) in
    let later = (intervals_sum (Listed bytes) (n + 1) counts).vain in
    let first = not_false (bit_for (Listed bytes) n) (or_left here later e) in
    let rest = kept_listed counts bytes (n + 1) (omega (arith, within)) (or_right here later e) in
    ap₂ (λ (b : Bool) (l : List Bool). b ∷ l) first rest ∙ ap (take (suc (length counts))) (sym (bits_from bytes n (omega (arith, within))))
kept_listed (suc count ∷ counts) bytes n within e =
    let rest = kept_listed counts bytes (n + 1) (omega (arith, within)) e in
    ap (λ (l : List Bool). bit_for (Listed bytes) n ∷ l) rest ∙ ap (take (suc (length counts))) (sym (bits_from bytes n (omega (arith, within))))

all_false : (bits : List Bool) → list_all (λ bit. not bit) bits ≡ true → bits ≡ replicate (length bits) false
all_false [] e = refl
all_false (bit ∷ bits) e = let p = and_parts (not bit) (list_all (λ bit. not bit) bits) e in ap₂ (λ (b : Bool) (l : List Bool). b ∷ l) (is_false bit p.0) (all_false bits p.1) where
  is_false : (bit : Bool) → not bit ≡ true → bit ≡ false
  is_false true e = absurd (false≢true e)
  is_false false e = refl

-- a list that has a bit for each interval, and bits of 0 after them
list_again : (count : ℕ) (bytes : List ℕ) → AllByRecursion IsByte bytes → length bytes ≡ (count + 7) / 8 → list_all (λ bit. not bit) (drop count (bits_of bytes)) ≡ true
    → pad_list (take count (bits_of bytes)) ≡ bytes
list_again count bytes are long clean =
    let bits = bits_of bytes in
    let all = length-bits_of bytes in
    let first = take count bits in
    let size : length first ≡ count = length-take-le count bits (omega (arith, all, long)) in
    let left = drop count bits in
    let more : length left ≡ length bits - count = length-drop count bits in
    let begun = begun_count [] first (omega arith) in
    let free : length left ≡ (8 - length (begun_after [] first)) % 8 = omega (arith, all, long, size, more, begun) in
    let pads : left ≡ padding (begun_after [] first) false = all_false left clean ∙ ap (λ (n : ℕ). replicate n false) free in
    let whole : padded first false ≡ bits = ap (λ (l : List Bool). first ++ l) (sym pads) ∙ take-append-drop count bits in
    ap (bytes_after []) whole ∙ bytes_after-bits_of bytes are

-- what a version may be told by, for so many intervals
pub record IsClean (count : ℕ) (bytes : List ℕ) : Type 0 where
  pub are : AllByRecursion IsByte bytes
  pub long : length bytes ≡ (count + 7) / 8
  pub clean : list_all (λ bit. not bit) (drop count (bits_of bytes)) ≡ true

abbrev pub CanTell : ℕ → PadBits → Type 0
CanTell count (Same bit) = Unit {0}
CanTell count (Listed bytes) = IsClean count bytes

-- so a scan's pad bits have one spelling
pub told_again : (told : PadBits) (counts : List ℕ) → CanTell (length counts) told → is_spelled told (intervals_sum told 0 counts) ≡ true
    → spelling_of (kept told 0 counts) (bits_sum counts (kept told 0 counts)) ≡ told
told_again (Same true) counts can e =
    let pads = kept (Same true) 0 counts in
    ap (λ (z : Bool). if z && (bits_sum counts pads).one then Listed (pad_list pads) else Same (not z)) (kept_no_zero counts 0)
told_again (Same false) counts can e =
    let pads = kept (Same false) 0 counts in
    ap₂ (λ (z o : Bool). if z && o then Listed (pad_list pads) else Same (not z)) (kept_zero counts (Same false) 0 ∙ e) (kept_no_one counts 0)
told_again (Listed bytes) counts can e =
    let pads = kept (Listed bytes) 0 counts in
    let sum = intervals_sum (Listed bytes) 0 counts in
    let p = and_parts sum.zero (sum.one && not sum.vain) e in
    let q = and_parts sum.one (not sum.vain) p.1 in
    let all = length-bits_of bytes in
    let long = can.long in
    let bits : pads ≡ take (length counts) (bits_of bytes) = kept_listed counts bytes 0 (omega (arith, all, long)) (not_true sum.vain q.1) in
    ap₂ (λ (z o : Bool). if z && o then Listed (pad_list pads) else Same (not z)) (kept_zero counts (Listed bytes) 0 ∙ p.0) (kept_ones counts (Listed bytes) 0 ∙ q.0)
    ∙ ap Listed (ap pad_list bits ∙ list_again (length counts) bytes can.are can.long can.clean) where
      not_true : (b : Bool) → not b ≡ true → b ≡ false
      not_true true e = absurd (false≢true e)
      not_true false e = refl

-- ---- the list that is made

tail_clean : (n : ℕ) → list_all (λ bit. not bit) (replicate n false) ≡ true
tail_clean zero = refl
tail_clean (suc n) = tail_clean n

pub list_is_clean : (pads : List Bool) → (length (pad_list pads) ≡ (length pads + 7) / 8) × (list_all (λ bit. not bit) (drop (length pads) (bits_of (pad_list pads))) ≡ true)
list_is_clean pads =
    let more = padding (begun_after [] pads) false in
    let bits = list_bits pads in
    let n = begun_count [] pads (omega arith) in
    let c = padding_count (begun_after [] pads) false (omega (arith, n)) in
    let a = length-append pads more in
    let e = length-bits_of (pad_list pads) in
    let f = ap length bits in
    let r = length-replicate ((8 - length (begun_after [] pads)) % 8) false in
    (omega (arith, n, a, e, f, r), ap (λ (l : List Bool). list_all (λ bit. not bit) (drop (length pads) l)) bits ∙ ap (list_all (λ bit. not bit)) (drop_at pads more (length pads) refl) ∙ tail_clean ((8 - length (begun_after [] pads)) % 8))
