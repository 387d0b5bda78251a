-- Bits that are taken, in parts and whole, and what a result that is there came from.
use Rattle.std.proofs.Common.{◌≡◌, ℕ, Bool, List, [], ◌∷◌, ◌++◌, length, Result, Ok, Err, refl, sym, ap, ap₂, ◌∙◌, arith, length-append}
use Rattle.bit_list.specs.Units.{Cursor, bits_at}
use Rattle.bit_list.specs.declared.fault.BitFault.{BitFault}
use Rattle.bit_list.proofs.Cursors.{after_bits, then_bits, in_parts}
use Rattle.scan_spec.specs.ScanReading.{and_then, refused_as}
use Rattle.scan_spec.specs.declared.refusal.ScanRefusal.{ScanRefusal}
use Rattle.scan_spec.proofs.ItemsRead.{bits_length}

-- bits stand from a cursor to another
abbrev pub Takes : List ℕ → Cursor → List Bool → Cursor → Type 0
Takes bytes from bits to = bits_at (length bits) bytes from ≡ Ok (bits, to)

pub takes_none : (bytes : List ℕ) (from : Cursor) → Takes bytes from [] from
unfolding bits_at
takes_none bytes from = refl

pub takes_then : (bytes : List ℕ) (from mid to : Cursor) (xs ys : List Bool) → Takes bytes from xs mid → Takes bytes mid ys to → Takes bytes from (xs ++ ys) to
takes_then bytes from mid to xs ys a b =
    ap (λ (n : ℕ). bits_at n bytes from) (length-append xs ys) ∙ in_parts (length xs) (length ys) bytes from
    ∙ ap (λ (r : Result (List Bool × Cursor) BitFault). Rattle.bit_list.specs.Units.and_then r (then_bits (length ys) bytes)) a ∙ ap (after_bits xs) b

abbrev pub done : {A : Type 0} → A → Result A BitFault
done x = Ok x

abbrev failed : {A : Type 0} → BitFault → Result A BitFault
failed e = Err e

pub is_both : {A B : Type 0} (x y : A × B) → done x ≡ done y → (x.0 ≡ y.0) × (x.1 ≡ y.1)
is_both x y e = (cc, cc)

apart : {A : Type 0} (e : BitFault) (x : A) → failed {A = A} e ≡ done x → ⊥
apart e x h = cc

parts_same : (xs us ys vs : List Bool) → length xs ≡ length us → xs ++ ys ≡ us ++ vs → (xs ≡ us) × (ys ≡ vs)
parts_same [] [] ys vs h e = (refl, e)
parts_same [] (u ∷ us) ys vs h e = absurd (omega arith)
parts_same (x ∷ xs) [] ys vs h e = absurd (omega arith)
parts_same (x ∷ xs) (u ∷ us) ys vs h e =
    let same : x ≡ u = cc in
    let tails : xs ++ ys ≡ us ++ vs = cc in
    let r = parts_same xs us ys vs (omega arith) tails in
    (ap₂ (λ (b : Bool) (l : List Bool). b ∷ l) same r.0, r.1)

abbrev Split : List ℕ → Cursor → List Bool → List Bool → Cursor → Type 0
Split bytes from xs ys to = (mid : Cursor) × Takes bytes from xs mid × Takes bytes mid ys to

split_more : (bytes : List ℕ) (from mid to : Cursor) (us xs ys : List Bool) (r : Result (List Bool × Cursor) BitFault) → bits_at (length xs) bytes from ≡ Ok (us, mid) → length us ≡ length xs
    → bits_at (length ys) bytes mid ≡ r → after_bits us r ≡ Ok (xs ++ ys, to) → Split bytes from xs ys to
split_more bytes from mid to us xs ys (Err fault) a long b e = absurd (apart fault (xs ++ ys, to) e)
split_more bytes from mid to us xs ys (Ok y) a long b e =
    let v = is_both (us ++ y.0, y.1) (xs ++ ys, to) e in
    let p = parts_same us xs y.0 ys long v.0 in
    (mid, a ∙ ap (λ (l : List Bool). done (l, mid)) p.0, b ∙ ap₂ (λ (l : List Bool) (c : Cursor). done (l, c)) p.1 v.1)

split_first : (bytes : List ℕ) (from to : Cursor) (xs ys : List Bool) (r : Result (List Bool × Cursor) BitFault) → bits_at (length xs) bytes from ≡ r
    → Rattle.bit_list.specs.Units.and_then r (then_bits (length ys) bytes) ≡ Ok (xs ++ ys, to) → Split bytes from xs ys to
split_first bytes from to xs ys (Err fault) a e = absurd (apart fault (xs ++ ys, to) e)
split_first bytes from to xs ys (Ok x) a e = split_more bytes from x.1 to x.0 xs ys (bits_at (length ys) bytes x.1) a (bits_length (length xs) bytes x.0 from x.1 a) refl e

pub takes_split : (bytes : List ℕ) (from to : Cursor) (xs ys : List Bool) → Takes bytes from (xs ++ ys) to → Split bytes from xs ys to
takes_split bytes from to xs ys e =
    split_first bytes from to xs ys (bits_at (length xs) bytes from) refl (sym (in_parts (length xs) (length ys) bytes from) ∙ sym (ap (λ (n : ℕ). bits_at n bytes from) (length-append xs ys)) ∙ e)

-- bits that were taken by their count
pub takes_of : (n : ℕ) (bytes : List ℕ) (from to : Cursor) (bits : List Bool) → bits_at n bytes from ≡ Ok (bits, to) → (length bits ≡ n) × Takes bytes from bits to
takes_of n bytes from to bits e =
    let long = bits_length n bytes bits from to e in
    (long, ap (λ (k : ℕ). bits_at k bytes from) long ∙ e)

-- ---- results

abbrev pub fine : {A : Type 0} → A → Result A ScanRefusal
fine x = Ok x

abbrev pub refused : {A : Type 0} → ScanRefusal → Result A ScanRefusal
refused e = Err e

pub not_refused : {A : Type 0} (e : ScanRefusal) (x : A) → refused {A = A} e ≡ fine x → ⊥
not_refused e x h = cc

pub is_fine : {A : Type 0} (x y : A) → fine x ≡ fine y → x ≡ y
is_fine x y e = cc

pub both_fine : {A B : Type 0} (x y : A × B) → fine x ≡ fine y → (x.0 ≡ y.0) × (x.1 ≡ y.1)
both_fine x y e = (cc, cc)

-- a result that is there, of a first one
pub then_fine : {A B : Type 0} (r : Result A ScanRefusal) (f : A → Result B ScanRefusal) (x : B) → and_then r f ≡ Ok x → (a : A) × (r ≡ Ok a) × (f a ≡ Ok x)
then_fine (Ok a) f x e = (a, refl, e)
then_fine (Err refusal) f x e = absurd (not_refused refusal x e)

pub as_fine : {A F : Type 0} (g : F → ScanRefusal) (r : Result A F) (x : A) → refused_as g r ≡ Ok x → r ≡ Ok x
as_fine g (Ok a) x e = ap Ok (is_fine a x e)
as_fine g (Err fault) x e = absurd (not_refused (g fault) x e)
