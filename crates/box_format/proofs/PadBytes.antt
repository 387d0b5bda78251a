-- What holds of pad bytes.
use Rattle.std.proofs.Common.{◌≡◌, ◌≤◌, ◌==◌, ◌||◌, not, Bool, true, false, ℕ, zero, suc, List, [], ◌∷◌, length, nat_lt, if◌then◌else◌, refl, sym, ap, ◌∙◌, arith}
use Rattle.std.proofs.lemmas.Bool.{ltb-false, lt-ltb, ne_eqb, or_parts, false≢true}
use Rattle.scan_spec.specs.Slots.{Shape}
use Rattle.scan_spec.specs.Pads.{PadBits, Same, Listed}
use Rattle.box_format.specs.Parts.{pad_byte, list_bytes, is_list, can_pad}
use Rattle.box_format.specs.Raws.{pads_in}
use Rattle.box_format.specs.Checks.{is_bad_pad}
use Rattle.box_format.proofs.Layouts.{false_not}

-- but for a list in a version that has lists, the byte says one bit
plain : (listed : Bool) (shape : Shape) (n : ℕ) (list : List ℕ)
    → (n == 2) ≡ false → is_bad_pad listed shape n list ≡ (nat_lt 1 n || nat_lt 0 (length list))
plain true shape n list o =
    ap (λ (t : Bool). if t then not (is_list shape list) else nat_lt 1 n || nat_lt 0 (length list))
    o
plain false shape n list o = refl

no_more : (listed : Bool) (shape : Shape) (n : ℕ) (list : List ℕ)
    → 3 ≤ n → is_bad_pad listed shape n list ≡ false → ⊥
no_more listed shape n list low e =
    let other : (n == 2) ≡ false = ne_eqb n 2 (λ q. omega (arith, q, low)) in
    let more : nat_lt 1 n ≡ true = lt-ltb 1 n (omega (arith, low)) in
    false≢true
    (sym e ∙ plain listed shape n list other
    ∙ ap (λ (b : Bool). b || nat_lt 0 (length list)) more)

pub pad_again : (listed : Bool) (shape : Shape) (n : ℕ) (list : List ℕ)
    → is_bad_pad listed shape n list ≡ false → n ≡ pad_byte (pads_in n list)
pad_again listed shape zero list e = refl
pad_again listed shape (suc zero) list e = refl
pad_again listed shape (suc (suc zero)) list e = refl
pad_again listed shape (suc (suc (suc n))) list e =
    absurd (no_more listed shape (suc (suc (suc n))) list (omega arith) e)

pub nothing : (list : List ℕ) → nat_lt 0 (length list) ≡ false → list ≡ []
nothing [] e = refl
nothing (x ∷ list) e = absurd (let h = ltb-false 0 (length (x ∷ list)) e in omega (arith, h))

unlisted : (listed : Bool) (shape : Shape) (n : ℕ) (list : List ℕ)
    → (n == 2) ≡ false → is_bad_pad listed shape n list ≡ false → list ≡ []
unlisted listed shape n list other e =
    nothing list
    (or_parts (nat_lt 1 n) (nat_lt 0 (length list)) (sym (plain listed shape n list other) ∙ e)).1

pub list_again : (listed : Bool) (shape : Shape) (n : ℕ) (list : List ℕ)
    → is_bad_pad listed shape n list ≡ false → list ≡ list_bytes (pads_in n list)
list_again listed shape zero list e = unlisted listed shape 0 list refl e
list_again listed shape (suc zero) list e = unlisted listed shape 1 list refl e
list_again listed shape (suc (suc zero)) list e = refl
list_again listed shape (suc (suc (suc n))) list e =
    absurd (no_more listed shape (suc (suc (suc n))) list (omega arith) e)

pub pad_can : (listed : Bool) (shape : Shape) (n : ℕ) (list : List ℕ)
    → is_bad_pad listed shape n list ≡ false → can_pad listed shape (pads_in n list) ≡ true
pad_can listed shape zero list e = refl
pad_can listed shape (suc zero) list e = refl
pad_can true shape (suc (suc zero)) list e = false_not (is_list shape list) e
pad_can false shape (suc (suc zero)) list e = cc
pad_can listed shape (suc (suc (suc n))) list e =
    absurd (no_more listed shape (suc (suc (suc n))) list (omega arith) e)

-- and back
pub pads_again : (pads : PadBits) → pads_in (pad_byte pads) (list_bytes pads) ≡ pads
pads_again (Same true) = refl
pads_again (Same false) = refl
pads_again (Listed bytes) = refl

pub pads_good : (listed : Bool) (shape : Shape) (pads : PadBits)
    → can_pad listed shape pads ≡ true
    → is_bad_pad listed shape (pad_byte pads) (list_bytes pads) ≡ false
pads_good true shape (Same true) e = refl
pads_good true shape (Same false) e = refl
pads_good false shape (Same true) e = refl
pads_good false shape (Same false) e = refl
pads_good true shape (Listed bytes) e = ap not e
pads_good false shape (Listed bytes) e = cc

pub none_listed : (listed : Bool) (shape : Shape) (pads : PadBits)
    → can_pad listed shape pads ≡ true → listed ≡ false → length (list_bytes pads) ≡ 0
none_listed listed shape (Same pad) e f = refl
none_listed true shape (Listed bytes) e f = cc
none_listed false shape (Listed bytes) e f = cc
