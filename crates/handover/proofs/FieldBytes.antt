-- A handover's fields and its bytes.
use Rattle.std.proofs.Common.{◌≡◌, ℕ, suc, ◌+◌, ◌-◌, ◌*◌, ◌/◌, ◌%◌, ◌<◌, ◌^◌, length, List, [], ◌∷◌, ◌++◌, map, refl, sym, ap, ap₂, subst, ◌∙◌, arith, drop, get_or, ℤ, pos, unsigned_abs}
use Rattle.std.specs.Prelude.{All, FitsSigned, nat_le, true}
use Rattle.std.specs.Int.{w16, cast_unsigned, cast_signed}
use Rattle.std.specs.List.{AllByRecursion, list_all}
use Rattle.std.proofs.lemmas.Bool.{eq-eqb, le-leb}
use Rattle.std.proofs.lemmas.Int.{to_z-of_z, of_z-to_z, fits_signed_from_abs}
use Rattle.std.proofs.Math.Facts.{Fits-of_z}
use Rattle.std.proofs.lemmas.List.Elements.{recursion_from_All}
use Rattle.byteorder.specs.Endian.{big_bytes, big_number}
use Rattle.coef_block.specs.Block.{IsDc, most_dc}
use Rattle.handover.specs.Handovers.{HandoverFields, IsHandover}
use Rattle.handover.specs.HandoverBytes.{handover_bytes, handover_in}
use Rattle.handover.specs.OneSpelling.{FieldsAreReadAgain, BytesAreSpelledAgain, TestIsExact}

-- ---- lists of four and of fourteen

-- a list of four
pub record IsFour {A : Type 0} (xs : List A) : Type 0 where
  pub a : A
  pub b : A
  pub c : A
  pub d : A
  pub are : xs ≡ a ∷ b ∷ c ∷ d ∷ []

pub four_of : {A : Type 0} (xs : List A) → length xs ≡ 4 → IsFour xs
four_of [] e = absurd (omega arith)
four_of (a ∷ []) e = absurd (omega arith)
four_of (a ∷ b ∷ []) e = absurd (omega arith)
four_of (a ∷ b ∷ c ∷ []) e = absurd (omega arith)
four_of (a ∷ b ∷ c ∷ d ∷ []) e = record { a = a; b = b; c = c; d = d; are = refl }
four_of (a ∷ b ∷ c ∷ d ∷ x ∷ xs) e = absurd (omega arith)

-- lists of four by their items
pub four_same : {A : Type 0} (a b c d w x y z : A) → a ≡ w → b ≡ x → c ≡ y → d ≡ z
    → a ∷ b ∷ c ∷ d ∷ [] ≡ w ∷ x ∷ y ∷ z ∷ []
four_same a b c d w x y z e f g h = cc

-- handovers by their fields
pub fields_same : (h k : HandoverFields) → h.partial ≡ k.partial → h.bits ≡ k.bits → h.preds ≡ k.preds
    → h.restarts ≡ k.restarts → h ≡ k
fields_same h k e f g i =
    ap₂ (λ (p b : ℕ). record { partial = p; bits = b; preds = h.preds; restarts = h.restarts }) e f
    ∙ ap₂ (λ (q : List ℤ) (r : ℕ). record { partial = k.partial; bits = k.bits; preds = q; restarts = r }) g i

-- fourteen bytes: two, eight of the predictors, and four
pub record IsSplit (xs : List ℕ) : Type 0 where
  pub partial : ℕ
  pub bits : ℕ
  pub a : ℕ
  pub b : ℕ
  pub c : ℕ
  pub d : ℕ
  pub e : ℕ
  pub f : ℕ
  pub g : ℕ
  pub h : ℕ
  pub last : List ℕ
  pub four : length last ≡ 4
  pub are : xs ≡ partial ∷ bits ∷ a ∷ b ∷ c ∷ d ∷ e ∷ f ∷ g ∷ h ∷ last

split_more : (n : ℕ) (xs : List ℕ) → length xs ≡ suc n → (x : ℕ) × (rest : List ℕ) × (xs ≡ x ∷ rest) × (length rest ≡ n)
split_more n [] e = absurd (omega arith)
split_more n (x ∷ xs) e = (x, xs, refl, omega arith)

pub split_of : (xs : List ℕ) → length xs ≡ 14 → IsSplit xs
split_of xs e =
    let p = split_more 13 xs e in
    let q = split_more 12 p.1 p.3 in
    let a = split_more 11 q.1 q.3 in
    let b = split_more 10 a.1 a.3 in
    let c = split_more 9 b.1 b.3 in
    let d = split_more 8 c.1 c.3 in
    let f = split_more 7 d.1 d.3 in
    let g = split_more 6 f.1 f.3 in
    let h = split_more 5 g.1 g.3 in
    let i = split_more 4 h.1 h.3 in
    record {
      partial = p.0;
      bits = q.0;
      a = a.0;
      b = b.0;
      c = c.0;
      d = d.0;
      e = f.0;
      f = g.0;
      g = h.0;
      h = i.0;
      last = i.1;
      four = i.3;
      are = p.2 ∙ ap (λ (l : List ℕ). p.0 ∷ l) (q.2 ∙ ap (λ (l : List ℕ). q.0 ∷ l) (a.2 ∙ ap (λ (l : List ℕ). a.0 ∷ l) (b.2 ∙ ap (λ (l : List ℕ). b.0 ∷ l) (c.2 ∙ ap (λ (l : List ℕ). c.0 ∷ l) (d.2 ∙ ap (λ (l : List ℕ). d.0 ∷ l) (f.2 ∙ ap (λ (l : List ℕ). f.0 ∷ l) (g.2 ∙ ap (λ (l : List ℕ). g.0 ∷ l) (h.2 ∙ ap (λ (l : List ℕ). h.0 ∷ l) i.2))))))));
    }

-- ---- numbers in bytes

two_again : (a b : ℕ) → a < 256 → b < 256 → big_bytes 2 (a * 256 + (b * 1 + 0)) ≡ a ∷ b ∷ []
two_again a b k l =
    let high : (a * 256 + (b * 1 + 0)) / 256 % 256 ≡ a = omega arith in
    let low : (a * 256 + (b * 1 + 0)) % 256 ≡ b = omega arith in
    ap₂ (λ (x y : ℕ). x ∷ y ∷ []) high low

pub pair_again : (a b : ℕ) → a < 256 → b < 256
    → big_bytes 2 (cast_unsigned w16 (cast_signed w16 (a * 256 + (b * 1 + 0)))) ≡ a ∷ b ∷ []
pair_again a b k l =
    let small : a * 256 + (b * 1 + 0) < 2 ^ 16 = omega arith in
    ap (big_bytes 2) (of_z-to_z w16 (a * 256 + (b * 1 + 0)) small) ∙ two_again a b k l

four_again : (a b c d : ℕ) → a < 256 → b < 256 → c < 256 → d < 256
    → big_bytes 4 (a * 16777216 + (b * 65536 + (c * 256 + (d * 1 + 0)))) ≡ a ∷ b ∷ c ∷ d ∷ []
four_again a b c d i j k l =
    let n : ℕ = a * 16777216 + (b * 65536 + (c * 256 + (d * 1 + 0))) in
    let one : (a * 16777216 + (b * 65536 + (c * 256 + (d * 1 + 0)))) / 16777216 % 256 ≡ a = omega arith in
    let two : (a * 16777216 + (b * 65536 + (c * 256 + (d * 1 + 0)))) / 65536 % 256 ≡ b = omega arith in
    let three : (a * 16777216 + (b * 65536 + (c * 256 + (d * 1 + 0)))) / 256 % 256 ≡ c = omega arith in
    let low : (a * 16777216 + (b * 65536 + (c * 256 + (d * 1 + 0)))) % 256 ≡ d = omega arith in
    rw (one, two, three, low)

two_digits : (n : ℕ) → n < 65536 → n / 256 % 256 * 256 + (n % 256 * 1 + 0) ≡ n
two_digits n small = omega arith

pub dc_again : (z : ℤ) → IsDc z
    → cast_signed w16 (cast_unsigned w16 z / 256 % 256 * 256 + (cast_unsigned w16 z % 256 * 1 + 0)) ≡ z
dc_again z small =
    let fits : FitsSigned w16 z = fits_signed_from_abs w16 z (omega arith) in
    let below : cast_unsigned w16 z < 65536 = (Fits-of_z fits).fits in
    ap (cast_signed w16) (two_digits (cast_unsigned w16 z) below) ∙ to_z-of_z w16 z fits

word_again : (n : ℕ) → n < 2 ^ 32
    → n / 16777216 % 256 * 16777216 + (n / 65536 % 256 * 65536 + (n / 256 % 256 * 256 + (n % 256 * 1 + 0))) ≡ n
word_again n small = omega arith

-- ---- fields from bytes, and back

-- whatever list of four bytes
pub last_again : (last : List ℕ) → length last ≡ 4 → AllByRecursion (λ byte. byte < 256) last
    → big_bytes 4 (big_number 4 last) ≡ last
last_again last long small =
    let four = four_of last long in
    let P : List ℕ → Type 0 = λ l. AllByRecursion (λ byte. byte < 256) l → big_bytes 4 (big_number 4 l) ≡ l in
    subst P (sym four.are) (λ k. four_again four.a four.b four.c four.d k.0 k.1.0 k.1.1.0 k.1.1.1.0) small

fields_again_in : (h : HandoverFields) → (four : IsFour h.preds) → IsHandover h
    → (length (handover_bytes h) ≡ 14) × (handover_in (handover_bytes h) ≡ h)
unfolding handover_bytes handover_in
fields_again_in h four is =
    let r : All IsDc (four.a ∷ four.b ∷ four.c ∷ four.d ∷ []) = subst (All IsDc) four.are is.range in
    let k = recursion_from_All IsDc (four.a ∷ four.b ∷ four.c ∷ four.d ∷ []) r in
    let w = word_again h.restarts is.count in
    rw four.are (
      refl,
      fields_same _ (record { partial = h.partial; bits = h.bits; preds = four.a ∷ four.b ∷ four.c ∷ four.d ∷ []; restarts = h.restarts }) refl refl
          (four_same _ _ _ _ four.a four.b four.c four.d (dc_again four.a k.0) (dc_again four.b k.1.0) (dc_again four.c k.1.1.0) (dc_again four.d k.1.1.1.0))
          w,
    )

pub fields_again : FieldsAreReadAgain
fields_again h is = fields_again_in h (four_of h.preds is.four) is

joined : (p q : ℕ) (a b c d e v w x y z : List ℕ) → a ≡ v → b ≡ w → c ≡ x → d ≡ y → e ≡ z
    → p ∷ q ∷ (a ++ b ++ c ++ d ++ []) ++ e ≡ p ∷ q ∷ (v ++ w ++ x ++ y ++ []) ++ z
joined p q a b c d e v w x y z f g h i j = cc

bytes_again_in : (bytes : List ℕ) → (s : IsSplit bytes) → AllByRecursion (λ byte. byte < 256) bytes
    → handover_bytes (handover_in bytes) ≡ bytes
unfolding handover_bytes handover_in
bytes_again_in bytes s small =
    let P : List ℕ → Type 0 = λ l. AllByRecursion (λ byte. byte < 256) l in
    let k : P (s.partial ∷ s.bits ∷ s.a ∷ s.b ∷ s.c ∷ s.d ∷ s.e ∷ s.f ∷ s.g ∷ s.h ∷ s.last) = subst P s.are small in
    let m = k.1.1 in
    let one = pair_again s.a s.b m.0 m.1.0 in
    let two = pair_again s.c s.d m.1.1.0 m.1.1.1.0 in
    let three = pair_again s.e s.f m.1.1.1.1.0 m.1.1.1.1.1.0 in
    let four = pair_again s.g s.h m.1.1.1.1.1.1.0 m.1.1.1.1.1.1.1.0 in
    let last = last_again s.last s.four m.1.1.1.1.1.1.1.1 in
    rw s.are (joined s.partial s.bits _ _ _ _ _ (s.a ∷ s.b ∷ []) (s.c ∷ s.d ∷ []) (s.e ∷ s.f ∷ []) (s.g ∷ s.h ∷ []) s.last one two three four last)

pub bytes_again : BytesAreSpelledAgain
bytes_again bytes long small = bytes_again_in bytes (split_of bytes long) small

pub all_of : (xs : List ℕ) → ((i : ℕ) → get_or xs i 0 < 256) → AllByRecursion (λ byte. byte < 256) xs
all_of [] f = tt
all_of (x ∷ xs) f = (f 0, all_of xs (λ i. f (suc i)))

-- four numbers in the halves of eight bytes
pub predictors_of : (mid : List ℕ) (dst : List ℤ) → length dst ≡ 4
    → ((d : ℤ) (k : ℕ) → k < length dst → get_or dst k d ≡ cast_signed w16 (big_number 2 (drop (2 * k) mid)))
    → dst ≡ map (λ k. cast_signed w16 (big_number 2 (drop (2 * k) mid))) (0 ∷ 1 ∷ 2 ∷ 3 ∷ [])
predictors_of mid dst long each =
    let four = four_of dst long in
    let at : (d : ℤ) (k : ℕ) → k < 4 → get_or (four.a ∷ four.b ∷ four.c ∷ four.d ∷ []) k d
    ≡ cast_signed w16 (big_number 2 (drop (2 * k) mid)) =
    λ d k h. subst (λ (l : List ℤ). get_or l k d ≡ cast_signed w16 (big_number 2 (drop (2 * k) mid))) four.are (each d k (omega arith)) in
    four.are ∙ four_same four.a four.b four.c four.d _ _ _ _ (at (pos 0) 0 (omega arith)) (at (pos 0) 1 (omega arith))
    (at (pos 0) 2 (omega arith)) (at (pos 0) 3 (omega arith))

dcs_pass : (xs : List ℤ) → AllByRecursion IsDc xs → list_all (λ dc. nat_le (unsigned_abs dc) most_dc) xs ≡ true
dcs_pass [] h = refl
dcs_pass (x ∷ xs) h = rw (le-leb (unsigned_abs x) most_dc h.0) (dcs_pass xs h.1)

pub test_is_exact : TestIsExact
test_is_exact h is =
    rw (le-leb h.bits 7 is.few, eq-eqb (h.partial % 2 ^ (8 - h.bits)) 0 is.blank) (dcs_pass h.preds (recursion_from_All IsDc h.preds is.range))
