-- The bytes of a whole segment tell the segment, whatever follows it.
use Rattle.std.proofs.Common.{◌≡◌, ◌≢◌, ℕ, zero, suc, ◌+◌, ◌/◌, ◌%◌, true, false, List, ◌∷◌, ◌++◌, length, take, drop, replicate, None, add-one, add-zero, refl, ap, sym, ◌∙◌, arith, append_assoc, length-append, subst, eqb, IsTrue}
use Rattle.std.specs.Option.{option_or}
use Rattle.std.proofs.lemmas.List.{take_at, drop_at}
use Rattle.std.proofs.lemmas.Bool.{false≢true}
use Rattle.std.proofs.lemmas.Bool.Decides.{nat_tests}
use Rattle.jpeg_marker.specs.MarkerSegments.{Segment, IsWhole, segment_text, is_known}
use Rattle.jpeg_marker.specs.GoodSegments.{stuck_at, stuck_after, code_fault, length_fault}

not_fill : (code : ℕ) → IsTrue (is_known code) → code ≢ 255
not_fill code known is = false≢true (subst (λ (n : ℕ). is_known n ≡ true) is known)

-- bytes of 0xff tell how many they are by the first that isn't one
one_fill : (m n c d : ℕ) (x y : List ℕ) → c ≢ 255 → d ≢ 255 → replicate m 255 ++ c ∷ x ≡ replicate n 255 ++ d ∷ y → (m ≡ n) × (c ≡ d) × (x ≡ y)
one_fill zero zero c d x y p q e = (refl, cc, cc)
one_fill zero (suc n) c d x y p q e = absurd (p cc)
one_fill (suc m) zero c d x y p q e = absurd (q cc)
one_fill (suc m) (suc n) c d x y p q e = let r = one_fill m n c d x y p q cc in (ap suc r.0, r.1, r.2)

-- a text that ends with its length told
one_body : (body other x y : List ℕ) → length body ≡ length other → body ++ x ≡ other ++ y → (body ≡ other) × (x ≡ y)
one_body body other x y size e =
    (sym (take_at body x (length body) refl) ∙ ap (take (length body)) e ∙ take_at other y (length body) (sym size), sym (drop_at body x (length body) refl) ∙ ap (drop (length body)) e ∙ drop_at other y (length body) (sym size))

text_by_parts : (s : Segment) (x : List ℕ) → segment_text s ++ x ≡ replicate (suc s.fill) 255 ++ s.code ∷ (length s.body + 2) / 256 ∷ (length s.body + 2) % 256 ∷ (s.body ++ x)
text_by_parts s x = simp (append_assoc, add-one)

pub one_segment : (s t : Segment) (x y : List ℕ) → IsWhole s → IsWhole t → segment_text s ++ x ≡ segment_text t ++ y → (s ≡ t) × (x ≡ y)
one_segment s t x y p q e =
    let parts = one_fill (suc s.fill) (suc t.fill) s.code t.code _ _ (not_fill s.code p.known) (not_fill t.code q.known) (sym (text_by_parts s x) ∙ e ∙ text_by_parts t y) in
    let tails = parts.2 in
    let high : (length s.body + 2) / 256 ≡ (length t.body + 2) / 256 = cc in
    let low : (length s.body + 2) % 256 ≡ (length t.body + 2) % 256 = cc in
    let after : s.body ++ x ≡ t.body ++ y = cc in
    let size : length s.body ≡ length t.body = omega arith in
    let bodies = one_body s.body t.body x y size after in
    let fill : s.fill ≡ t.fill = omega (arith, parts.0) in
    (rw (fill, parts.1, bodies.0) refl, bodies.1)

-- nothing keeps a whole segment from standing anywhere
stuck_after-fill : (fill place code : ℕ) (bytes : List ℕ) → eqb code 255 ≡ false → stuck_after place (replicate fill 255 ++ code ∷ bytes) ≡ option_or (code_fault (place + fill) code) (length_fault (place + fill + 1) bytes)
stuck_after-fill zero place code bytes other = rw (other, add-zero) refl
stuck_after-fill (suc fill) place code bytes other = stuck_after-fill fill (place + 1) code bytes other ∙ ap (λ p. option_or (code_fault p code) (length_fault (p + 1) bytes)) (omega arith)

no_code_fault : (place code : ℕ) → IsTrue (is_known code) → code_fault place code ≡ None
no_code_fault place code known = grind (arith, nat_tests)

no_length_fault : (at : ℕ) (body after : List ℕ) → length_fault at ((length body + 2) / 256 ∷ (length body + 2) % 256 ∷ (body ++ after)) ≡ None
no_length_fault at body after = let size = length-append body after in grind (arith, nat_tests)

pub whole_not_stuck : (place : ℕ) (s : Segment) (after : List ℕ) → IsWhole s → stuck_at place (segment_text s ++ after) ≡ None
whole_not_stuck place s after whole =
    ap (stuck_at place) (text_by_parts s after)
    ∙ stuck_after-fill s.fill (place + 1) s.code _ (grind (arith, nat_tests, not_fill s.code whole.known))
    ∙ rw (no_code_fault (place + 1 + s.fill) s.code whole.known) (no_length_fault (place + 1 + s.fill + 1) s.body after)
