-- The frame of segments that passed their checks.
use Rattle.std.proofs.Common.{◌≡◌, ℕ, zero, suc, ◌+◌, ◌-◌, ◌*◌, ◌≤◌, Bool, true, false, List, [], ◌∷◌, ◌++◌, length, get_or, drop, flat_map, fold, Option, Some, None, IfSome, refl, ap, sym, ◌∙◌, arith, subst, cond, eqb, max}
use Rattle.std.specs.Option.{option_or}
use Rattle.std.specs.List.{AllByRecursion}
use Rattle.std.proofs.Math.Nat.{le-div_iff_mul-le, one-le-mul}
use Rattle.std.proofs.lemmas.List.{length-drop}
use Rattle.std.proofs.lemmas.Bool.{eqb-true}
use Rattle.std.proofs.lemmas.Bool.Decides.{nat_tests}
use Rattle.jpeg_marker.specs.declared.refusal.HeaderRefusal.{HeaderRefusal}
use Rattle.jpeg_marker.specs.declared.parameters.FrameComponent.{FrameComponent}
use Rattle.jpeg_marker.specs.MarkerSegments.{Segment, number_at, last_of}
use Rattle.jpeg_marker.specs.Frames.{FrameFields, IsFrame, no_part, parts_of, frame_at, frames_in, are_components, numbers_fault, components_fault, frame_fault}
use Rattle.jpeg_marker.specs.Plans.{IsWithin, largest, sampled, cover, mcus_of}
use Rattle.jpeg_marker.specs.Walks.{Walk}
use Rattle.jpeg_marker.specs.GoodSegments.{AreGoodAfter, length_place, body_fault, known_after}
use Rattle.jpeg_marker.specs.declared.definitions.Definitions.{Definitions}
use Rattle.jpeg_marker.specs.declared.scans.Scans.{Scans}
use Rattle.jpeg_marker.proofs.Walking.{known_after-append}

-- as many components as there are bytes for
parts_all : (n : ℕ) (bytes : List ℕ) → length bytes ≡ 3 * n → length (parts_of bytes) ≡ n
parts_all zero [] e = refl
parts_all zero (a ∷ bytes) e = absurd (omega arith)
parts_all (suc n) [] e = absurd (omega arith)
parts_all (suc n) (a ∷ []) e = absurd (omega arith)
parts_all (suc n) (a ∷ b ∷ []) e = absurd (omega arith)
parts_all (suc n) (a ∷ b ∷ c ∷ bytes) e = ap suc (parts_all n bytes (omega arith))

pub no_fault : (a b : Option HeaderRefusal) → option_or a b ≡ None → (a ≡ None) × (b ≡ None)
no_fault None b h = (refl, h)
no_fault (Some r) b h = cc

no_frame : (frame : Option FrameFields) (at : ℕ) (body : List ℕ) → frame_fault frame at body ≡ None → option_or (numbers_fault at body) (components_fault (parts_of (drop 6 body))) ≡ None
no_frame (Some f) at body h = cc
no_frame None at body h = h

are_good : (b : Bool) (r : HeaderRefusal) → cond b None (Some r) ≡ None → b ≡ true
are_good true r h = refl
are_good false r h = cc

-- the numbers that passed
record AreNumbers (body : List ℕ) : Type 0 where
  long : length body ≡ 6 + 3 * get_or body 5 0
  some : 1 ≤ get_or body 5 0
  few : get_or body 5 0 ≤ 4
  high : 1 ≤ number_at (drop 1 body)
  wide : 1 ≤ number_at (drop 3 body)

numbers_passed : (at : ℕ) (body : List ℕ) → numbers_fault at body ≡ None → AreNumbers body
numbers_passed at body none = record {
  long = grind (arith, nat_tests);
  some = grind (arith, nat_tests);
  few = grind (arith, nat_tests);
  high = grind (arith, nat_tests);
  wide = grind (arith, nat_tests);
}

frame_here : (frame : Option FrameFields) (at : ℕ) (body : List ℕ) → frame_fault frame at body ≡ None → IsFrame (frame_at body)
frame_here frame at body none =
    let parts = no_fault (numbers_fault at body) _ (no_frame frame at body none) in
    let numbers = numbers_passed at body parts.0 in
    let long = numbers.long in
    let all = parts_all (get_or body 5 0) (drop 6 body) (omega (arith, length-drop 6 body)) in
    record {
      some = omega (arith, all, numbers.some);
      few = omega (arith, all, numbers.few);
      components = are_good (are_components (parts_of (drop 6 body))) _ parts.1;
      high = numbers.high;
      wide = numbers.wide;
    }

frame_checked : (scans : Scans) (known : Definitions) (at code : ℕ) (body : List ℕ) → code ≡ 192 → body_fault scans known at code body ≡ None → frame_fault known.frame at body ≡ None
frame_checked scans known at code body is none = subst (λ (n : ℕ). body_fault scans known at n body ≡ None) is none

where_so : (b : Bool) (f : FrameFields) → (b ≡ true → IsFrame f) → AllByRecursion IsFrame (cond b (f ∷ []) [])
where_so true f h = (h refl, tt)
where_so false f h = tt

all-append : (xs ys : List FrameFields) → AllByRecursion IsFrame xs → AllByRecursion IsFrame ys → AllByRecursion IsFrame (xs ++ ys)
all-append [] ys p q = q
all-append (x ∷ xs) ys p q = (p.0, all-append xs ys p.1 q)

frames_are : (w : Walk) (before segments : List Segment) → AreGoodAfter w before segments → AllByRecursion IsFrame (flat_map frames_in segments)
frames_are w before [] good = tt
frames_are w before (s ∷ segments) good =
    all-append (frames_in s) (flat_map frames_in segments) (where_so (eqb s.code 192) (frame_at s.body) (λ is. frame_here (known_after w.known before).frame (length_place w before s) s.body (frame_checked w.scans (known_after w.known before) (length_place w before s) s.code s.body (eqb-true s.code 192 is) good.0.checked))) (frames_are w (before ++ s ∷ []) segments good.1)

last_is : (frames : List FrameFields) (found : Option FrameFields) → AllByRecursion IsFrame frames → IfSome found IsFrame → IfSome (last_of found frames) IsFrame
last_is [] found all here = here
last_is (g ∷ frames) found all here = last_is frames (Some g) all.1 all.0

-- the frame of a header
pub frame_passed : (w : Walk) (segments : List Segment) → AreGoodAfter w [] segments → IfSome w.known.frame IsFrame → IfSome (known_after w.known segments).frame IsFrame
frame_passed w segments good known = last_is (flat_map frames_in segments) w.known.frame (frames_are w [] segments good) known

no_second : (b : Bool) (at : ℕ) (s : Segment) (frame : Option FrameFields) (f : FrameFields) → frame ≡ Some f → (b ≡ true → frame_fault frame at s.body ≡ None) → cond b (frame_at s.body ∷ []) [] ≡ []
no_second true at s frame f is h = let none = h refl in let twice = ap (λ g. frame_fault g at s.body) is in cc
no_second false at s frame f is h = refl

none_then : (xs ys : List FrameFields) → xs ≡ [] → ys ≡ [] → xs ++ ys ≡ []
none_then xs ys a b = rw (a, b) refl

-- after a frame there is no other
frames_stay : (w : Walk) (before segments : List Segment) (f : FrameFields) → (known_after w.known before).frame ≡ Some f → AreGoodAfter w before segments → flat_map frames_in segments ≡ []
frames_stay w before [] f here good = refl
frames_stay w before (s ∷ segments) f here good =
    let none : frames_in s ≡ [] = no_second (eqb s.code 192) (length_place w before s) s (known_after w.known before).frame f here (λ is. frame_checked w.scans (known_after w.known before) (length_place w before s) s.code s.body (eqb-true s.code 192 is) good.0.checked) in
    let stays : (known_after w.known (before ++ s ∷ [])).frame ≡ Some f =
    ap (λ (known : Definitions). known.frame) (sym (known_after-append w.known before (s ∷ []))) ∙ ap (λ frames. last_of (known_after w.known before).frame (frames ++ [])) none ∙ here in
    none_then (frames_in s) (flat_map frames_in segments) none (frames_stay w (before ++ s ∷ []) segments f stays good.1)

pub frame_stays : (w : Walk) (segments : List Segment) (f : FrameFields) → w.known.frame ≡ Some f → AreGoodAfter w [] segments → (known_after w.known segments).frame ≡ w.known.frame
frame_stays w segments f here good = ap (last_of w.known.frame) (frames_stay w [] segments f here good)

largest_from : (factor : FrameComponent → ℕ) (parts : List FrameComponent) (most : ℕ) → 1 ≤ most → 1 ≤ fold (λ m p. max m (factor p)) most parts
largest_from factor [] most some = some
largest_from factor (p ∷ parts) most some = largest_from factor parts (max most (factor p)) (omega arith)

cover_one : (samples blocks : ℕ) → 1 ≤ samples → 1 ≤ blocks → 1 ≤ cover samples blocks
cover_one samples blocks some wide = (le-div_iff_mul-le {k = 8 * blocks} {x = 1} {y = samples + (8 * blocks - 1)} (omega arith)).1 (omega arith)

sampled_one : (samples factor most : ℕ) → 1 ≤ samples → 1 ≤ factor → 1 ≤ most → 1 ≤ sampled samples factor most
sampled_one samples factor most some wide more =
    let product = one-le-mul some wide in
    (le-div_iff_mul-le {k = most} {x = 1} {y = samples * factor + (most - 1)} (omega arith)).1 (omega arith)

one_of : (b : Bool) (x y : ℕ) → (b ≡ true → 1 ≤ x) → 1 ≤ y → 1 ≤ cond b x y
one_of true x y f some = f refl
one_of false x y f some = some

-- an MCU at least in each direction
pub mcus_some : (factor : FrameComponent → ℕ) (samples : ℕ) (parts scan : List FrameComponent) → 1 ≤ samples → (length scan ≡ 1 → 1 ≤ factor (get_or scan 0 no_part)) → 1 ≤ mcus_of factor samples parts scan
mcus_some factor samples parts scan some first =
    let most = largest_from factor parts 1 (omega arith) in
    one_of (eqb (length scan) 1) _ _ (λ one. cover_one (sampled samples (factor (get_or scan 0 no_part)) (largest factor parts)) 1 (sampled_one samples (factor (get_or scan 0 no_part)) (largest factor parts) some (first (eqb-true (length scan) 1 one)) most) (omega arith)) (cover_one samples (largest factor parts) some most)

-- the first of some of a frame's components has factors
pub first_within : (parts scan : List FrameComponent) → AllByRecursion (IsWithin parts) scan → length scan ≡ 1 → IsWithin parts (get_or scan 0 no_part)
first_within parts [] all one = absurd (omega arith)
first_within parts (p ∷ scan) all one = all.0
