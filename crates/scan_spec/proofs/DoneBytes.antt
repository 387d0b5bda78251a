-- What the first MCUs of a scan complete.
use Rattle.std.proofs.Common.{◌≡◌, ℕ, ◌+◌, ◌≤◌, Bool, List, ◌++◌, length, take, drop, take-add, Ok, Err, refl, sym, ap, ◌∙◌, arith}
use Rattle.std.proofs.lemmas.List.{take-append-drop, take_all, take_at, drop_at, length-take}
use Rattle.scan_spec.specs.Slots.{Shape}
use Rattle.scan_spec.specs.Scans.{Mcu, AreMcus, scan_bytes}
use Rattle.scan_spec.specs.Spots.{Spot, Put, first_spot, prefixed_put, then_put, mcus_put, put_first, count_in, spot_in, bytes_done}
use Rattle.scan_spec.specs.ScanLaws.{IsShape, bytes_in, IsDoneWhole, IsDoneInParts, IsDoneInOrder}
use Rattle.scan_spec.proofs.Parts.{put_in_parts}
use Rattle.scan_spec.proofs.PutWhole.{put_whole}

-- bytes that were put one after the other
record AreParts (p : Put) (more : Spot → Put) (all : List ℕ) : Type 0 where
  first : p ≡ Ok (take (count_in p) all, spot_in p)
  rest : bytes_in (more (spot_in p)) ≡ Ok (drop (count_in p) all)

first_made : (made : List ℕ × Spot) (q : Put) (all : List ℕ) → bytes_in (prefixed_put made.0 q) ≡ Ok all → (made.0 ≡ take (length made.0) all) × (bytes_in q ≡ Ok (drop (length made.0) all))
first_made made (Ok more) all e =
    let text : all ≡ made.0 ++ more.0 = cc in
    (sym (ap (take (length made.0)) text ∙ take_at made.0 more.0 (length made.0) refl), ap (λ (xs : List ℕ). Ok xs) (sym (ap (drop (length made.0)) text ∙ drop_at made.0 more.0 (length made.0) refl)))
first_made made (Err stop) all e = cc

parts_of : (p : Put) (more : Spot → Put) (all : List ℕ) → bytes_in (then_put p more) ≡ Ok all → AreParts p more all
parts_of (Ok made) more all e =
    let parts = first_made made (more made.1) all e in
    record { first = ap (λ (xs : List ℕ). Ok (xs, made.1)) parts.0; rest = parts.1 }
parts_of (Err stop) more all e = cc

-- parts of a scan
parts_at : (shape : Shape) (pads : ℕ → Bool) (mcus : List Mcu) (scan : List ℕ) (n : ℕ) → IsShape shape → AreMcus shape mcus → scan_bytes shape pads mcus ≡ Ok scan
    → AreParts (put_first shape pads mcus n) (λ next. mcus_put shape pads next (drop n mcus)) scan
parts_at shape pads mcus scan n is are whole =
    parts_of (put_first shape pads mcus n) (λ next. mcus_put shape pads next (drop n mcus)) scan
    (ap bytes_in (sym (put_in_parts shape pads (take n mcus) (drop n mcus) first_spot) ∙ ap (mcus_put shape pads first_spot) (take-append-drop n mcus)) ∙ put_whole shape pads mcus is are ∙ whole)

pub done_in_parts : IsDoneInParts
done_in_parts shape pads mcus scan n is are whole =
    let parts = parts_at shape pads mcus scan n is are whole in (parts.first, parts.rest)

count_is : (p : Put) (all : List ℕ) → bytes_in p ≡ Ok all → count_in p ≡ length all
count_is (Ok made) all e = let same : made.0 ≡ all = cc in ap length same
count_is (Err stop) all e = cc

pub done_whole : IsDoneWhole
done_whole shape pads mcus scan is are whole =
    count_is (put_first shape pads mcus (length mcus)) scan (ap (λ (xs : List Mcu). bytes_in (mcus_put shape pads first_spot xs)) (take_all (length mcus) mcus (omega arith)) ∙ put_whole shape pads mcus is are ∙ whole)

fewer : (p : Put) (more : Spot → Put) (all : List ℕ) → AreParts p more all → count_in p ≤ length all
fewer p more all parts = omega (arith, ap count_in parts.first, length-take (count_in p) all)

pub done_in_order : IsDoneInOrder
done_in_order shape pads mcus scan n more is are whole =
    let later = parts_at shape pads mcus scan (n + more) is are whole in
    let all = take (bytes_done shape pads mcus (n + more)) scan in
    let split = sym (put_in_parts shape pads (take n mcus) (take more (drop n mcus)) first_spot) ∙ ap (mcus_put shape pads first_spot) (sym (take-add n more mcus)) in
    let parts = parts_of (put_first shape pads mcus n) (λ next. mcus_put shape pads next (take more (drop n mcus))) all (ap bytes_in (split ∙ later.first)) in
    omega (arith, fewer (put_first shape pads mcus n) (λ next. mcus_put shape pads next (take more (drop n mcus))) all parts, length-take (bytes_done shape pads mcus (n + more)) scan)
