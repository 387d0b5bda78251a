-- The pad bit that an MCU tells is that of its interval.
use Rattle.std.proofs.Common.{◌≡◌, ℕ, suc, ◌+◌, Bool, true, false, ◌==◌, ◌||◌, if◌then◌else◌, List, [], ◌∷◌, ◌++◌, ℤ, Option, None, Ok, refl, sym, ap, ◌∙◌, subst}
use Rattle.std.specs.Prelude.{unwrap_or}
use Rattle.scan_spec.specs.Slots.{Shape}
use Rattle.scan_spec.specs.Scans.{ends_interval}
use Rattle.scan_spec.specs.Spots.{interval_number}
use Rattle.scan_spec.specs.ScanReading.{BlocksRead, Standing, mcu_at}
use Rattle.scan_spec.specs.ScanPads.{pad_told, pads_told}
use Rattle.scan_spec.proofs.BitsTaken.{is_fine}
use Rattle.scan_spec.proofs.Intervals.{Agrees}
use Rattle.scan_spec.proofs.PadsTold.{Follows, pads_more, no_pads_told, told_by}
use Rattle.scan_spec.proofs.PutWhole.{number_next_of, number_same_of}
use Rattle.scan_spec.proofs.ScanTaken.{on_standing, end_by, end_taken, marker_taken, mcu_fine, agrees_known}

-- an MCU more is counted; where it ends no interval, no pad bit is known
record IsCounted (closed : Bool) (s next : Standing) : Type 0 where
  count : next.count ≡ s.count + 1
  known : closed ≡ false → next.pad ≡ None

counted_by : (over ends : Bool) (shape : Shape) (bytes : List ℕ) (s next : Standing)
    (read : BlocksRead) → end_by over ends shape bytes s read ≡ Ok next
    → IsCounted (over || ends) s next
counted_by true ends shape bytes s next read e =
    let t = end_taken ends shape bytes s next read (unwrap_or next.pad true) e
    (agrees_known next.pad (unwrap_or next.pad true) refl) in
    record { count = ap (λ (g : Standing). g.count) t.is; known = λ goes_on. absurd (cc) }
counted_by false true shape bytes s next read e =
    let t = marker_taken shape bytes s next read e in
    record { count = ap (λ (g : Standing). g.count) t.is; known = λ goes_on. absurd (cc) }
counted_by false false shape bytes s next read e =
    let is = is_fine (on_standing read.cursor read.before s.count) next e in
    record {
      count = sym (ap (λ (g : Standing). g.count) is);
      known = λ goes_on. sym (ap (λ (g : Standing). g.pad) is);
    }

-- the pad bit of its interval, and those that follow
pub record IsFollowed (shape : Shape) (bytes : List ℕ) (pads : ℕ → Bool) (s next : Standing)
    (n : ℕ) : Type 0 where
  pub agrees : Agrees next.pad (pads (interval_number shape s.count))
  pub follows : Follows pads (interval_number shape next.count) (pads_told n shape bytes next)
  pub count : next.count ≡ s.count + 1

followed_by : (over ends : Bool) (shape : Shape) (bytes : List ℕ) (pads : ℕ → Bool)
    (s next : Standing) (first : List (List ℤ)) (n : ℕ)
    → (s.count + 1 == shape.mcus) ≡ over → ends_interval shape.interval (s.count + 1) ≡ ends
    → IsCounted (over || ends) s next
    → mcu_at shape bytes s ≡ Ok (first, next) → (over ≡ true → n ≡ 0)
    → Follows pads (interval_number shape s.count) (pads_told (suc n) shape bytes s)
    → IsFollowed shape bytes pads s next n
followed_by true ends shape bytes pads s next first n is closes counted e last follows =
    let i = interval_number shape s.count in
    let tells = told_by true ends shape next (s.count + 1) counted.count is closes in
    let go = subst (λ (l : List Bool). Follows pads i l)
    (pads_more n shape bytes s next first e
    ∙ ap (λ (l : List Bool). l ++ pads_told n shape bytes next) tells) follows in
    let none : pads_told n shape bytes next ≡ [] =
    ap (λ (k : ℕ). pads_told k shape bytes next) (last refl) ∙ no_pads_told shape bytes next in
    record {
      agrees = agrees_known next.pad (pads i) go.0;
      follows = subst (λ (l : List Bool). Follows pads (interval_number shape next.count) l)
          (sym none) tt;
      count = counted.count;
    }
followed_by false true shape bytes pads s next first n is closes counted e last follows =
    let i = interval_number shape s.count in
    let tells = told_by false true shape next (s.count + 1) counted.count is closes in
    let go = subst (λ (l : List Bool). Follows pads i l)
    (pads_more n shape bytes s next first e
    ∙ ap (λ (l : List Bool). l ++ pads_told n shape bytes next) tells) follows in
    let number : i + 1 ≡ interval_number shape next.count =
    sym (number_next_of (shape.interval == 0) shape.interval s.count refl closes)
    ∙ ap (interval_number shape) (sym counted.count) in
    record {
      agrees = agrees_known next.pad (pads i) go.0;
      follows = subst (λ (k : ℕ). Follows pads k (pads_told n shape bytes next)) number go.1;
      count = counted.count;
    }
followed_by false false shape bytes pads s next first n is closes counted e last follows =
    let i = interval_number shape s.count in
    let tells = told_by false false shape next (s.count + 1) counted.count is closes in
    let go = subst (λ (l : List Bool). Follows pads i l)
    (pads_more n shape bytes s next first e
    ∙ ap (λ (l : List Bool). l ++ pads_told n shape bytes next) tells) follows in
    let number : i ≡ interval_number shape next.count =
    sym (number_same_of (shape.interval == 0) shape.interval s.count refl closes)
    ∙ ap (interval_number shape) (sym counted.count) in
    record {
      agrees = subst (λ (o : Option Bool). Agrees o (pads i)) (sym (counted.known refl)) tt;
      follows = subst (λ (k : ℕ). Follows pads k (pads_told n shape bytes next)) number go;
      count = counted.count;
    }

pub followed : (shape : Shape) (bytes : List ℕ) (pads : ℕ → Bool) (s next : Standing)
    (first : List (List ℤ)) (n : ℕ) → mcu_at shape bytes s ≡ Ok (first, next)
    → ((s.count + 1 == shape.mcus) ≡ true → n ≡ 0)
    → Follows pads (interval_number shape s.count) (pads_told (suc n) shape bytes s)
    → IsFollowed shape bytes pads s next n
followed shape bytes pads s next first n e last follows =
    let one = mcu_fine shape bytes s (first, next) e in
    let over = s.count + 1 == shape.mcus in
    let ends = ends_interval shape.interval (s.count + 1) in
    followed_by over ends shape bytes pads s next first n refl refl
    (counted_by over ends shape bytes s next one.read one.after) e last follows

-- what is told after `count` MCUs
abbrev told_with : Shape → ℕ → Option Bool → List Bool
told_with shape count pad =
    if (count == shape.mcus) || ends_interval shape.interval count
    then unwrap_or pad true ∷ []
    else []

-- an MCU tells by its count and pad bit alone
pub told_alike : (shape : Shape) (a b : Standing) → a.count ≡ b.count → a.pad ≡ b.pad
    → pad_told shape a ≡ pad_told shape b
told_alike shape a b count pad =
    ap (λ (n : ℕ). told_with shape n a.pad) count ∙ ap (told_with shape b.count) pad
