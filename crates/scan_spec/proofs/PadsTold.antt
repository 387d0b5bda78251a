-- The pad bits that are told, and what they come to, MCU by MCU.
use Rattle.std.proofs.Common.{◌≡◌, ℕ, suc, ◌+◌, Bool, true, ◌==◌, ◌||◌, if◌then◌else◌, List, [], ◌∷◌, ◌++◌, length, ℤ, Result, Ok, refl, ap, ap₂, ◌∙◌, subst, append_assoc, length-append}
use Rattle.std.specs.Prelude.{unwrap_or}
use Rattle.std.proofs.Math.Seq.{get_or-append_seam}
use Rattle.scan_spec.specs.Slots.{Shape}
use Rattle.scan_spec.specs.Scans.{ends_interval, pad_at}
use Rattle.handover.specs.PadSums.{no_pads, pads_with}
use Rattle.scan_spec.specs.ScanReading.{Standing, mcu_at}
use Rattle.scan_spec.specs.ScanPads.{pad_told, pads_after, pads_told, pad_sum, sum_ended, sum_after, sum_told}
use Rattle.scan_spec.specs.declared.refusal.ScanRefusal.{ScanRefusal}

-- bits from interval n on are these
abbrev pub Follows : (ℕ → Bool) → ℕ → List Bool → Type 0
Follows pads n [] = Unit {0}
Follows pads n (bit ∷ bits) = (pads n ≡ bit) × Follows pads (n + 1) bits

follows_from : (bits before : List Bool) → Follows (pad_at (before ++ bits)) (length before) bits
follows_from [] before = tt
follows_from (bit ∷ bits) before =
    let more = before ++ bit ∷ [] in
    let same : more ++ bits ≡ before ++ bit ∷ bits = append_assoc before (bit ∷ []) bits in
    let long : length more ≡ length before + 1 = length-append before (bit ∷ []) in
    let rest = subst (λ (n : ℕ). Follows (pad_at (more ++ bits)) n bits) long (follows_from bits more) in
    (get_or-append_seam before bit bits true, subst (λ (all : List Bool). Follows (pad_at all) (length before + 1) bits) same rest)

pub follows_all : (bits : List Bool) → Follows (pad_at bits) 0 bits
follows_all bits = follows_from bits []

-- an MCU and those after it
pub pads_more : (n : ℕ) (shape : Shape) (bytes : List ℕ) (s next : Standing) (first : List (List ℤ)) → mcu_at shape bytes s ≡ Ok (first, next)
    → pads_told (suc n) shape bytes s ≡ pad_told shape next ++ pads_told n shape bytes next
unfolding pads_told
pads_more n shape bytes s next first e = ap (λ (r : Result (List (List ℤ) × Standing) ScanRefusal). pads_after shape r (λ t. pads_told n shape bytes t)) e

pub no_pads_told : (shape : Shape) (bytes : List ℕ) (s : Standing) → pads_told 0 shape bytes s ≡ []
unfolding pads_told
no_pads_told shape bytes s = refl

-- what an MCU tells, by whether it ends an interval
pub told_by : (over ends : Bool) (shape : Shape) (next : Standing) (count : ℕ) → next.count ≡ count → (count == shape.mcus) ≡ over → ends_interval shape.interval count ≡ ends
    → pad_told shape next ≡ (if over || ends then unwrap_or next.pad true ∷ [] else [])
told_by over ends shape next count is o e =
    ap (λ (n : ℕ). if (n == shape.mcus) || ends_interval shape.interval n then unwrap_or next.pad true ∷ [] else []) is
    ∙ ap₂ (λ (a b : Bool). if a || b then unwrap_or next.pad true ∷ [] else []) o e

-- ---- what they come to

pub sums_more : (n : ℕ) (shape : Shape) (bytes : List ℕ) (s next : Standing) (first : List (List ℤ)) → mcu_at shape bytes s ≡ Ok (first, next)
    → sum_told (suc n) shape bytes s ≡ pads_with (sum_ended shape next) (sum_told n shape bytes next)
unfolding sum_told
sums_more n shape bytes s next first e = ap (λ (r : Result (List (List ℤ) × Standing) ScanRefusal). sum_after shape r (λ t. sum_told n shape bytes t)) e

pub no_sum_told : (shape : Shape) (bytes : List ℕ) (s : Standing) → sum_told 0 shape bytes s ≡ no_pads
unfolding sum_told
no_sum_told shape bytes s = refl

-- what an MCU adds, by whether it ends an interval
pub sum_by : (over ends : Bool) (shape : Shape) (next : Standing) (count : ℕ) → next.count ≡ count → (count == shape.mcus) ≡ over → ends_interval shape.interval count ≡ ends
    → sum_ended shape next ≡ (if over || ends then pad_sum next.pad else no_pads)
sum_by over ends shape next count is o e =
    ap (λ (n : ℕ). if (n == shape.mcus) || ends_interval shape.interval n then pad_sum next.pad else no_pads) is
    ∙ ap₂ (λ (a b : Bool). if a || b then pad_sum next.pad else no_pads) o e
