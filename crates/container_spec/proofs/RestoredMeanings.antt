-- The first segment starts from zeros; and what a meaning says that is restored.
use Rattle.std.proofs.Common.{◌≡◌, ℕ, ◌<◌, Bool, true, false, if◌then◌else◌, List, [], ◌∷◌, ◌++◌, length, get_or, Option, Some, None, refl, sym, ap, subst, ◌∙◌, ℤ, pos, unsigned_abs}
use Rattle.std.specs.Prelude.{not, ◌&&◌, ◌||◌, ◌==◌}
use Rattle.std.specs.List.{AllByRecursion, list_all}
use Rattle.std.proofs.lemmas.Bool.{and_parts, eqb-true}
use Rattle.scan_spec.specs.Pads.{is_spelled}
use Rattle.scan_spec.specs.Slots.{Shape}
use Rattle.handover.specs.Handovers.{HandoverFields, IsHandover, start}
use Rattle.handover.specs.HandoverBytes.{is_handover}
use Rattle.handover.proofs.FieldBytes.{IsFour, four_of, four_same, fields_same}
use Rattle.block_spec.proofs.CategoryBits.{zero_abs}
use Rattle.cut_spec.specs.Cuts.{Cut, first_mcu}
use Rattle.cut_spec.specs.RowHandovers.{markers_before}
use Rattle.box_format.specs.Parts.{BoxParts, is_unused_zero, is_start, can_start, bad_start}
use Rattle.container_spec.proofs.JoinedSegments.{Joined}
use Rattle.container_spec.specs.Meanings.{Meaning, Restored, PadSpelled}

-- ---- the first handover

zeros_are : (xs : List ℤ) → list_all (λ dc. unsigned_abs dc == 0) xs ≡ true
    → AllByRecursion (λ dc. dc ≡ pos 0) xs
zeros_are [] h = tt
zeros_are (x ∷ xs) h =
    let parts = and_parts (unsigned_abs x == 0) (list_all (λ dc. unsigned_abs dc == 0) xs) h in
    (zero_abs x (eqb-true (unsigned_abs x) 0 parts.0), zeros_are xs parts.1)

four_zeros : (xs : List ℤ) → IsFour xs → AllByRecursion (λ dc. dc ≡ pos 0) xs → xs ≡ start.preds
four_zeros xs four all =
    let each = subst (AllByRecursion (λ dc. dc ≡ pos 0)) four.are all in
    four.are ∙ four_same four.a four.b four.c four.d _ _ _ _ each.0 each.1.0 each.1.1.0 each.1.1.1.0

start_is : (h : HandoverFields) → length h.preds ≡ 4 → is_start h ≡ true → h ≡ start
start_is h four t =
    let dcs = list_all (λ dc. unsigned_abs dc == 0) h.preds in
    let a = and_parts (h.partial == 0) (h.bits == 0 && (h.restarts == 0 && dcs)) t in
    let b = and_parts (h.bits == 0) (h.restarts == 0 && dcs) a.1 in
    let c = and_parts (h.restarts == 0) dcs b.1 in
    fields_same h start (eqb-true h.partial 0 a.0) (eqb-true h.bits 0 b.0)
    (four_zeros h.preds (four_of h.preds four) (zeros_are h.preds c.1)) (eqb-true h.restarts 0 c.0)

not_bad : (t : Bool) (rest : Option ℕ) (i : ℕ) → (if t then rest else Some i) ≡ None → t ≡ true
not_bad true rest i e = refl
not_bad false rest i e = absurd (cc)

fourth : (a b c d : Bool) → a && (b && (c && d)) ≡ true → d ≡ true
fourth a b c d h = (and_parts c d (and_parts b (c && d) (and_parts a (b && (c && d)) h).1).1).1

or_second : (t : Bool) (n : ℕ) → n ≡ 0 → not (n == 0) || t ≡ true → t ≡ true
or_second t n e h = ap (λ m. not (m == 0) || t) (sym e) ∙ h

pub first_start : (shape : Shape) (cut : Cut) (hs : List HandoverFields) → 0 < length hs
    → AllByRecursion IsHandover hs → first_mcu cut 0 ≡ 0 → bad_start shape cut 0 hs ≡ None
    → get_or hs 0 start ≡ start
first_start shape cut [] some each none starts = refl
first_start shape cut (h ∷ hs) some each none starts =
    let can = not_bad (can_start shape (first_mcu cut 0) h) (bad_start shape cut 1 hs) 0 starts in
    let last = fourth (is_handover h) (list_all (is_unused_zero shape h) (0 ∷ 1 ∷ 2 ∷ 3 ∷ []))
    (h.restarts == markers_before shape (first_mcu cut 0))
    (not (first_mcu cut 0 == 0) || is_start h) can in
    start_is h each.0.four (or_second (is_start h) (first_mcu cut 0) none last)

-- ---- a meaning that is restored

abbrev pub restored : List ℕ → Meaning
restored file = record { bytes = file; verdict = Restored }

pub record IsRestored (b : BoxParts) (all : Joined) (file : List ℕ) : Type 0 where
  pub none : all.fault ≡ None
  pub text : file ≡ (b.header ++ all.bytes) ++ b.trailer
  pub told : is_spelled b.pads all.padded ≡ true

pub pad_told : (t : Bool) → Restored ≡ (if t then Restored else PadSpelled) → t ≡ true
pad_told true e = refl
pad_told false e = absurd (let f : Restored ≡ PadSpelled = e in cc)
