-- After the last MCU of an interval.
use Rattle.std.proofs.Common.{◌≡◌, ◌≢◌, ℕ, ◌+◌, Bool, true, false, ◌==◌, if◌then◌else◌, List, [], length, Option, Some, None, Result, Ok, Err, sym, ap, ap₂, ◌∙◌, arith}
use Rattle.std.proofs.lemmas.Bool.Decides.{nat_tests}
use Rattle.bit_list.specs.Bits.{low_bits, number_of}
use Rattle.bit_list.specs.Units.{Cursor, starting}
use Rattle.bit_list.proofs.LowBits.{bits_again}
use Rattle.scan_spec.specs.Slots.{Shape}
use Rattle.scan_spec.specs.Spots.{interval_number}
use Rattle.scan_spec.specs.Scans.{no_dcs}
use Rattle.scan_spec.specs.ScanReading.{and_then, padded_or, pads_at, after_pads, Standing}
use Rattle.scan_spec.specs.ScanSymbols.{pad_of, restart_at}
use Rattle.scan_spec.specs.declared.refusal.ScanRefusal.{ScanRefusal}
use Rattle.scan_spec.specs.declared.refusal.ScanRefusal.TheVariants as refusals

abbrev pub Next : Type 0
Next = Result Standing ScanRefusal

of_left : (left : List Bool) (count number : ℕ) (r : Option (Option Bool)) → count ≡ length left → number ≡ number_of left → r ≡ pad_of (Some None) (low_bits count number) → r ≡ pad_of (Some None) left
of_left left count number r is spelled e = e ∙ ap (pad_of (Some None)) (ap₂ (λ (k n : ℕ). low_bits k n) is spelled ∙ bits_again left)

after : Shape → List ℕ → ℕ → Cursor → Option (Option Bool) → Next
after shape bytes count cursor pad = and_then (padded_or pad cursor) (after_pads shape bytes count)

pub mixed : (shape : Shape) (bytes : List ℕ) (n : ℕ) (cursor : Cursor) (count number : ℕ) → count ≡ length cursor.left → number ≡ number_of cursor.left → None ≡ pad_of (Some None) (low_bits count number)
    → Err (refusals.MixedPad cursor.last) ≡ and_then (pads_at cursor) (after_pads shape bytes n)
unfolding after
mixed shape bytes n cursor count number is spelled e = ap (after shape bytes n cursor) (of_left cursor.left count number None is spelled e)

pub padded : (shape : Shape) (bytes : List ℕ) (n : ℕ) (p : Option Bool) (cursor : Cursor) (count number : ℕ) → count ≡ length cursor.left → number ≡ number_of cursor.left → Some p ≡ pad_of (Some None) (low_bits count number)
    → after_pads shape bytes n (p, record cursor { left = [] }) ≡ and_then (pads_at cursor) (after_pads shape bytes n)
unfolding after
padded shape bytes n p cursor count number is spelled e = ap (after shape bytes n cursor) (of_left cursor.left count number (Some p) is spelled e)

by_last : Shape → List ℕ → ℕ → Option Bool → Cursor → Bool → Next
by_last shape bytes n p cursor last =
    if last then Ok (record { cursor = cursor; before = no_dcs; count = n + 1; pad = p })
    else and_then (restart_at bytes (interval_number shape n) cursor.next) (λ place. Ok (record { cursor = starting place 0; before = no_dcs; count = n + 1; pad = p }))

pub scan_over : (shape : Shape) (bytes : List ℕ) (n : ℕ) (p : Option Bool) (cursor : Cursor) → n + 1 ≡ shape.mcus → Ok (record { cursor = cursor; before = no_dcs; count = n + 1; pad = p }) ≡ after_pads shape bytes n (p, cursor)
unfolding by_last
scan_over shape bytes n p cursor is = let test : (n + 1 == shape.mcus) ≡ true = grind (arith, nat_tests) in sym (ap (by_last shape bytes n p cursor) test)

pub no_restart : (shape : Shape) (bytes : List ℕ) (n : ℕ) (p : Option Bool) (cursor : Cursor) (refusal : ScanRefusal) → n + 1 ≢ shape.mcus → Err refusal ≡ restart_at bytes (interval_number shape n) cursor.next
    → Err refusal ≡ after_pads shape bytes n (p, cursor)
unfolding by_last
no_restart shape bytes n p cursor refusal other e =
    let test : (n + 1 == shape.mcus) ≡ false = grind (arith, nat_tests) in
    ap (λ (r : Result ℕ ScanRefusal). and_then r (λ place. Ok (record { cursor = starting place 0; before = no_dcs; count = n + 1; pad = p }))) e ∙ sym (ap (by_last shape bytes n p cursor) test)

pub begins : (shape : Shape) (bytes : List ℕ) (n : ℕ) (p : Option Bool) (cursor : Cursor) (place : ℕ) → n + 1 ≢ shape.mcus → Ok place ≡ restart_at bytes (interval_number shape n) cursor.next
    → Ok (record { cursor = starting place 0; before = no_dcs; count = n + 1; pad = p }) ≡ after_pads shape bytes n (p, cursor)
unfolding by_last
begins shape bytes n p cursor place other e =
    let test : (n + 1 == shape.mcus) ≡ false = grind (arith, nat_tests) in
    ap (λ (r : Result ℕ ScanRefusal). and_then r (λ at. Ok (record { cursor = starting at 0; before = no_dcs; count = n + 1; pad = p }))) e ∙ sym (ap (by_last shape bytes n p cursor) test)
