-- Bits that are appended, at once and in parts.
use Rattle.std.proofs.Common.{◌≡◌, ℕ, ◌<◌, Bool, List, length, [], ◌++◌, sym, ap, ap₂, ◌∙◌, append_assoc, append-nil, arith}
use Rattle.bit_list.specs.Bits.{bytes_after, begun_after, stuffed}
use Rattle.bit_list.proofs.Wholes.{no_byte, all_begun, bytes_cut, begun_cut}
use Rattle.bit_list.proofs.Stuffing.{stuffed-append}
use Rattle.scan_write.specs.Outputs.{OutputState, output_of, output_with, appended}

-- a byte begun that waits is a byte begun
pub begun_waits : (begun : List Bool) (bytes : List ℕ) → length begun < 8 → output_with begun bytes ≡ output_of begun bytes
begun_waits begun bytes few =
    ap₂ output_of (all_begun [] begun (omega (arith, few)))
    (ap (λ (bs : List ℕ). bytes ++ stuffed bs) (no_byte [] begun (omega (arith, few))) ∙ append-nil bytes)

-- no bits change nothing
pub appended_nothing : (output : OutputState) → appended output [] ≡ output
appended_nothing output = ap (output_of output.begun) (append-nil output.bytes)

-- bits in two parts
pub appended_twice : (output : OutputState) (a b : List Bool) → appended (appended output a) b ≡ appended output (a ++ b)
appended_twice output a b =
    let first = bytes_after output.begun a in
    let next = bytes_after (begun_after output.begun a) b in
    ap₂ output_of (sym (begun_cut output.begun a b))
    (append_assoc output.bytes (stuffed first) (stuffed next)
    ∙ ap (λ (l : List ℕ). output.bytes ++ l) (sym (stuffed-append first next) ∙ ap stuffed (sym (bytes_cut output.begun a b))))

-- bits from one byte begun to another, by way of a buffer
pub appended_by_buffer : (begun first waiting last bits : List Bool) (bytes more all : List ℕ) → length begun < 8 → first ≡ begun
    → output_with waiting more ≡ appended (output_with first bytes) bits → all ≡ more ++ stuffed (bytes_after [] waiting) → last ≡ begun_after [] waiting
    → output_of last all ≡ appended (output_of begun bytes) bits
appended_by_buffer begun first waiting last bits bytes more all few same is whole left =
    ap₂ output_of left whole ∙ is
    ∙ ap (λ (o : OutputState). appended o bits) (ap (λ (b : List Bool). output_with b bytes) same ∙ begun_waits begun bytes few)
