use Rattle.std.proofs.Common.{◌≡◌, ◌+◌, ◌<◌, ◌≤◌, ℕ, Bool, false, if◌then◌else◌, List, ℤ, Result, Ok, get_or, length, refl, sym, subst, arith}
use Rattle.bit_list.specs.Bits.{low_bits}
use Rattle.bit_list.specs.Units.{Cursor, Reading, bits_at}
use Rattle.scan_spec.specs.declared.refusal.ScanRefusal.{ScanRefusal as Refusal}
use Rattle.scan_decode.specs.SkipWords.{IsSkipped, blank}
use Rattle.scan_decode.proofs.SkipReading.{word_skips}
use Rattle.scan_decode.proofs.skip.by_twelve_bits.Goals as goal

pub returns-then-word-clause-is : goal.returns-then-word-clause-is
returns-then-word-clause-is c =
    let codes = c.args.codes.now in
    let now = c.ready.new.self in
    let ahead = c.in_ok-look.ensures.bits in
    let to = c.advance.new.self.cursor in
    let taken = c.if-not-advance.ensures.bits refl in
    let index = c.args.index in
    let seen = c.from-seen.result in
    let word = get_or c.args.words.now seen blank in
    let below : seen < length c.args.words.now = let b = c.if-seen-words.false in omega (arith, b) in
    let look : bits_at 12 now.bytes now.cursor ≡ Ok (low_bits 12 seen, ahead.0) =
    subst (λ (n : ℕ). bits_at 12 now.bytes now.cursor ≡ Ok (low_bits 12 n, ahead.0)) (sym c.from-seen.ensures) ahead.1 in
    let room : index + word.coefficients ≤ 64 = let e = c.from.ensures in let r = c.if-next-gt64.false in omega (arith, e, r) in
    subst (λ (b : Reading). (whole : Result (List ℤ × Cursor) Refusal) → IsSkipped whole codes b.bytes index false b.cursor → IsSkipped whole codes b.bytes 64 false to) c.ready.ensures
    (subst (λ (t : Bool). (whole : Result (List ℤ × Cursor) Refusal) → IsSkipped whole codes now.bytes index false now.cursor → IsSkipped whole codes now.bytes (if t then 64 else index + word.coefficients) false to) c.if-word.true
    (word_skips codes c.args.words.now now.bytes now.cursor ahead.0 to seen taken.0 index c.requires.words below look room taken.1))

pub returns-else-word-clause-is : goal.returns-else-word-clause-is
returns-else-word-clause-is c =
    let codes = c.args.codes.now in
    let now = c.ready.new.self in
    let ahead = c.in_ok-look.ensures.bits in
    let to = c.advance.new.self.cursor in
    let taken = c.if-not-advance.ensures.bits refl in
    let index = c.args.index in
    let seen = c.from-seen.result in
    let word = get_or c.args.words.now seen blank in
    let below : seen < length c.args.words.now = let b = c.if-seen-words.false in omega (arith, b) in
    let look : bits_at 12 now.bytes now.cursor ≡ Ok (low_bits 12 seen, ahead.0) =
    subst (λ (n : ℕ). bits_at 12 now.bytes now.cursor ≡ Ok (low_bits 12 n, ahead.0)) (sym c.from-seen.ensures) ahead.1 in
    let room : index + word.coefficients ≤ 64 = let e = c.from.ensures in let r = c.if-next-gt64.false in omega (arith, e, r) in
    subst (λ (n : ℕ). (whole : Result (List ℤ × Cursor) Refusal) → IsSkipped whole codes c.args.input.now.bytes index false c.args.input.now.cursor → IsSkipped whole codes c.args.input.now.bytes (index + n) false to) (sym c.from.ensures)
    (subst (λ (b : Reading). (whole : Result (List ℤ × Cursor) Refusal) → IsSkipped whole codes b.bytes index false b.cursor → IsSkipped whole codes b.bytes (index + word.coefficients) false to) c.ready.ensures
    (subst (λ (t : Bool). (whole : Result (List ℤ × Cursor) Refusal) → IsSkipped whole codes now.bytes index false now.cursor → IsSkipped whole codes now.bytes (if t then 64 else index + word.coefficients) false to) c.if-word.false
    (word_skips codes c.args.words.now now.bytes now.cursor ahead.0 to seen taken.0 index c.requires.words below look room taken.1)))
