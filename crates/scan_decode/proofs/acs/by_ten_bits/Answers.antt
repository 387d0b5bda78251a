use Rattle.std.proofs.Common.{◌≡◌, ◌+◌, ◌<◌, ℕ, Bool, false, List, ℤ, Ok, get_or, length, set, refl, sym, ap, ◌∙◌, subst, arith, unsigned_abs}
use Rattle.bit_list.specs.Bits.{low_bits}
use Rattle.bit_list.specs.Units.{Reading, bits_at}
use Rattle.coef_block.specs.Zigzag.{zigzag}
use Rattle.coef_block.proofs.Positions.{zigzag-above}
use Rattle.scan_spec.proofs.SignedValues.{kept_half}
use Rattle.scan_decode.specs.BlockSteps.{Going}
use Rattle.scan_decode.specs.ReadWords.{Puts, Ends, blank_read}
use Rattle.scan_decode.proofs.BlockStepLemmas.{later}
use Rattle.scan_decode.proofs.TenBits.{word_reads}
use Rattle.scan_decode.proofs.acs.by_ten_bits.Goals as goal

pub overflow_add-index : goal.overflow_add-index
overflow_add-index c =
    let below : c.from-seen.result < length c.args.words.now = let b = c.if-seen-words.false in omega (arith, b) in
    let e = c.from.ensures in
    omega (arith, e, (c.requires.words c.from-seen.result below).count, c.requires.left)

pub advance-requires : goal.advance-requires
advance-requires c =
    let below : c.from-seen.result < length c.args.words.now = let b = c.if-seen-words.false in omega (arith, b) in
    omega (arith, (c.requires.words c.from-seen.result below).few)

pub advance-requires-2 : goal.advance-requires-2
advance-requires-2 c =
    let below : c.from-seen.result < length c.args.words.now = let b = c.if-seen-words.false in omega (arith, b) in
    omega (arith, (c.requires.words c.from-seen.result below).few)

pub returns-then-index-gt63-clause-is : goal.returns-then-index-gt63-clause-is
returns-then-index-gt63-clause-is c = λ whole going.
    let codes = c.args.codes.now in
    let words = c.args.words.now in
    let now = c.ready.new.self in
    let ahead = c.in_ok-look.ensures.bits in
    let to = c.advance.new.self.cursor in
    let taken = c.if-not-advance.ensures.bits refl in
    let at = c.args.at in
    let seen = c.from-seen.result in
    let below : seen < length words = let b = c.if-seen-words.false in omega (arith, b) in
    let look : bits_at 10 now.bytes now.cursor ≡ Ok (low_bits 10 seen, ahead.0) = rw c.from-seen.ensures ahead.1 in
    let read = word_reads codes words now.bytes now.cursor ahead.0 to seen taken.0 c.requires.words below look taken.1 in
    let ends : Ends codes c.args.input.now.bytes at.index c.args.input.now.cursor to =
    subst (λ (b : Reading). Ends codes b.bytes at.index b.cursor to) c.ready.ensures ((c.requires.words seen below).ends c.if-word-ne-END.false now.bytes now.cursor to at.index c.requires.left read) in
    (going.0, going.1, ends whole going.0 (subst (λ (t : Bool). Going whole codes c.args.input.now.bytes going.0 at.index t c.args.input.now.cursor) c.if-at.false going.2))

pub put_in_zigzag-requires-clause-coefficient : goal.put_in_zigzag-requires-clause-coefficient
put_in_zigzag-requires-clause-coefficient c =
    let words = c.args.words.now in
    let seen = c.from-seen.result in
    let below : seen < length words = let b = c.if-seen-words.false in omega (arith, b) in
    let few : (get_or words seen blank_read).zeros < 64 = let e = c.from.ensures in let r = c.if-index-gt63.false in omega (arith, e, r) in
    let v = (c.requires.words seen below).value few in
    let within = c.args.at.index + c.from.result in
    let kept = kept_half (get_or words seen blank_read).value (omega (arith, v.1)) in
    let some = zigzag-above within (let r = c.if-index-gt63.false in omega (arith, r)) (omega (arith, c.requires.some)) in
    omega (arith, ap unsigned_abs kept, v.1, later (get_or zigzag within 0) some)

pub put_in_zigzag-requires-clause-some : goal.put_in_zigzag-requires-clause-some
put_in_zigzag-requires-clause-some c =
    let words = c.args.words.now in
    let seen = c.from-seen.result in
    let below : seen < length words = let b = c.if-seen-words.false in omega (arith, b) in
    let few : (get_or words seen blank_read).zeros < 64 = let e = c.from.ensures in let r = c.if-index-gt63.false in omega (arith, e, r) in
    let v = (c.requires.words seen below).value few in
    subst (λ (z : ℤ). 0 < unsigned_abs z) (sym (kept_half (get_or words seen blank_read).value (omega (arith, v.1)))) v.0

pub returns-clause-is : goal.returns-clause-is
returns-clause-is c = λ whole going.
    let codes = c.args.codes.now in
    let words = c.args.words.now in
    let now = c.ready.new.self in
    let bytes = c.args.input.now.bytes in
    let ahead = c.in_ok-look.ensures.bits in
    let to = c.advance-2.new.self.cursor in
    let taken = c.if-not-advance-2.ensures.bits refl in
    let at = c.args.at in
    let seen = c.from-seen.result in
    let word = get_or words seen blank_read in
    let below : seen < length words = let b = c.if-seen-words.false in omega (arith, b) in
    let room : at.index + word.zeros < 64 = let e = c.from.ensures in let r = c.if-index-gt63.false in omega (arith, e, r) in
    let few : word.zeros < 64 = omega (arith, room) in
    let look : bits_at 10 now.bytes now.cursor ≡ Ok (low_bits 10 seen, ahead.0) = rw c.from-seen.ensures ahead.1 in
    let read = word_reads codes words now.bytes now.cursor ahead.0 to seen taken.0 c.requires.words below look taken.1 in
    let puts : Puts codes bytes at.index word.zeros word.value c.args.input.now.cursor to =
    subst (λ (b : Reading). Puts codes b.bytes at.index word.zeros word.value b.cursor to) c.ready.ensures ((c.requires.words seen below).puts few now.bytes now.cursor to at.index room read) in
    let made = puts whole going.0 at.loose going.2 in
    let v = (c.requires.words seen below).value few in
    let kept = kept_half word.value (omega (arith, v.1)) in
    let moved = subst (λ (n : ℕ). Going whole codes bytes (set going.0 (get_or zigzag (at.index + n) 0) word.value) (at.index + n + 1) false to) (sym c.from.ensures) made in (
      _,
      c.put_in_zigzag.ensures ∙ ap (λ (block : List ℤ). set block (get_or zigzag (at.index + c.from.result) 0) _) going.1,
      subst (λ (z : ℤ). Going whole codes bytes (set going.0 (get_or zigzag (at.index + c.from.result) 0) z) (at.index + c.from.result + 1) false to) (sym kept) moved,
    )
