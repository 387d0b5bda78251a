use Rattle.std.proofs.Common.{arith, refl, ◌≡◌, ◌∙◌, sym, subst, List, [], ◌∷◌, ℕ, ℤ, false, Ok}
use Rattle.scan_spec.specs.BlockBits.{coefficient_at, in_zigzag}
use Rattle.scan_spec.specs.ScanReading.{prefixed_values, acs_at}
use Rattle.scan_decode.specs.BlockSteps.{IsGoing}
use Rattle.std.proofs.lemmas.Result.{err_from_is_err_and}
use Rattle.scan_decode.proofs.BlockStepLemmas.{starts, all_told}
use Rattle.scan_decode.proofs.acs.acs.Goals as goal

pub loop-at-init : goal.loop-at-init
loop-at-init c = record {
  some = omega arith;
  within = omega arith;
  bytes = refl;
  going = (_, refl, starts c.args.codes.now c.args.input.now.bytes c.args.out.now c.args.input.now.cursor c.requires.long c.requires.zeros);
}

pub returns-in_err-at-clause-is : goal.returns-in_err-at-clause-is
returns-in_err-at-clause-is c =
    let l = c.loop-at in
    let p = err_from_is_err_and c.from_residual.result c.from_residual.ensures.1 in
    let whole = prefixed_values (coefficient_at c.args.out.now 0 ∷ []) (acs_at 63 c.args.codes.now 63 false c.args.input.now.bytes c.args.input.now.cursor) in
    let going = subst (λ (bytes : List ℕ). IsGoing (λ block. l.out ≡ block) whole c.args.codes.now bytes l.at.index l.at.loose l.input.cursor) (sym l.invariant.bytes) l.invariant.going in
    rw (p.1, p.2) (sym (c.in_err-at.ensures.err whole going))

pub returns-clause-is : goal.returns-clause-is
returns-clause-is c =
    let l = c.loop-at in
    let whole = prefixed_values (coefficient_at c.args.out.now 0 ∷ []) (acs_at 63 c.args.codes.now 63 false c.args.input.now.bytes c.args.input.now.cursor) in
    let going = l.invariant.going in
    subst (λ (block : List ℤ). Ok (in_zigzag block, l.input.cursor) ≡ whole) (sym going.1) (all_told whole _ _ _ l.at.index _ _ c.loop-at-test.false going.2)

pub loop-at-preserved : goal.loop-at-preserved
loop-at-preserved c =
    let l = c.loop-at in
    let i = l.invariant in
    let codes = c.args.codes.now in
    let whole = prefixed_values (coefficient_at c.args.out.now 0 ∷ []) (acs_at 63 codes 63 false c.args.input.now.bytes c.args.input.now.cursor) in
    let going = subst (λ (bytes : List ℕ). IsGoing (λ block. l.out ≡ block) whole codes bytes l.at.index l.at.loose l.input.cursor) (sym i.bytes) i.going in
    record {
      some = c.in_ok-at.ensures.some.0;
      within = c.in_ok-at.ensures.some.1;
      bytes = c.next_symbol.ensures.bytes ∙ i.bytes;
      going = subst (λ (bytes : List ℕ). IsGoing (λ block. c.next_symbol.new.out ≡ block) whole codes bytes c.in_ok-at.at.index c.in_ok-at.at.loose c.next_symbol.new.input.cursor) i.bytes (c.in_ok-at.ensures.ok whole going);
    }
