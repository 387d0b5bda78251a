use Rattle.std.proofs.Common.{arith, refl, ◌∙◌, sym, subst, List, pos, replicate, [], ◌∷◌, ℕ, false}
use Rattle.scan_spec.specs.ScanReading.{prefixed_values, acs_at}
use Rattle.scan_decode.specs.SkipWords.{IsSkipped}
use Rattle.std.proofs.lemmas.Result.{err_from_is_err_and}
use Rattle.scan_decode.proofs.BlockStepLemmas.{starts, all_told}
use Rattle.scan_decode.proofs.DcThenAcs.{dc_alone}
use Rattle.scan_decode.proofs.skip.skip_acs.Goals as goal

pub loop-index-init : goal.loop-index-init
loop-index-init c = record {
  some = omega arith;
  within = omega arith;
  bytes = refl;
  going = λ dc.
      (dc ∷ replicate 63 (pos 0), tt, starts c.args.codes.now c.args.input.now.bytes (dc ∷ replicate 63 (pos 0)) c.args.input.now.cursor refl (dc_alone dc));
}

pub returns-in_err-index-clause-is : goal.returns-in_err-index-clause-is
returns-in_err-index-clause-is c =
    let p = err_from_is_err_and c.from_residual.result c.from_residual.ensures.1 in
    rw (p.1, p.2) (λ dc.
    let whole = prefixed_values (dc ∷ []) (acs_at 63 c.args.codes.now 63 false c.args.input.now.bytes c.args.input.now.cursor) in
    let going = subst (λ (bytes : List ℕ). IsSkipped whole c.args.codes.now bytes c.loop-index.index false c.loop-index.input.cursor) (sym c.loop-index.invariant.bytes) (c.loop-index.invariant.going dc) in
    (going.0, sym (c.in_err-index.ensures.err whole going)))

pub returns-clause-is : goal.returns-clause-is
returns-clause-is c = λ dc.
    let going = c.loop-index.invariant.going dc in
    (going.0, all_told _ _ _ _ c.loop-index.index _ _ c.loop-index-test.false going.2)

pub loop-index-preserved : goal.loop-index-preserved
loop-index-preserved c =
    let i = c.loop-index.invariant in
    let codes = c.args.codes.now in
    record {
      some = let later = c.in_ok-index.ensures.some.0 in omega (arith, later);
      within = c.in_ok-index.ensures.some.1;
      bytes = c.skip_symbols.ensures.bytes ∙ i.bytes;
      going = λ dc.
          let whole = prefixed_values (dc ∷ []) (acs_at 63 codes 63 false c.args.input.now.bytes c.args.input.now.cursor) in
          let going = subst (λ (bytes : List ℕ). IsSkipped whole codes bytes c.loop-index.index false c.loop-index.input.cursor) (sym i.bytes) (i.going dc) in
          subst (λ (bytes : List ℕ). IsSkipped whole codes bytes c.in_ok-index.index false c.skip_symbols.new.input.cursor) i.bytes (c.in_ok-index.ensures.ok whole going);
    }
