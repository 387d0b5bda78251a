use Rattle.std.proofs.Common.{◌-◌, ◌∙◌, Option, Bool, sym, ap, arith}
use Rattle.bit_list.specs.Bits.{low_bits}
use Rattle.scan_spec.specs.ScanSymbols.{pad_of}
use Rattle.scan_decode.proofs.PadBits.{pads_next}
use Rattle.scan_decode.proofs.pads.pads.Goals as goal

pub returns-in_err-known : goal.returns-in_err-known
returns-in_err-known c =
    let l = c.loop-left in
    rw c.from_residual.ensures (sym (l.invariant.going ∙ pads_next l.left c.args.number l.known c.loop-left-test.true ∙ ap (λ (p : Option (Option Bool)). pad_of p (low_bits (l.left - 1) c.args.number)) (sym c.in_err-known.ensures)))

pub loop-left-preserved : goal.loop-left-preserved
loop-left-preserved c =
    let l = c.loop-left in
    record {
      within = omega (arith, l.invariant.within);
      going = l.invariant.going ∙ pads_next l.left c.args.number l.known c.loop-left-test.true ∙ ap (λ (p : Option (Option Bool)). pad_of p (low_bits (l.left - 1) c.args.number)) (sym c.in_ok-known.ensures);
    }
