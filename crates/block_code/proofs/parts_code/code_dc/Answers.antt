use Rattle.std.proofs.Common.{ℕ, sym, subst, ap, ◌∙◌, FitsSigned, w32, rules}
use Rattle.std.proofs.lemmas.Int.{to_z-of_z}
use Rattle.coef_context.specs.BinNumbers.{bin_number}
use Rattle.coef_context.specs.declared.context.Context.TheVariants.{DcStep}
use Rattle.coef_context.specs.declared.context.Kind.TheVariants.{Dc}
use Rattle.coef_context.specs.ValueBins.{ValueBins, value_bins}
use Rattle.block_spec.specs.Values.{value_events}
use Rattle.block_spec.specs.BlockEvents.{dc_events}
use Rattle.block_code.proofs.parts_code.code_dc.Goals as goal

pub returns-clause-coded : goal.returns-clause-coded
unfolding dc_events
returns-clause-coded g c = λ around is.
    let fits : FitsSigned w32 c.in_ok-x.x = search rules in
    rw (to_z-of_z w32 c.in_ok-x.x fits)
    (subst (λ (bins : ValueBins). g.C.Coder.codes c.args.coder.now (value_events bins 0 16 c.in_ok-x.x) c.code_value.new.coder)
    (c.dc_bases.ensures.bins ∙ ap (λ (k : ℕ). value_bins c.args.class Dc 0 (λ j. bin_number c.args.class (DcStep k j))) (sym is)) c.in_ok-x.ensures.coded)
