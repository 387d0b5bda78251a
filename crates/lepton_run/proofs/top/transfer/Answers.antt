use Rattle.std.proofs.Common.{◌∙◌, ap, sym, ◌+◌, ℕ, [], Err, inl, inr, List, subst}
use Rattle.std.specs.Io.KnownBytes.{Consumes}
use Rattle.outside_core.specs.declared.transfer.ReadAll.{ReadAll}
use Rattle.lepton_run.proofs.BytesTaken.{took_none, took_of}
use Rattle.lepton_run.proofs.CarriedOut.{too_long}
use Rattle.lepton_run.proofs.top.transfer.Goals as goal

-- the source gave one byte more than the limit
pub returns-in-Err-TooLong-clause-ending : goal.returns-in-Err-TooLong-clause-ending
returns-in-Err-TooLong-clause-ending g c =
    let is = c.in-Err-TooLong.field-0-is in
    let taken = c.in-Err-TooLong.ensures.too_long (ap (λ (error : ReadAll). Err error) is) in
    let long = taken.1 ∙ ap (λ (n : ℕ). n + 1) c.limit.ensures in (
      taken.0,
      took_of c.args.command _ _ taken.0
          (sym c.reads.ensures ∙ c.if-not-reads.false) (taken.2, inr long),
      c.in-Err-TooLong.ensures.unfailed (λ e. absurd cc),
      too_long g.K.Sink.held g.K.Sink.faults g.K.Sink.full c.args.sink.now c.args.sink.now
          c.args.command taken.0 long,
    )

-- `sample` reads nothing
pub carry_out-requires-clause-takes : goal.carry_out-requires-clause-takes
carry_out-requires-clause-takes g c κs within =
    c.requires.takes [] (
      g.S.Source.left c.args.source.now,
      took_none c.args.command _ (sym c.reads.ensures ∙ c.if-not-reads.true),
    )

pub carry_out-requires-2-clause-takes : goal.carry_out-requires-2-clause-takes
carry_out-requires-2-clause-takes g c κs within =
    let told = c.in-Ok.ensures in
    let left = g.S.Source.left in
    c.requires.takes c.as_slice.result.now (
      left c.read_all.new.source,
      took_of c.args.command _ _ _ (sym c.reads.ensures ∙ c.if-not-reads.false) (
        subst (λ (l : List ℕ). Consumes (left c.args.source.now) (left c.read_all.new.source) l)
            (sym c.as_slice.ensures.value) told.whole,
        inl told.end,
      ),
    )
