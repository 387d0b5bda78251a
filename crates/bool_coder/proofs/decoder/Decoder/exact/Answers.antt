use Rattle.std.proofs.Common.{◌+◌, sym, ap, ◌∙◌, subst}
use Rattle.std.proofs.lemmas.Bool.{eqb-true, eq-eqb}
use Rattle.bool_coder.specs.DecoderSeen.{Seen, Reads}
use Rattle.bool_coder.proofs.Whole.{exact_from, exact_to}
use Rattle.bool_coder.proofs.decoder.Decoder.exact.Goals as goal

pub returns-then-self-eq0 : goal.returns-then-self-eq0
returns-then-self-eq0 c =
    λ bools r.
    let was = sym c.self.view_is in
    let read = subst (λ s. Reads bools s) was r in
    let same = ap (λ (s : Seen). s.bytes) c.self.view_is in (
      λ h. sym same ∙ exact_from c.self.inside.bytes.now c.self.inside.fetched c.self.inside.value c.self.inside.bits (c.self.inside.less + 1) bools c.self.invariant read c.if-self-eq0.true (eqb-true _ _ h),
      λ h. eq-eqb _ _ (exact_to c.self.inside.bytes.now c.self.inside.fetched c.self.inside.value c.self.inside.bits (c.self.inside.less + 1) bools c.self.invariant read (same ∙ h)).1,
    )

pub returns-else-self-eq0 : goal.returns-else-self-eq0
returns-else-self-eq0 c =
    λ bools r.
    let read = subst (λ s. Reads bools s) (sym c.self.view_is) r in
    let same = ap (λ (s : Seen). s.bytes) c.self.view_is in (
      λ h. absurd (c.if-self-eq0.false (eqb-true _ _ h)),
      λ h. absurd (c.if-self-eq0.false (exact_to c.self.inside.bytes.now c.self.inside.fetched c.self.inside.value c.self.inside.bits (c.self.inside.less + 1) bools c.self.invariant read (same ∙ h)).0),
    )
