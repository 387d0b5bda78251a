use Rattle.std.proofs.Common.{◌≡◌, ◌<◌, ◌≤◌, length, ℕ, ◌-◌, ◌%◌, ◌^◌, min, List, Bool, sym, ap, ◌∙◌, arith, ℤ, subst, take}
use Rattle.bit_list.specs.Bits.{low_bits}
use Rattle.scan_spec.specs.Slots.{Shape}
use Rattle.scan_spec.specs.Spots.{interval_number}
use Rattle.handover.specs.Handovers.{HandoverFields}
use Rattle.cut_spec.specs.RowHandovers.{handover_of, partial_byte}
use Rattle.cut_spec.proofs.PartialBytes.{partial_is}
use Rattle.scan_write.proofs.writer.Writer.handover.Goals as goal

handed : (shape : Shape) (begun : List Bool) (before : List ℤ) (count last restarts partial bits : ℕ)
    → bits ≡ length begun → bits ≤ 7 → partial < 256 → take bits (low_bits 8 partial) ≡ begun
    → partial % 2 ^ (8 - bits) ≡ 0 → last ≡ shape.mcus - 1 → restarts ≡ interval_number shape (min count last)
    → ◌≡◌ {A = HandoverFields} (record { partial = partial; bits = bits; preds = before; restarts = restarts })
    (handover_of shape (record { begun = begun; before = before; count = count }))
handed shape begun before count last restarts partial bits e few small first blank l r =
    let p : partial ≡ partial_byte begun =
    partial_is begun partial (omega (arith, e, few)) small
    (ap (λ (n : ℕ). partial % 2 ^ (8 - n)) (sym e) ∙ blank) (ap (λ (n : ℕ). take n (low_bits 8 partial)) (sym e) ∙ first) in
    rw (p, e, r, l)

pub returns : goal.returns
returns c =
    let clauses = c.partial-partial.ensures in
    let last : c.saturating_sub-last.result ≡ c.self.inside.shape.mcus - 1 =
    c.saturating_sub-last.ensures ∙ ap (λ (n : ℕ). n - 1) c.mcus.ensures in
    let restarts = c.interval_number-restarts.ensures ∙ ap (interval_number c.self.inside.shape) c.min.ensures in
    let byte : c.partial-partial.result.0 < 256 =
    subst (λ (h : HandoverFields). h.partial < 256) c.new.ensures.value c.new.ensures.kept.byte in
    rw (← c.self.view_is)
    (c.new.ensures.value ∙ handed c.self.inside.shape c.self.inside.output c.self.inside.before c.self.inside.count _ _ c.partial-partial.result.0 c.partial-partial.result.1
    clauses.count clauses.few byte clauses.bits clauses.clear last restarts)
