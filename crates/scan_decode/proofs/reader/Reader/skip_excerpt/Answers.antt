use Rattle.std.proofs.Common.{◌≡◌, ◌+◌, ℕ, Bool, List, length, ℤ, Option, None, Ok, refl, sym, ap, ap₂, ◌∙◌, subst, arith, rules}
use Rattle.std.specs.List.{All}
use Rattle.bit_list.specs.Units.{Cursor, Reading}
use Rattle.coef_block.specs.Block.{IsDc}
use Rattle.scan_spec.specs.ScanCalls.{ScanReader}
use Rattle.scan_spec.specs.ScanReading.{Standing, mcus_at}
use Rattle.scan_decode.specs.Excerpts.{added, IsChange, IsNear, Meets, ExcerptFields, standing_in}
use Rattle.scan_decode.proofs.ExcerptReading.{added_small}
use Rattle.scan_decode.proofs.reader.Reader.skip_excerpt.Goals as goal

pub invariant_of-self : goal.invariant_of-self
invariant_of-self c =
    let r = c.self.inside in
    let s = c.excerpt.inside in
    let m : Meets c.args.self.now c.args.excerpt.now = c.if-not-meets.ensures.0 refl in
    let near : All IsNear r.before = subst (λ (o : ScanReader). All IsNear o.at.before) (sym c.self.view_is) m.before in
    let slight : All IsChange s.change = subst (λ (o : ExcerptFields). All IsChange o.change) (sym c.excerpt.view_is) c.requires.change in
    let count = ap (λ (o : ScanReader). o.at.count) c.self.view_is in
    let mcus = ap (λ (o : ExcerptFields). o.mcus) c.excerpt.view_is in
    let all = ap (λ (o : ScanReader). o.shape.mcus) c.self.view_is in
    let more = m.more in
    record {
      before = subst (All IsDc) (sym c.sums-self-inside.ensures) (added_small r.before s.change near slight);
      count = omega (arith, count, mcus, all, more);
      size = c.self.invariant.size;
      bytes = ap (λ (o : Reading). o.bytes) c.copied-self-inside.ensures ∙ ap (λ (o : ExcerptFields). o.to.bytes) c.excerpt.view_is ∙ c.requires.to ∙ sym (ap (λ (o : ScanReader). o.bytes) c.self.view_is) ∙ c.self.invariant.bytes;
      skips = c.self.invariant.skips;
      reads = c.self.invariant.reads;
    }

pub returns-clause-read : goal.returns-clause-read
returns-clause-read c = λ done.
    let r = c.self.inside in
    let now = c.args.self.now in
    let s = c.args.excerpt.now in
    let m : Meets now s = c.if-not-meets.ensures.0 refl in
    let four : length now.at.before ≡ 4 = subst (λ (o : ScanReader). length o.at.before ≡ 4) c.self.view_is (search rules) in
    let are = c.requires.are now.at.before now.at.count four m.before m.more in
    let start : now.at ≡ standing_in s.from.cursor now.at.before now.at.count =
    ap₂ (λ (cursor : Cursor) (pad : Option Bool). record { cursor = cursor; before = now.at.before; count = now.at.count; pad = pad }) m.cursor m.pad in
    let to = ap (λ (o : Reading). o.cursor) c.copied-self-inside.ensures ∙ ap (λ (o : ExcerptFields). o.to.cursor) c.excerpt.view_is in
    let before = c.sums-self-inside.ensures ∙ ap₂ added (ap (λ (o : ScanReader). o.at.before) c.self.view_is) (ap (λ (o : ExcerptFields). o.change) c.excerpt.view_is) in
    let count = ap₂ (λ (a b : ℕ). a + b) (ap (λ (o : ScanReader). o.at.count) c.self.view_is) (ap (λ (o : ExcerptFields). o.mcus) c.excerpt.view_is) in
    let pad = ap (λ (o : ScanReader). o.at.pad) c.self.view_is ∙ m.pad in (
      are.0,
      ap (mcus_at s.mcus now.shape now.bytes) start ∙ are.1
          ∙ sym (ap₂ (λ (at : Standing) (pad : Option Bool). Ok (are.0, record at { pad = pad })) (ap₂ (λ (cursor : Cursor) (dcs : List ℤ). record { cursor = cursor; before = dcs; count = r.count + c.excerpt.inside.mcus; pad = None }) to before) pad
          ∙ ap (λ (n : ℕ). Ok (are.0, record { cursor = s.to.cursor; before = added now.at.before s.change; count = n; pad = None })) count),
    )
