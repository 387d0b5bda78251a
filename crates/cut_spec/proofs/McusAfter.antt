-- A reader that has read MCUs stands after where it stood.
use Rattle.std.proofs.Common.{◌≡◌, ℕ, zero, suc, ◌+◌, ◌≤◌, Bool, true, false, ◌==◌, List, [], ℤ, Ok, refl, sym, ap, ◌∙◌, subst, arith}
use Rattle.std.specs.Prelude.{unwrap_or}
use Rattle.scan_spec.specs.Slots.{Shape}
use Rattle.scan_spec.specs.Scans.{ends_interval}
use Rattle.scan_spec.specs.ScanReading.{BlocksRead, Standing, mcu_at, mcus_at}
use Rattle.scan_spec.specs.ScanLaws.{IsShape}
use Rattle.scan_spec.proofs.BitsTaken.{is_fine, both_fine}
use Rattle.scan_spec.proofs.BlocksTaken.{blocks_read}
use Rattle.scan_spec.proofs.ScanTaken.{on_standing, end_by, end_taken, marker_taken, mcu_fine, mcus_fine, no_mcus, agrees_known}
use Rattle.cut_spec.proofs.BitsOn.{bits_on}

-- no cursor skips bits, and each stands after the one before
pub record IsAfter (s next : Standing) : Type 0 where
  pub skip : next.cursor.skip ≡ 0
  pub on : s.cursor.next ≤ next.cursor.next

after_by : (over ends : Bool) (shape : Shape) (bytes : List ℕ) (s next : Standing)
    (read : BlocksRead) → end_by over ends shape bytes s read ≡ Ok next → read.cursor.skip ≡ 0
    → s.cursor.next ≤ read.cursor.next
    → IsAfter s next
after_by true ends shape bytes s next read e skip on =
    let t = end_taken ends shape bytes s next read (unwrap_or next.pad true) e
    (agrees_known next.pad (unwrap_or next.pad true) refl) in
    let stop = t.next in
    record {
      skip = ap (λ (g : Standing). g.cursor.skip) t.is ∙ skip;
      on = omega (arith, on, stop);
    }
after_by false true shape bytes s next read e skip on =
    let t = marker_taken shape bytes s next read e in
    let stop = t.place_is in
    let is = ap (λ (g : Standing). g.cursor.next) t.is in
    record {
      skip = ap (λ (g : Standing). g.cursor.skip) t.is;
      on = omega (arith, on, stop, is);
    }
after_by false false shape bytes s next read e skip on =
    let is = is_fine (on_standing read.cursor read.before s.count) next e in
    let stop = ap (λ (g : Standing). g.cursor.next) is in
    record {
      skip = sym (ap (λ (g : Standing). g.cursor.skip) is) ∙ skip;
      on = omega (arith, on, stop);
    }

pub mcu_after : (shape : Shape) (bytes : List ℕ) (s next : Standing) (blocks : List (List ℤ))
    → IsShape shape → s.cursor.skip ≡ 0 → mcu_at shape bytes s ≡ Ok (blocks, next) → IsAfter s next
mcu_after shape bytes s next blocks is skip e =
    let one = mcu_fine shape bytes s (blocks, next) e in
    let m = blocks_read shape.slots s.before bytes s.cursor one.read is.slots one.is in
    let on = bits_on m.bits bytes s.cursor one.read.cursor skip m.takes in
    after_by (s.count + 1 == shape.mcus) (ends_interval shape.interval (s.count + 1)) shape bytes s
    next one.read one.after on.0 on.1

pub mcus_after : (n : ℕ) (shape : Shape) (bytes : List ℕ) (s end : Standing)
    (blocks : List (List (List ℤ))) → IsShape shape → s.cursor.skip ≡ 0
    → mcus_at n shape bytes s ≡ Ok (blocks, end) → IsAfter s end
mcus_after zero shape bytes s end blocks is skip e =
    let p = both_fine {A = List (List (List ℤ))} {B = Standing} ([], s) (blocks, end)
    (sym (no_mcus shape bytes s) ∙ e) in
    subst (λ (g : Standing). IsAfter s g) p.1
    (record { skip = skip; on = omega arith })
mcus_after (suc n) shape bytes s end blocks is skip e =
    let f = mcus_fine n shape bytes s (blocks, end) e in
    let a = mcu_after shape bytes s f.next f.first is skip f.one in
    let b = mcus_after n shape bytes f.next end f.more is a.skip f.others in
    let on = a.on in
    let more = b.on in
    record {
      skip = b.skip;
      on = omega (arith, on, more);
    }
