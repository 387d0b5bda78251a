-- MCUs are read alike wherever the unit of the bit before stood, and tell the same pad bits.
use Rattle.std.proofs.Common.{◌≡◌, ℕ, zero, suc, ◌+◌, Bool, true, false, ◌==◌, List, [], ◌++◌, map, drop, ℤ, None, Ok, refl, sym, ap, ap₂, ◌∙◌, subst}
use Rattle.std.specs.Prelude.{unwrap_or}
use Rattle.bit_list.specs.Units.{Cursor, starting}
use Rattle.scan_spec.specs.Blocks.{blocks_text, dcs_after}
use Rattle.scan_spec.specs.Slots.{Shape}
use Rattle.scan_spec.specs.Scans.{restart_marker, ends_interval}
use Rattle.scan_spec.specs.Spots.{interval_number}
use Rattle.scan_spec.specs.ScanReading.{BlocksRead, blocks_at, Standing, mcu_at, mcus_at}
use Rattle.scan_spec.specs.BlockBits.{in_zigzag}
use Rattle.scan_spec.specs.ScanPads.{pads_told}
use Rattle.scan_spec.specs.ScanLaws.{IsShape}
use Rattle.scan_spec.proofs.BitsTaken.{is_fine, both_fine, fine}
use Rattle.scan_spec.proofs.BlocksTaken.{blocks_read, blocks_again}
use Rattle.scan_spec.proofs.Intervals.{pad_after}
use Rattle.scan_spec.proofs.PadsTold.{pads_more, no_pads_told}
use Rattle.scan_spec.proofs.ScanTaken.{place_standing, over_standing, on_standing, end_by, end_taken, marker_taken, end_again, marker_again, mcu_fine, mcu_again, mcus_fine, mcus_more, no_mcus, agrees_known}
use Rattle.cut_spec.proofs.CursorsAlike.{bits_alike}
use Rattle.cut_spec.proofs.McusAfter.{mcu_after}
use Rattle.cut_spec.proofs.PadsFollowed.{told_alike}

-- one standing is as another: the bits to come are the same
pub record IsAlike (s t : Standing) : Type 0 where
  pub cursor : t.cursor ≡ record s.cursor { last = t.cursor.last }
  pub before : t.before ≡ s.before
  pub count : t.count ≡ s.count

abbrev read_at : BlocksRead → ℕ → BlocksRead
read_at read last = record read { cursor = record read.cursor { last = last } }

abbrev EndAlike : Bool → Bool → Shape → List ℕ → Standing → BlocksRead → Standing → Type 0
EndAlike over ends shape bytes t read next =
    (u : Standing) × (end_by over ends shape bytes t read ≡ Ok u) × IsAlike next u
    × (u.pad ≡ next.pad)

-- after an MCU's blocks
end_alike : (over ends : Bool) (shape : Shape) (bytes : List ℕ) (s t next : Standing)
    (read : BlocksRead) (last : ℕ) → IsAlike s t → end_by over ends shape bytes s read ≡ Ok next
    → EndAlike over ends shape bytes t (read_at read last) next
end_alike true ends shape bytes s t next read last alike e =
    let pad = unwrap_or next.pad true in
    let n = end_taken ends shape bytes s next read pad e (agrees_known next.pad pad refl) in
    let pads = n.pads in
    let stop : Cursor = record read.cursor { left = []; last = last } in (
      over_standing stop t.count (pad_after None pads.k pad),
      end_again ends shape bytes t (read_at read last) pad pads.k pads.left,
      record {
        cursor = ap (λ (g : Standing). record g.cursor { last = last }) (sym n.is);
        before = ap (λ (g : Standing). g.before) (sym n.is);
        count = ap (λ (n : ℕ). n + 1) alike.count ∙ ap (λ (g : Standing). g.count) (sym n.is);
      },
      sym pads.next_is,
    )
end_alike false true shape bytes s t next read last alike e =
    let n = marker_taken shape bytes s next read e in
    let pad = unwrap_or n.known true in
    let pads = n.pads pad (agrees_known n.known pad refl) in
    let known = pad_after None pads.k pad in
    let place = read.cursor.next + 2 in
    let marker =
    ap (λ (k : ℕ). restart_marker (interval_number shape k) ++ drop n.place bytes)
    (sym alike.count) in
    let at : next.cursor ≡ starting place 0 =
    ap (λ (g : Standing). g.cursor) n.is ∙ ap (λ (k : ℕ). starting k 0) n.place_is in (
      place_standing place t.count known,
      marker_again shape bytes (drop n.place bytes) t (read_at read last) pad pads.k pads.left
          (n.marker ∙ marker),
      record {
        cursor = ap (λ (c : Cursor). record c { last = place }) (sym at);
        before = ap (λ (g : Standing). g.before) (sym n.is);
        count = ap (λ (n : ℕ). n + 1) alike.count ∙ ap (λ (g : Standing). g.count) (sym n.is);
      },
      sym pads.next_is ∙ sym (ap (λ (g : Standing). g.pad) n.is),
    )
end_alike false false shape bytes s t next read last alike e =
    let is = is_fine (on_standing read.cursor read.before s.count) next e in (
      on_standing (record read.cursor { last = last }) read.before t.count,
      refl,
      record {
        cursor = ap (λ (g : Standing). record g.cursor { last = last }) is;
        before = ap (λ (g : Standing). g.before) is;
        count = ap (λ (n : ℕ). n + 1) alike.count ∙ ap (λ (g : Standing). g.count) is;
      },
      ap (λ (g : Standing). g.pad) is,
    )

abbrev read_with : List (List ℤ) → List ℤ → Cursor → BlocksRead
read_with blocks before cursor = record { blocks = blocks; before = before; cursor = cursor }

-- one MCU
abbrev McuAlike : Shape → List ℕ → List (List ℤ) → Standing → Standing → Type 0
McuAlike shape bytes blocks t next =
    (u : Standing) × (mcu_at shape bytes t ≡ Ok (blocks, u)) × IsAlike next u × (u.pad ≡ next.pad)

mcu_alike : (shape : Shape) (bytes : List ℕ) (s t next : Standing) (blocks : List (List ℤ))
    → IsShape shape → s.cursor.skip ≡ 0 → IsAlike s t
    → mcu_at shape bytes s ≡ Ok (blocks, next) → McuAlike shape bytes blocks t next
mcu_alike shape bytes s t next blocks is skip alike e =
    let one = mcu_fine shape bytes s (blocks, next) e in
    let read = one.read in
    let m = blocks_read shape.slots s.before bytes s.cursor read is.slots one.is in
    let b = bits_alike m.bits bytes s.cursor read.cursor t.cursor.last skip m.takes in
    let text = ap (λ (d : List ℤ). blocks_text shape.slots d m.mcu) alike.before ∙ m.text in
    let there =
    ap (blocks_at shape.slots t.before bytes) alike.cursor
    ∙ blocks_again shape.slots t.before m.mcu bytes m.bits
    (record s.cursor { last = t.cursor.last }) (record read.cursor { last = b.0 }) is.slots m.each
    m.long text b.1 in
    let made : read_with (map in_zigzag m.mcu) (dcs_after shape.slots t.before m.mcu)
    (record read.cursor { last = b.0 }) ≡ read_at read b.0 =
    ap₂ (λ (l : List (List ℤ)) (d : List ℤ). read_with l d (record read.cursor { last = b.0 }))
    (sym m.same)
    (ap (λ (d : List ℤ). dcs_after shape.slots d m.mcu) alike.before ∙ sym m.last) in
    let f = end_alike (s.count + 1 == shape.mcus) (ends_interval shape.interval (s.count + 1))
    shape bytes s t next read b.0 alike one.after in
    let after =
    ap
    (λ (n : ℕ). end_by (n + 1 == shape.mcus) (ends_interval shape.interval (n + 1)) shape bytes
    t (read_at read b.0)) alike.count ∙ f.1 in (
      f.0,
      mcu_again shape bytes t f.0 (read_at read b.0)
          (there ∙ ap (λ (r : BlocksRead). fine r) made) after
          ∙ ap (λ (l : List (List ℤ)). fine (l, f.0)) (sym one.same),
      f.2,
      f.3,
    )

-- some MCUs
abbrev pub McusAlike : ℕ → Shape → List ℕ → List (List (List ℤ)) → Standing → Standing → Standing
    → Type 0
McusAlike n shape bytes blocks s t end =
    (u : Standing) × (mcus_at n shape bytes t ≡ Ok (blocks, u)) × IsAlike end u
    × (pads_told n shape bytes t ≡ pads_told n shape bytes s)

pub mcus_alike : (n : ℕ) (shape : Shape) (bytes : List ℕ) (s t end : Standing)
    (blocks : List (List (List ℤ))) → IsShape shape → s.cursor.skip ≡ 0
    → IsAlike s t → mcus_at n shape bytes s ≡ Ok (blocks, end)
    → McusAlike n shape bytes blocks s t end
mcus_alike zero shape bytes s t end blocks is skip alike e =
    let p = both_fine {A = List (List (List ℤ))} {B = Standing} ([], s) (blocks, end)
    (sym (no_mcus shape bytes s) ∙ e) in (
      t,
      no_mcus shape bytes t ∙ ap (λ (l : List (List (List ℤ))). fine (l, t)) p.0,
      subst (λ (g : Standing). IsAlike g t) p.1 alike,
      no_pads_told shape bytes t ∙ sym (no_pads_told shape bytes s),
    )
mcus_alike (suc n) shape bytes s t end blocks is skip alike e =
    let f = mcus_fine n shape bytes s (blocks, end) e in
    let on = mcu_after shape bytes s f.next f.first is skip f.one in
    let m = mcu_alike shape bytes s t f.next f.first is skip alike f.one in
    let r = mcus_alike n shape bytes f.next m.0 end f.more is on.skip m.2 f.others in (
      r.0,
      mcus_more n shape bytes t m.0 r.0 f.first f.more m.1 r.1
          ∙ ap (λ (l : List (List (List ℤ))). fine (l, r.0)) (sym f.same),
      r.2,
      pads_more n shape bytes t m.0 f.first m.1
          ∙ ap₂ (λ (a b : List Bool). a ++ b) (told_alike shape m.0 f.next m.2.count m.3) r.3
          ∙ sym (pads_more n shape bytes s f.next f.first f.one),
    )
