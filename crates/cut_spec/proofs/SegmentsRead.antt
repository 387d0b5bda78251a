-- The first MCUs of a scan are read, and those after them from what the first ones hand over.
use Rattle.std.proofs.Common.{◌≡◌, ℕ, zero, suc, ◌+◌, ◌-◌, ◌≤◌, Bool, List, [], ◌∷◌, ◌++◌, length, take, drop, take-add, ℤ, None, Ok, refl, sym, ap, ap₂, ◌∙◌, subst, arith, length-append, length-drop}
use Rattle.std.specs.List.{AllByRecursion}
use Rattle.bit_list.specs.Units.{Cursor}
use Rattle.scan_spec.specs.Slots.{Shape}
use Rattle.scan_spec.specs.Scans.{Mcu, IsMcu, pad_at}
use Rattle.scan_spec.specs.Spots.{Spot, Put, first_spot, interval_number, prefixed_put, then_put, mcus_put, put_first, count_in, spot_in, bytes_done}
use Rattle.scan_spec.specs.ScanReading.{Standing, standing_at, mcus_at}
use Rattle.scan_spec.specs.ScanPads.{pads_told}
use Rattle.scan_spec.specs.ScanLaws.{IsShape, Begins, zigzag_of}
use Rattle.scan_spec.proofs.Parts.{put_in_parts}
use Rattle.scan_spec.proofs.BitsTaken.{fine}
use Rattle.scan_spec.proofs.PadsTold.{Follows, follows_all}
use Rattle.scan_spec.proofs.ScanTaken.{read_again, first_number}
use Rattle.cut_spec.specs.HandedOver.{cursor_from, standing_from}
use Rattle.cut_spec.specs.RowHandovers.{handover_at}
use Rattle.cut_spec.specs.HandoverLaws.{StandsAt, FirstAreRead, SegmentIsRead}
use Rattle.cut_spec.proofs.UnitsBegun.{AreBytes}
use Rattle.cut_spec.proofs.BegunHandedOver.{taken_is, place_is, entered, begun_again}
use Rattle.cut_spec.proofs.ScanBytes.{are_bytes}
use Rattle.cut_spec.proofs.McuOn.{IsOn}
use Rattle.cut_spec.proofs.McusAlike.{IsAlike, mcus_alike}
use Rattle.cut_spec.proofs.FirstsRead.{Firsts, on_at, firsts}

-- ---- from the scan's start

-- what the whole scan's reading comes to
record Whole (shape : Shape) (mcus : List Mcu) (pads : List Bool) (bytes : List ℕ)
    (place after : ℕ) : Type 0 where
  end : Standing
  is : mcus_at (length mcus) shape bytes (standing_at place) ≡ Ok (zigzag_of mcus, end)
  within : end.cursor.next ≤ after
  follows : Follows (pad_at pads) (interval_number shape 0)
      (pads_told (length mcus) shape bytes (standing_at place))
  are : AreBytes bytes place after
  each : AllByRecursion (IsMcu shape.slots) mcus
  count : length mcus ≡ shape.mcus

whole : (shape : Shape) (mcus : List Mcu) (pads : List Bool) (bytes : List ℕ) (place after : ℕ)
    → IsShape shape → Begins shape mcus pads bytes place after
    → Whole shape mcus pads bytes place after
whole shape mcus pads bytes place after is b =
    let r = read_again shape bytes place after mcus pads is b in
    let grid = b.is.grid in
    let next = r.2 in
    record {
      end = r.0;
      is = ap (λ (n : ℕ). mcus_at n shape bytes (standing_at place)) grid.count ∙ r.1;
      within = omega (arith, next);
      follows = subst (λ (l : List Bool). Follows (pad_at pads) (interval_number shape 0) l)
          (sym (ap (λ (n : ℕ). pads_told n shape bytes (standing_at place)) grid.count ∙ r.3))
          (subst (λ (n : ℕ). Follows (pad_at pads) n pads) (sym (first_number shape))
          (follows_all pads));
      are = are_bytes shape mcus pads bytes place after b;
      each = grid.each;
      count = grid.count;
    }

from_start : (n : ℕ) (shape : Shape) (mcus : List Mcu) (pads : List Bool) (bytes : List ℕ)
    (place after : ℕ) → IsShape shape → n ≤ length mcus
    → (w : Whole shape mcus pads bytes place after)
    → Firsts n shape bytes (pad_at pads) place first_spot (standing_at place) mcus w.end
from_start n shape mcus pads bytes place after is few w =
    let count = w.count in
    firsts n mcus shape bytes (pad_at pads) place after first_spot
    (standing_at place) w.end is w.each few w.are
    (record {
      begun = record { skip = refl; unit = (refl, refl) };
      before = refl;
      count = refl;
    }) w.is w.within (omega (arith, count)) w.follows

abbrev spot_with : List Bool → List ℤ → ℕ → Spot
spot_with begun before count = record { begun = begun; before = before; count = count }

-- a reader stands at what was put
stands_at : (shape : Shape) (pads : ℕ → Bool) (mcus : List Mcu) (bytes : List ℕ) (place n : ℕ)
    (at : Standing) (text : List ℕ) (spot : Spot)
    → put_first shape pads mcus n ≡ Ok (text, spot)
    → IsOn bytes (place + length text) spot at → StandsAt shape pads mcus bytes place n at
stands_at shape pads mcus bytes place n at text spot put on = record {
  spot =
      ap₂ (λ (b : List Bool) (d : List ℤ). spot_with b d at.count)
      (taken_is bytes (place + length text) spot.begun at.cursor on.begun) (sym on.before)
      ∙ ap (spot_with spot.begun spot.before) (sym on.count) ∙ ap spot_in (sym put);
  resumes = place_is bytes (place + length text) spot.begun at.cursor on.begun
      ∙ ap (λ (p : Put). place + count_in p) (sym put);
}

pub first_are_read : FirstAreRead
first_are_read shape bytes place after mcus pads n is b few =
    let w = whole shape mcus pads bytes place after is b in
    let count = w.count in
    let f = from_start n shape mcus pads bytes place after is (omega (arith, few, count)) w in
    let same : n ≡ n - 0 = omega arith in (
      f.at,
      f.read ∙ ap (λ (k : ℕ). fine (zigzag_of (take k mcus), f.at)) same,
      stands_at shape (pad_at pads) mcus bytes place n f.at f.text f.after f.put f.on,
    )

-- ---- from a handover

abbrev standing_with : Cursor → List ℤ → ℕ → Standing
standing_with cursor before count =
    record { cursor = cursor; before = before; count = count; pad = None }

all_drop : (n : ℕ) (shape : Shape) (mcus : List Mcu) → AllByRecursion (IsMcu shape.slots) mcus
    → AllByRecursion (IsMcu shape.slots) (drop n mcus)
all_drop zero shape mcus all = all
all_drop (suc n) shape [] all = tt
all_drop (suc n) shape (mcu ∷ mcus) all = all_drop n shape mcus all.1

-- where a reader goes on from what was put
entered_at : (shape : Shape) (pads : ℕ → Bool) (mcus : List Mcu) (bytes : List ℕ) (place n : ℕ)
    (at : Standing) (text : List ℕ) (spot : Spot)
    → put_first shape pads mcus n ≡ Ok (text, spot)
    → IsOn bytes (place + length text) spot at → spot.count ≡ n
    → standing_from bytes (handover_at shape pads mcus n) n
    (place + bytes_done shape pads mcus n)
    ≡ standing_with (record at.cursor { last = place + length text }) at.before at.count
entered_at shape pads mcus bytes place n at text spot put on count =
    ap
    (λ (p : Put). standing_with
    (cursor_from bytes (place + count_in p) (length (spot_in p).begun)) (spot_in p).before n)
    put
    ∙ ap₂ (λ (c : Cursor) (d : List ℤ). standing_with c d n)
    (entered bytes (place + length text) spot.begun at.cursor on.begun) on.before
    ∙ ap (standing_with (record at.cursor { last = place + length text }) at.before)
    (sym count ∙ on.count)

pub segment_is_read : SegmentIsRead
segment_is_read shape bytes place after mcus told from to is b some few =
    let pads : ℕ → Bool = pad_at told in
    let w = whole shape mcus told bytes place after is b in
    let count = w.count in
    let f = from_start from shape mcus told bytes place after is
    (omega (arith, some, few, count)) w in
    let here = place + length f.text in
    let begin = standing_with (record f.at.cursor { last = here }) f.at.before f.at.count in
    let spots : f.after.count ≡ from = f.count ∙ omega arith in
    let others = drop from mcus in
    let n = to - from in
    let alike : IsAlike f.at begin = record { cursor = refl; before = refl; count = refl } in
    let again = mcus_alike (length others) shape bytes f.at begin w.end
    (zigzag_of others) is f.on.begun.skip alike f.rest in
    let stop = ap (λ (c : Cursor). c.next) again.2.cursor in
    let within = w.within in
    let rest = length-drop from mcus in
    let stands : f.at.count ≡ from = sym f.on.count ∙ spots in
    let enough : n ≤ length others = omega (arith, rest, few, count) in
    let on : IsOn bytes here f.after begin =
    record {
      begun = begun_again bytes here f.after.begun f.at.cursor f.on.begun;
      before =
          f.on.before;
      count = f.on.count;
    } in
    let g = firsts n others shape bytes pads here after f.after begin again.0 is
    (all_drop from shape mcus w.each) enough (λ q l h. w.are q (omega (arith, l)) h) on again.1
    (omega (arith, stop, within)) (omega (arith, rest, count, stands, some, few))
    (subst (λ (l : List Bool). Follows pads (interval_number shape f.at.count) l) (sym again.3)
    f.follows) in
    let sum : from + n ≡ to = omega (arith, some) in
    let cut : take to mcus ≡ take from mcus ++ take n others =
    ap (λ (k : ℕ). take k mcus) (sym sum) ∙ take-add from n mcus in
    let put : put_first shape pads mcus to ≡ Ok (f.text ++ g.text, g.after) =
    ap (mcus_put shape pads first_spot) cut
    ∙ put_in_parts shape pads (take from mcus) (take n others) first_spot
    ∙ ap (λ (p : Put). then_put p (λ next. mcus_put shape pads next (take n others))) f.put
    ∙ ap (prefixed_put f.text) g.put in
    let all = length-append f.text g.text in
    let long : here + length g.text ≡ place + length (f.text ++ g.text) = omega (arith, all) in (
      g.at,
      ap (mcus_at n shape bytes)
          (entered_at shape pads mcus bytes place from f.at f.text f.after f.put f.on spots)
          ∙ g.read,
      stands_at shape pads mcus bytes place to g.at (f.text ++ g.text) g.after put
          (on_at bytes (here + length g.text) (place + length (f.text ++ g.text)) g.after g.at long
          g.on),
    )
