-- The second version can say the pad bits of each file.
use Rattle.std.proofs.Common.{◌≡◌, ℕ, Bool, true, false, ◌==◌, not, ◌&&◌, if◌then◌else◌, List, length, drop, refl, sym, ap, ◌∙◌, arith}
use Rattle.std.specs.List.{list_all}
use Rattle.std.proofs.lemmas.Bool.{eq-eqb, and_from}
use Rattle.bit_list.specs.Bits.{bits_of}
use Rattle.scan_spec.specs.Pads.{Same, Listed, pad_list, interval_count, list_room, bits_sum}
use Rattle.scan_spec.specs.Scans.{intervals_of, pad_counts}
use Rattle.scan_spec.specs.Slots.{Shape, shape_of}
use Rattle.scan_spec.proofs.PadSpelling.{list_is_clean}
use Rattle.scan_spec.proofs.PadsAlike.{are_long, intervals_are}
use Rattle.box_format.specs.Parts.{can_pad}
use Rattle.container_spec.specs.ScanStream.{grid_of}
use Rattle.container_spec.specs.MeaningLaws.{FirstCanPad, SecondCanPad}
use Rattle.container_spec.specs.SegmentLaws.{Suits}
use Rattle.container_spec.proofs.PlanGrids.{plan_suits}

-- a list of pad bits has a bit for each interval, and bits of 0 after them
can_tell : (shape : Shape) (pads : List Bool) (listed bit : Bool)
    → length pads ≡ interval_count shape
    → can_pad true shape (if listed then Listed (pad_list pads) else Same bit) ≡ true
can_tell shape pads false bit count = refl
can_tell shape pads true bit count =
    let clean = list_is_clean pads in
    let long : length (pad_list pads) ≡ list_room shape = omega (arith, clean.0, count) in
    and_from (length (pad_list pads) == list_room shape)
    (list_all (λ bit. not bit) (drop (interval_count shape) (bits_of (pad_list pads))))
    (eq-eqb (length (pad_list pads)) (list_room shape) long)
    (ap (λ (n : ℕ). list_all (λ bit. not bit) (drop n (bits_of (pad_list pads)))) (sym count)
    ∙ clean.1)

pub second_can_pad : SecondCanPad
second_can_pad w file trailer plan mcus pads bytes known is =
    let shape = shape_of plan in
    let counts = pad_counts shape.slots (intervals_of shape mcus) in
    let sum = bits_sum counts pads in
    let suits : Suits shape (grid_of plan) = plan_suits w file plan bytes known is.header in
    let some = suits.shape_is.mcus in
    let grid = is.is.grid.count in
    can_tell shape pads (sum.zero && sum.one) (not sum.zero)
    (are_long counts pads is.is.told
    ∙ intervals_are shape mcus (omega (arith, some)) (omega (arith, grid)))

first_by : (shape : Shape) (list : List ℕ) (listed bit : Bool)
    → can_pad false shape (if listed then Listed list else Same bit) ≡ not listed
first_by shape list true bit = refl
first_by shape list false bit = refl

pub first_can_pad : FirstCanPad
first_can_pad plan mcus pads =
    let shape = shape_of plan in
    let sum = bits_sum (pad_counts shape.slots (intervals_of shape mcus)) pads in
    first_by shape (pad_list pads) (sum.zero && sum.one) (not sum.zero)
