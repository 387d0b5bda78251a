use Rattle.std.proofs.Common.{◌≡◌, ◌<◌, ◌+◌, ℕ, List, drop, length, refl, sym, ◌∙◌, arith}
use Rattle.std.proofs.lemmas.Bool.{le-ltb, lt-ltb}
use Rattle.byteorder.specs.Endian.{big_number}
use Rattle.box_format.specs.Versions.{layout_of}
use Rattle.box_format.specs.Fields.{segments_at, in_record}
use Rattle.box_format.specs.Whole.{listed_at}
use Rattle.box_format.specs.declared.version.Layout.{Layout}
use Rattle.box_format.proofs.PlaceLists.{ended_long, falling_step, rising_end, rising_step}
use Rattle.box_format.proofs.checks.are_rising.Goals as goal
use Rattle.box_format.specs.Raws.{place_from}

listed_long : (l : Layout) (bytes : List ℕ) (place : ℕ)
    → length (listed_at l bytes place) ≡ segments_at bytes place + 1
listed_long l bytes place =
    ended_long (in_record place_from l bytes place) (segments_at bytes place) (big_number 8 (drop (place + 14) bytes))

-- two places after another
two : (l : Layout) (bytes : List ℕ) (place i : ℕ) → i < segments_at bytes place
    → i + 1 < length (listed_at l bytes place)
two l bytes place i below = omega (arith, listed_long l bytes place, below)

pub loop-i-init : goal.loop-i-init
loop-i-init c = record {
  count = c.segments_at-segments.ensures;
  place = c.place_in-place.ensures;
  left = refl;
}

pub returns-then-next-place : goal.returns-then-next-place
returns-then-next-place c =
    let l = layout_of c.args.version in
    let bytes = c.args.bytes.now in
    let count = c.loop-i.invariant.count in
    let below : c.loop-i.i < segments_at bytes c.args.fields = omega arith in
    sym (falling_step (listed_at l bytes c.args.fields) c.loop-i.i c.loop-i.place
    c.place_in-next.result (two l bytes c.args.fields c.loop-i.i below) c.loop-i.invariant.place
    c.place_in-next.ensures (lt-ltb c.place_in-next.result c.loop-i.place (omega arith)))
    ∙ c.loop-i.invariant.left

pub loop-i-preserved : goal.loop-i-preserved
loop-i-preserved c =
    let l = layout_of c.args.version in
    let bytes = c.args.bytes.now in
    let count = c.loop-i.invariant.count in
    let below : c.loop-i.i < segments_at bytes c.args.fields = omega arith in
    let next = c.place_in-next.ensures in
    record {
      count = count;
      place = next;
      left = rising_step (listed_at l bytes c.args.fields) c.loop-i.i c.loop-i.place
          c.place_in-next.result (two l bytes c.args.fields c.loop-i.i below)
          c.loop-i.invariant.place next
          (le-ltb c.place_in-next.result c.loop-i.place (omega arith))
          ∙ c.loop-i.invariant.left;
    }

pub returns : goal.returns
returns c =
    let l = layout_of c.args.version in
    let bytes = c.args.bytes.now in
    let count = c.loop-i.invariant.count in
    let past = c.loop-i-test.false in
    sym (rising_end (listed_at l bytes c.args.fields) c.loop-i.i
    (omega (arith, listed_long l bytes c.args.fields, count, past)))
    ∙ c.loop-i.invariant.left
